use Rattle.std.proofs.Common.{refl, ap, ◌∙◌}
use Rattle.std.specs.Option.{option_map}
use Rattle.protocol.proofs.Bytes.{alike_decides}
use Rattle.std.proofs.lemmas.Slice.Eq.{slice_eq-Decides}
use Rattle.std.proofs.lemmas.Bool.Decides.{same_from_decides, Decides-eqb}
use Rattle.topics.specs.Admission.{gives}
use Rattle.topics.proofs.Topics.{given}
use Rattle.topics.proofs.admission.is_topic_type.Goals as goal

pub returns : goal.returns
returns c =
    let t = c.as_slice.result in
    c.eq.ensures
    ∙ given _ t (λ s. same_from_decides _ _ (slice_eq-Decides Decides-eqb s.now t.now _ refl) (alike_decides s.now t.now)) c.args.text
    ∙ ap (λ x. gives x (option_map (λ y. y.now) c.args.text)) c.as_slice.ensures
