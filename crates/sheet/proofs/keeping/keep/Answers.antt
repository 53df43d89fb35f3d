use Rattle.std.proofs.Common.{ap, ◌∙◌}
use Rattle.topics.specs.Admission.{admitted}
use Rattle.sheet.specs.Keeping.{answer_to, held_after}
use Rattle.store.specs.Held.{properties_key}
use Rattle.sheet.proofs.keeping.keep.Goals as goal

pub returns : goal.returns
returns g c =
    let es = g.S.Store.held c.args.store.now in
    let n = g.S.Store.capacity c.args.store.now in
    let k = properties_key c.args.handle.0 in
    record {
      answer = c.keep_at.ensures.answer ∙ ap (λ a. answer_to (admitted a c.args.map.now) es n k) c.data_address-address.ensures;
      after = c.keep_at.ensures.after ∙ ap (λ a. held_after (admitted a c.args.map.now) es n k) c.data_address-address.ensures;
    }
