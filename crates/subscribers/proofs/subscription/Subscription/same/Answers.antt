use Rattle.std.proofs.Common.{sym, ◌∙◌}
use Rattle.std.proofs.lemmas.Bool.{eqb-false, eqb-true, false≢true}
use Rattle.subscribers.specs.Pairs.{standing_of}
use Rattle.subscribers.proofs.Sameness.{by_token, other_client, other-handle}
use Rattle.subscribers.proofs.subscription.Subscription.same.Goals as goal
use Rattle.subscribers.proofs.subscription.Subscription.same.Goals.{then-eq, else-eq}

pub returns-then-same-clause-answer : goal.returns-then-same-clause-answer
returns-then-same-clause-answer g c =
    let id = g.C.Client.identity in
    elim c.if-eq.branch [
      | then-eq w ↦ by_token (standing_of id c.args.self.now) (standing_of id c.args.other.now) _ _ (eqb-true _ _ (sym c.eq.ensures ∙ w.if-eq.true)) w.same.ensures (sym w.value-is ∙ c.if-same.true) c.same-then-same.ensures
      | else-eq w ↦ absurd (false≢true (sym w.if-eq.false ∙ sym w.value-is ∙ c.if-same.true))
    ]

pub returns-else-same-clause-answer : goal.returns-else-same-clause-answer
returns-else-same-clause-answer g c =
    let id = g.C.Client.identity in
    c.if-same.false
    ∙ elim c.if-eq.branch [
      | then-eq w ↦ other_client (standing_of id c.args.self.now) (standing_of id c.args.other.now) _ w.same.ensures (sym w.value-is ∙ c.if-same.false)
      | else-eq w ↦ other-handle (standing_of id c.args.self.now) (standing_of id c.args.other.now) (eqb-false _ _ (sym c.eq.ensures ∙ w.if-eq.false))
    ]
