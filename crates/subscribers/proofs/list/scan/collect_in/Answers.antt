use Rattle.std.proofs.Common.{◌+◌, ◌<◌, length, take, set, sym, ap, ◌∙◌, arith}
use Rattle.std.proofs.lemmas.Bool.{eqb-false, eqb-true}
use Rattle.std.proofs.lemmas.List.{length_push}
use Rattle.protocol.specs.Buffers.{laid}
use Rattle.subscribers.specs.Pairs.{subscribers_at}
use Rattle.subscribers.proofs.Collecting.{at_below, at_more_no, at_more_yes, laid_more}
use Rattle.subscribers.proofs.list.scan.collect_in.Goals as goal
use Rattle.subscribers.proofs.list.scan.collect_in.Goals.{then-eq, else-eq}

pub bounds-work-n : goal.bounds-work-n
bounds-work-n g c =
    let here = eqb-true _ _ (sym c.eq.ensures ∙ c.if-eq.true) in
    let more = at_below c.args.handle.0 c.args.pairs.now c.loop-pair.pair-index c.pair-item.result c.loop-pair-test.true c.pair-item.is here in
    omega arith

pub loop-pair-preserved : goal.loop-pair-preserved
loop-pair-preserved g c =
    let h = c.args.handle.0 in
    let ps = c.args.pairs.now in
    let i = c.loop-pair.pair-index in
    let n = c.loop-pair.n in
    let p = c.pair-item.result in
    let buf = c.args.work.now in
    let those = subscribers_at h (take i ps) in
    let (count, filled) = c.loop-pair.invariant in
    elim c.if-eq.branch [
      | then-eq w ↦ (
          let here = eqb-true _ _ (sym c.eq.ensures ∙ w.if-eq.true) in
          let yes = at_more_yes h ps i p c.loop-pair-test.true c.pair-item.is here in
          let more = at_below h ps i p c.loop-pair-test.true c.pair-item.is here in
          let within : n < length buf = omega arith in (
            w.n-is ∙ ap (λ k. k + 1) count ∙ sym (length_push those p.subscriber) ∙ ap length (sym yes),
            w.work-is ∙ ap (λ ws. set ws n p.subscriber) filled ∙ laid_more those buf n p.subscriber count within ∙ ap (λ t. laid t buf) (sym yes),
          ))
      | else-eq w ↦ (
          let none = at_more_no h ps i p c.loop-pair-test.true c.pair-item.is (eqb-false _ _ (sym c.eq.ensures ∙ w.if-eq.false)) in
          (w.n-is ∙ count ∙ ap length (sym none), w.work-is ∙ filled ∙ ap (λ t. laid t buf) (sym none)))
    ]
