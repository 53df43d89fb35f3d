use Rattle.std.proofs.Common.{◌<◌, length, arith}
use Rattle.std.specs.Fn.{FnReturnsAt}
use Rattle.std.proofs.lemmas.Fn.{says_at}
use Rattle.subscribers.proofs.Keeping.{Keeping-all, Keeping-more_no, Keeping-more_yes}
use Rattle.subscribers.proofs.list.scan.retain.Goals as goal
use Rattle.subscribers.proofs.list.scan.retain.Goals.{then-keep, else-keep}

pub loop-i-preserved : goal.loop-i-preserved
loop-i-preserved g c =
    let R = FnReturnsAt g.F.Fn c.args.keep in
    let inside : c.loop-i.i < length c.loop-i.row = omega arith in
    elim c.if-keep.branch [
      | then-keep w ↦ rw (w.row-is, w.kept-is) (Keeping-more_yes R c.loop-i.invariant inside c.index-row-i.is (says_at g.F.Fn c.keep.ensures w.if-keep.true))
      | else-keep w ↦ rw (w.row-is, w.kept-is) (Keeping-more_no R c.loop-i.invariant inside c.index-row-i.is (says_at g.F.Fn c.keep.ensures w.if-keep.false))
    ]

pub returns-clause-kept : goal.returns-clause-kept
returns-clause-kept g c = Keeping-all (FnReturnsAt g.F.Fn c.args.keep) c.loop-i.invariant (omega arith)
