use Rattle.std.specs.Fn.{FnReturnsAt}
use Rattle.subscribers.proofs.Keeping.{Keeping}
use Rattle.subscribers.proofs.list.scan.retain.Given as goal

-- what is kept so far stands in front
abbrev pub invariant-loop-i : goal.invariant-loop-i
invariant-loop-i g l = Keeping (FnReturnsAt g.F.Fn l.keep) l.initial.row l.row l.kept l.i
