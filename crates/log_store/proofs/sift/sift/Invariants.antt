use Rattle.log_store.proofs.Sifts.{Sifting}
use Rattle.log_store.proofs.sift.sift.Given as goal

abbrev pub invariant-loop-entry : goal.invariant-loop-entry
invariant-loop-entry g l = Sifting l.initial.bytes l.bytes l.end l.top g.test

abbrev pub decreases-loop-entry : goal.decreases-loop-entry
decreases-loop-entry g l = l.end
