use Rattle.std.proofs.Common.{sym, arith}
use Rattle.log_store.proofs.Sifts.{sift_start, sift_next, sift_drop, sift_keep}
use Rattle.log_store.proofs.sift.sift.Goals as goal

pub loop-entry-init : goal.loop-entry-init
loop-entry-init g c = sift_start c.args.bytes.now g.test c.requires.1.0

pub overflow_sub-from : goal.overflow_sub-from
overflow_sub-from g c = (sift_next c.loop-entry.invariant c.of.ensures c.in-Some.ensures.steps).room

pub overflow_sub-top : goal.overflow_sub-top
overflow_sub-top g c = let r = (sift_next c.loop-entry.invariant c.of.ensures c.in-Some.ensures.steps).room in let b = c.loop-entry.invariant.below in omega arith

pub loop-entry-smaller-then-stays : goal.loop-entry-smaller-then-stays
loop-entry-smaller-then-stays g c = let r = (sift_next c.loop-entry.invariant c.of.ensures c.in-Some.ensures.steps).room in omega arith

pub loop-entry-preserved-then-stays : goal.loop-entry-preserved-then-stays
loop-entry-preserved-then-stays g c =
    sift_keep c.loop-entry.invariant c.of.ensures c.in-Some.ensures.steps c.of-in-Some.ensures (sym (c.requires.1.1.1 _ _ _ c.if-stays.ensures)) c.copy_within.new.self c.copy_within.ensures.after

pub loop-entry-smaller : goal.loop-entry-smaller
loop-entry-smaller g c = let r = (sift_next c.loop-entry.invariant c.of.ensures c.in-Some.ensures.steps).room in omega arith

pub loop-entry-preserved : goal.loop-entry-preserved
loop-entry-preserved g c =
    sift_drop c.loop-entry.invariant c.of.ensures c.in-Some.ensures.steps c.of-in-Some.ensures (sym (c.requires.1.1.1 _ _ _ c.if-stays.ensures))
