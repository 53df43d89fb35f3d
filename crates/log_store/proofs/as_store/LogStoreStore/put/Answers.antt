use Rattle.std.proofs.Common.{◌+◌, ◌/◌, ◌≤◌, length, sym, ap, ◌∙◌, subst, arith}
use Rattle.log_store.specs.Laws.{sound-meaning}
use Rattle.log_store.specs.Log.{log_capacity, log_held}
use Rattle.log_store.specs.Format.{entries}
use Rattle.log_store.specs.Memories.{contents, size}
use Rattle.log_store.proofs.Stores.{place_for, put_counts}
use Rattle.log_store.proofs.as_store.LogStoreStore.put.Goals as goal

pub invariant_of-self : goal.invariant_of-self
invariant_of-self c =
    let s = c.args.self.now in
    let m = s.memory in
    let n = c.put.new.self in
    let q = place_for (length (log_held s)) (log_capacity s) c.holds-held.result (omega (arith, s.counted, s.bounded)) (sym c.if-has_no_place.ensures.answer) in
    let y : s.count + c.from.result ≤ size m / 583 = omega (arith, q, s.counted, c.from.ensures) in
    record {
      counted = ap (λ i. i + c.from.result) s.counted ∙ ap (λ i. length (log_held s) + i) c.from.ensures
          ∙ put_counts (log_held s) c.args.key c.args.value.now c.holds-held.result (sound-meaning (entries (contents m)) m.log.fits) (sym c.in_ok-check.ensures.ok) c.holds-held.ensures
          ∙ ap length (sym c.put.ensures.after);
      bounded = subst (λ i. s.count + c.from.result ≤ i / 583) (sym c.put.ensures.len) y;
      roomy = subst (λ i. 1166 ≤ i) (sym c.put.ensures.len) s.roomy;
    }
