use Rattle.std.proofs.Common.{◌-◌, ◌/◌, ◌≤◌, length, sym, ap, subst, arith}
use Rattle.store.proofs.Maps.{remove_absent}
use Rattle.log_store.specs.Log.{log_held}
use Rattle.log_store.specs.Memories.{size}
use Rattle.log_store.proofs.Meanings.{not_some}
use Rattle.log_store.proofs.Stores.{remove_counts}
use Rattle.log_store.proofs.as_store.LogStoreStore.remove.Goals as goal

pub invariant_of-self : goal.invariant_of-self
invariant_of-self c =
    let s = c.args.self.now in
    let r = remove_counts (log_held s) c.args.key (sym c.if-held.ensures) in
    let y : s.count - 1 ≤ size s.memory / 583 = omega (arith, s.bounded) in
    record {
      counted = omega (arith, r, s.counted, ap length c.remove.ensures.after);
      bounded = subst (λ i. s.count - 1 ≤ i / 583) (sym c.remove.ensures.len) y;
      roomy = subst (λ i. 1166 ≤ i) (sym c.remove.ensures.len) s.roomy;
    }

pub returns-else-held-clause-after : goal.returns-else-held-clause-after
returns-else-held-clause-after c = sym (remove_absent (log_held c.args.self.now) c.args.key (not_some _ (sym c.if-held.ensures)))
