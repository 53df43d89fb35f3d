use Rattle.std.proofs.Common.{◌≡◌, ℕ, ◌+◌, ◌-◌, ◌<◌, ◌≤◌, true, List, ◌∷◌, ◌++◌, length, take, sym, ap, ◌∙◌, append_assoc, arith, rules}
use borrow.Rule.Slice.PartMut.{put_mid}
use Rattle.std.proofs.lemmas.List.{places}
use Rattle.std.proofs.lemmas.Slice.{take-put_mid}
use Rattle.log_store.specs.declared.memory.Memory.{Memory}
use Rattle.store.specs.declared.key.Key.{Key}
use Rattle.store.specs.Held.{proper}
use Rattle.log_store.specs.Format.{entries, trailer}
use Rattle.log_store.specs.Memories.{contents, size}
use Rattle.log_store.proofs.Format.{length-trailer}
use Rattle.log_store.proofs.Stores.{Written, appended, entry-fits}
use Rattle.log_store.proofs.memory.Memory.append.Goals as goal

-- the memory after the value is written behind the log, and the trailer behind the value
abbrev after : Memory → ℕ → List ℕ → List ℕ → List ℕ
after m n v t = take (m.used + n + 7) (put_mid (m.used + n) (m.used + n + 7 - (m.used + n)) (put_mid m.used (m.used + n - m.used) m.bytes.now v) t)

behind : (m : Memory) (n : ℕ) (v t : List ℕ) → n ≡ length v → 7 ≡ length t → m.used + n + 7 ≤ size m → after m n v t ≡ contents m ++ (v ++ t)
behind m n v t p q l =
    let mid = put_mid m.used (m.used + n - m.used) m.bytes.now v in
    let long : m.used + n ≤ length mid = search (rules, places) in
    take-put_mid (m.used + n) (m.used + n + 7 - (m.used + n)) mid t (m.used + n + 7) (omega arith) long
    ∙ ap (λ x. x ++ t) (take-put_mid m.used (m.used + n - m.used) m.bytes.now v (m.used + n) (omega arith) (omega arith))
    ∙ append_assoc (contents m) v t

entry : (m : Memory) (k : Key) (value v t : List ℕ) → proper k ≡ true → k.handle.0 < 4294967296 → length value ≤ 576 → m.used + length value + 7 ≤ size m → v ≡ value → t ≡ trailer k (length value)
    → Written (after m (length value) v t) (record { key = k; value = value } ∷ entries (contents m))
entry m k value v t p h s l a b =
    appended (contents m) _ (record { key = k; value = value }) m.log (entry-fits k value p h s)
    (behind m (length value) v t (sym (ap length a)) (sym (ap length b ∙ length-trailer k (length value))) l
    ∙ ap (λ x. contents m ++ (x ++ t)) a ∙ ap (λ x. contents m ++ (value ++ x)) b)

pub invariant_of-self-2 : goal.invariant_of-self-2
invariant_of-self-2 c =
    let r = c.requires in
    record {
      within = search (rules, places);
      log = (entry c.args.self.now c.args.key c.args.value.now _ _ r.0 (search rules) r.1 r.2 c.copy_from_slice.ensures.after (c.copy_from_slice-2.ensures.after ∙ c.write-trailer.ensures)).log;
    }

pub returns-clause-log : goal.returns-clause-log
returns-clause-log c =
    let r = c.requires in
    (entry c.args.self.now c.args.key c.args.value.now _ _ r.0 (search rules) r.1 r.2 c.copy_from_slice.ensures.after (c.copy_from_slice-2.ensures.after ∙ c.write-trailer.ensures)).are
