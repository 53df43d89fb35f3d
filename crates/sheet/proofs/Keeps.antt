-- The ways that a map of the sheet can go, and that a topic's map always fits.
use Rattle.std.proofs.Common.{◌≡◌, ℕ, ◌-◌, true, cond, leb, List, ◌++◌, length, take, drop, is_ok, Some, None, Ok, Err, Option, Result, ap, ◌∙◌, arith}
use Rattle.std.proofs.lemmas.List.{take_at}
use Rattle.std.proofs.lemmas.Bool.Decides.{nat_tests}
use Rattle.protocol.specs.declared.refusal.Refusal.{Refusal}
use Rattle.maps.specs.Laws.{Topical}
use Rattle.maps.specs.Maps.{Props, written}
use Rattle.map_writer.proofs.Largest.{largest}
use Rattle.store.specs.Held.{Entry, put, put_answer}
use Rattle.store.specs.declared.key.Key.{Key}
use Rattle.sheet.specs.Keeping.{answer_to, held_after}

-- a topic's map fits a store's value
pub fits : (p : Props) (room : ℕ) → Topical p → room ≡ 576 → leb (length (written p)) room ≡ true
fits p room t e = let l = largest.bound p t in grind (arith, nat_tests)

module _ (p : Props) (room : ℕ) (t : Topical p) (e : room ≡ 576) where
  pub never_none : {X : Type 0} → None ≡ cond (leb (length (written p)) room) (Some (length (written p))) None → X
  never_none q =
      let z : ◌≡◌ {A = Option ℕ} None (Some (length (written p))) = q ∙ ap (λ b. cond b (Some (length (written p))) None) (fits p room t e) in
      let y : ◌≡◌ {A = ℕ} 0 1 = cc in absurd (omega arith)

  pub len_is : (n : ℕ) → Some n ≡ cond (leb (length (written p)) room) (Some (length (written p))) None → n ≡ length (written p)
  len_is n q =
      let z : ◌≡◌ {A = Option ℕ} (Some n) (Some (length (written p))) = q ∙ ap (λ b. cond b (Some (length (written p))) None) (fits p room t e) in cc

  -- the bytes that are handed to the store
  pub value-is : (n : ℕ) (out old : List ℕ) → n ≡ length (written p)
      → out ≡ cond (leb (length (written p)) room) (written p ++ drop (length (written p)) old) old → take (n - 0) out ≡ written p
  value-is n out old l q =
      ap (λ xs. take (n - 0) xs) (q ∙ ap (λ b. cond b (written p ++ drop (length (written p)) old) old) (fits p room t e))
      ∙ take_at (written p) (drop (length (written p)) old) (n - 0) (omega arith)

module _ (es : List Entry) (n : ℕ) (k : Key) where
  pub refused : (a : Result Props Refusal) (e : Refusal) → Err e ≡ a → (Err e ≡ answer_to a es n k) × (es ≡ held_after a es n k)
  refused a e q = (ap (λ x. answer_to x es n k) q, ap (λ x. held_after x es n k) q)

  pub stored : (a : Result Props Refusal) (p : Props) (v : List ℕ) (r : Result (Unit {0}) Refusal) (after : List Entry) → Ok p ≡ a → v ≡ written p
      → r ≡ put_answer es n k v → after ≡ cond (is_ok r) (put es k v) es → (r ≡ answer_to a es n k) × (after ≡ held_after a es n k)
  stored a p v r after q w e f =
      let b : r ≡ put_answer es n k (written p) = e ∙ ap (put_answer es n k) w in (
        b ∙ ap (λ x. answer_to x es n k) q,
        f ∙ ap (λ x. cond (is_ok x) (put es k v) es) b ∙ ap (λ x. cond (is_ok (put_answer es n k (written p))) (put es k x) es) w ∙ ap (λ x. held_after x es n k) q,
      )
