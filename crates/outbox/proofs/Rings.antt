-- Rings: one element more at the end, one less at the front.
use Rattle.std.proofs.Common.{◌≡◌, ℕ, zero, suc, ◌+◌, ◌-◌, ◌<◌, ◌≤◌, ltb, List, [], ◌∷◌, ◌++◌, length, get_or, take, drop, set, sym, refl, ap, ◌∙◌, inl, inr, add-one, arith}
use Rattle.std.proofs.lemmas.List.{append_assoc, append-nil, take-append-le, take_more, take_more_set, take-take, take-set-le, drop_more, drop_all, drop-set-add, drop-set-lt, set-append_left, set-append_right, length-append, length-take, length-drop, length-take-le}
use Rattle.std.proofs.lemmas.Bool.{cases_lt, cond-true, cond-false, lt-ltb, le-ltb}
use Rattle.outbox.specs.Rings.{around, ring, place}

-- the places before the end of the row, and those behind it
pub place-before : (s i k : ℕ) → i < k - s → place s i k ≡ s + i
place-before s i k h = cond-true (ltb i (k - s)) (s + i) (i - (k - s)) (lt-ltb i (k - s) h)

pub place_behind : (s i k : ℕ) → k - s ≤ i → place s i k ≡ i - (k - s)
place_behind s i k h = cond-false (ltb i (k - s)) (s + i) (i - (k - s)) (le-ltb i (k - s) h)

module _ {X : Type 0} where
  -- a write in front of a place
  take-set_lt : (n : ℕ) (xs : List X) (i : ℕ) (y : X) → i < n → take n (set xs i y) ≡ set (take n xs) i y
  take-set_lt zero xs i y h = absurd (omega arith)
  take-set_lt (suc n) [] i y h = refl
  take-set_lt (suc n) (x ∷ xs) zero y h = refl
  take-set_lt (suc n) (x ∷ xs) (suc i) y h = ap (λ l. x ∷ l) (take-set_lt n xs i y (omega arith))

  pub length-around : (s : ℕ) (xs : List X) → s ≤ length xs → length (around s xs) ≡ length xs
  length-around s xs h = simp (length-append, length-take, length-drop) (omega arith)

  -- a ring holds as many elements as it says
  pub length-ring : (s n : ℕ) (xs : List X) → s ≤ length xs → n ≤ length xs → length (ring s n xs) ≡ n
  length-ring s n xs h m = length-take-le n (around s xs) (omega (arith, length-around s xs h))

  -- the element i of the ring is written at its place of the row
  pub around-set : (s i : ℕ) (xs : List X) (y : X) → s < length xs → i < length xs
      → around s (set xs (place s i (length xs)) y) ≡ set (around s xs) i y
  around-set s i xs y h m =
      let k = length xs in
      let d : length (drop s xs) ≡ k - s = length-drop s xs in
      elim (cases_lt i (k - s)) [
        | inl lt ↦
            ap (λ p. around s (set xs p y)) (place-before s i k lt)
            ∙ ap (λ l. l ++ take s (set xs (s + i) y)) (drop-set-add s xs i y)
            ∙ ap (λ l. set (drop s xs) i y ++ l) (take-set-le s xs (s + i) y (omega arith))
            ∙ sym (set-append_left (drop s xs) (take s xs) i y (omega arith))
        | inr le ↦
            ap (λ p. around s (set xs p y)) (place_behind s i k le)
            ∙ ap (λ l. l ++ take s (set xs (i - (k - s)) y)) (drop-set-lt s xs (i - (k - s)) y (omega arith))
            ∙ ap (λ l. drop s xs ++ l) (take-set_lt s xs (i - (k - s)) y (omega arith))
            ∙ sym (set-append_right (drop s xs) (take s xs) (k - s) i y d le)
      ]

  -- one element more, behind the last
  pub ring_push : (s n : ℕ) (xs : List X) (y : X) → s < length xs → n < length xs
      → ring s (n + 1) (set xs (place s n (length xs)) y) ≡ ring s n xs ++ y ∷ []
  ring_push s n xs y h m =
      ap (take (n + 1)) (around-set s n xs y h m)
      ∙ take_more_set (around s xs) n y (omega (arith, length-around s xs (omega arith)))

  taken-first : (n : ℕ) (x : X) (xs : List X) → take (n + 1) (x ∷ xs) ≡ x ∷ take n xs
  taken-first n x xs = ap (λ k. take k (x ∷ xs)) (add-one n)

  -- the first element and those behind it
  pub ring-first : (s n : ℕ) (xs : List X) (d : X) → s < length xs → n < length xs
      → ring s (n + 1) xs ≡ get_or xs s d ∷ ring (place s 1 (length xs)) n xs
  ring-first s n xs d h m =
      let k = length xs in
      let x = get_or xs s d in
      let front = ap (λ l. take (n + 1) (l ++ take s xs)) (drop_more xs s d h) in
      let back : length (drop (s + 1) xs ++ take s xs) ≡ k - 1 = simp (length-append, length-take, length-drop) (omega arith) in
      elim (cases_lt 1 (k - s)) [
        | inl lt ↦
            front ∙ taken-first n x (drop (s + 1) xs ++ take s xs)
            ∙ ap (λ l. x ∷ l) (sym (take-append-le n (drop (s + 1) xs ++ take s xs) (x ∷ []) (omega arith))
            ∙ ap (take n) (append_assoc (drop (s + 1) xs) (take s xs) (x ∷ []) ∙ ap (λ l. drop (s + 1) xs ++ l) (sym (take_more xs s d h)))
            ∙ ap (λ p. ring p n xs) (sym (place-before s 1 k lt)))
        | inr le ↦
            let end : drop (s + 1) xs ≡ [] = drop_all (s + 1) xs (omega arith) in
            let wraps : place s 1 k ≡ 0 = place_behind s 1 k le ∙ omega arith in
            front ∙ taken-first n x (drop (s + 1) xs ++ take s xs)
            ∙ ap (λ l. x ∷ l) (ap (λ l. take n (l ++ take s xs)) end ∙ take-take n s xs (omega arith)
            ∙ sym (ap (take n) (append-nil xs))
            ∙ ap (λ p. ring p n xs) (sym wraps))
      ]

  -- one element more, where it is written to its place
  pub ring_in : (s n p : ℕ) (xs ys : List X) (x : X) → s ≤ length xs - 1 → n < length xs → p ≡ place s n (length xs) → ys ≡ set xs p x
      → ring s (n + 1) ys ≡ ring s n xs ++ x ∷ []
  ring_in s n p xs ys x h m at e = ap (ring s (n + 1)) (e ∙ ap (λ k. set xs k x) at) ∙ ring_push s n xs x (omega arith) m

  -- the elements behind the first
  pub ring_out : (s n p : ℕ) (xs : List X) → s ≤ length xs - 1 → 0 < n → n ≤ length xs → p ≡ place s 1 (length xs)
      → ring p (n - 1) xs ≡ drop 1 (ring s n xs)
  ring_out s n p [] h some m at = absurd (omega arith)
  ring_out s n p (x ∷ xs) h some m at =
      let all = x ∷ xs in
      let one : n ≡ (n - 1) + 1 = omega arith in
      ap (λ k. ring k (n - 1) all) at
      ∙ ap (drop 1) (sym (ring-first s (n - 1) all x (omega arith) (omega arith)))
      ∙ ap (λ k. drop 1 (ring s k all)) (sym one)
