-- A filter of a filter or of a map, and the place in a map.
use Rattle.std.proofs.Common.{◌≡◌, Bool, true, false, cond, ltb, List, [], ◌∷◌, map, filter, length, position, Some, None, refl, ap, ◌∙◌, arith}
use Rattle.std.specs.List.{position_or_len}
use Rattle.std.proofs.lemmas.Bool.Decides.{nat_tests}
use Rattle.std.proofs.lemmas.List.{length-map}

module _ {X Y : Type 0} (f : X → Y) (q : Y → Bool) where
  pub filter-map : (xs : List X) → filter q (map f xs) ≡ map f (filter (λ x. q (f x)) xs)
  filter-map [] = refl
  filter-map (x ∷ xs) = let ih = filter-map xs in grind (arith, nat_tests)

  position_or_len-map : (xs : List X) → position_or_len q (map f xs) ≡ position_or_len (λ x. q (f x)) xs
  position_or_len-map [] = refl
  position_or_len-map (x ∷ xs) = let ih = position_or_len-map xs in grind (arith, nat_tests)

  pub position-map : (xs : List X) → position q (map f xs) ≡ position (λ x. q (f x)) xs
  position-map xs = ap (λ n. cond (ltb n (length (map f xs))) (Some n) None) (position_or_len-map xs) ∙ ap (λ n. cond (ltb (position_or_len (λ x. q (f x)) xs) n) (Some (position_or_len (λ x. q (f x)) xs)) None) (length-map xs f)

module _ {X : Type 0} (p q : X → Bool) where
  -- p keeps nothing that q passes
  pub filter-filter_none : ((x : X) → p x ≡ true → q x ≡ false) → (xs : List X) → filter q (filter p xs) ≡ []
  filter-filter_none none [] = refl
  filter-filter_none none (x ∷ xs) = let ih = filter-filter_none none xs in let n = none x in grind (arith, nat_tests)

  -- p keeps all that q passes
  pub filter-filter_same : ((x : X) → p x ≡ false → q x ≡ false) → (xs : List X) → filter q (filter p xs) ≡ filter q xs
  filter-filter_same none [] = refl
  filter-filter_same none (x ∷ xs) = let ih = filter-filter_same none xs in let n = none x in grind (arith, nat_tests)
