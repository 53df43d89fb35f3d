-- Content places: one read, one written.
use Rattle.std.proofs.Common.{◌≡◌, ℕ, ◌+◌, ◌<◌, ◌≢◌, List, map, length, get_or, set, sym, ap, ◌∙◌, inl, inr, arith}
use Rattle.std.proofs.lemmas.List.{get_or-map, get_or-set_same, get_or-set_other, length-map, map-set, set-get_or}
use Rattle.std.proofs.lemmas.Bool.{cases_eq}
use Rattle.shared_outbox.specs.declared.place.Place.{Place}
use Rattle.shared_outbox.specs.Places.{counts, users_at}

-- a write that keeps what is seen of the element
pub map_set_same : {X Y : Type 0} (f : X → Y) (xs : List X) (i : ℕ) (y d : X) → i < length xs → f y ≡ f (get_or xs i d) → map f (set xs i y) ≡ map f xs
map_set_same f xs i y d h e = map-set f xs i y ∙ ap (set (map f xs) i) (e ∙ sym (get_or-map f xs i d (f d) h)) ∙ set-get_or (map f xs) i (f d)

-- what a place counts and holds
pub users_of : (ps : List Place) (i : ℕ) (d : Place) → i < length ps → users_at ps i ≡ (get_or ps i d).users
users_of ps i d h = get_or-map (λ (q : Place). q.users) ps i d 0 h

-- one place more is marked as free
pub freed_more : (ps : List Place) (i : ℕ) (y : Place) → i < length ps → y.users ≡ 0
    → ((k : ℕ) → k < i → users_at ps k ≡ 0) → (k : ℕ) → k < i + 1 → users_at (set ps i y) k ≡ 0
freed_more ps i y h free below k m =
    let ns = counts ps in
    ap (λ l. get_or l k 0) (map-set (λ (q : Place). q.users) ps i y)
    ∙ elim (cases_eq k i) [
      | inl e ↦ ap (λ j. get_or (set ns i y.users) j 0) e ∙ get_or-set_same ns i y.users 0 (omega (arith, length-map ps (λ (q : Place). q.users))) ∙ free
      | inr ne ↦ get_or-set_other ns i k y.users 0 ne ∙ below k (below_one k i m ne)
    ]
  where
    below_one : (k i : ℕ) → k < i + 1 → k ≢ i → k < i
    below_one k i m ne = omega arith

-- each place is counted once
pub counts-length : (ps : List Place) → length (counts ps) ≡ length ps
counts-length ps = length-map ps (λ (q : Place). q.users)
