-- Rings: a queue in a row of places that goes on at the front when it has come to the end.
use Rattle.std.specs.Prelude.{ℕ, ◌+◌, ◌-◌, List, ◌++◌, take, drop, if◌then◌else◌, nat_lt, refl}
use Rattle.std.specs.Coded.{Coded, code_by, coded×, coded_list, coded_ℕ}

-- what a ring holds, the oldest first, and how many it has places for
pub record Queue (X : Type 0) : Type 0 where
  pub items : List X
  pub capacity : ℕ

-- a queue is stored as the pair of its fields
abbrev pub queue_code : {X : Type 0} → Coded X → Coded (Queue X)
queue_code {X} c = code_by (List X × ℕ) (coded× (coded_list c) coded_ℕ) (λ q. (q.items, q.capacity)) (λ p. record { items = p.0; capacity = p.1 }) (λ _. refl)

-- the row read once around from a place
abbrev pub around : {X : Type 0} → ℕ → List X → List X
around s xs = drop s xs ++ take s xs

-- what a ring of n elements holds whose first stands at s
abbrev pub ring : {X : Type 0} → ℕ → ℕ → List X → List X
ring s n xs = take n (around s xs)

-- the place of the element i of a ring over k places whose first stands at s
abbrev pub place : ℕ → ℕ → ℕ → ℕ
place s i k = if nat_lt i (k - s) then s + i else i - (k - s)
