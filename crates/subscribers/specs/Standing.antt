-- Who stands subscribed: pairs of a handle and a subscriber, in order of subscription, with clients and tokens by their bytes.
use Rattle.std.specs.Prelude.{◌≡◌, ℕ, Bool, true, false, not, ◌&&◌, ◌||◌, List, [], ◌∷◌, ◌++◌, map, filter, length, position, Option, ◌==◌, nat_le, if◌then◌else◌}
use Rattle.std.specs.List.{list_any}
use Rattle.std.specs.Coded.{×_prop, Unit-prop}
use mathlib.Core.Bool.{Bool-set}
use Rattle.protocol.specs.Bytes.{alike}
use Rattle.clients.specs.Subs.{Sub}
use Rattle.subscribers.specs.declared.joined.Joined.{Joined}
use Rattle.subscribers.specs.declared.joined.Joined.TheVariants as joined

-- a topic's handle and one who is subscribed to it
pub record Standing : Type 0 where
  pub handle : ℕ
  pub sub : Sub

-- the most subscribers that one topic may have
abbrev pub limit : ℕ
limit = 100

-- both are the same subscriber
abbrev pub same_sub : Sub → Sub → Bool
same_sub a b = alike a.who b.who && alike a.token b.token

-- both are the same pair
abbrev pub same_pair : Standing → Standing → Bool
same_pair a b = a.handle == b.handle && same_sub a.sub b.sub

-- the pair is one of the list
abbrev pub stands : List Standing → Standing → Bool
stands l x = list_any (λ y. same_pair y x) l

-- no pair is there twice
abbrev pub Once : List Standing → Type 0
Once [] = Unit {0}
Once (y ∷ ys) = (stands ys y ≡ false) × Once ys

pub Once-prop : (l : List Standing) → IsProp (Once l)
Once-prop [] = Unit-prop
Once-prop (y ∷ ys) = ×_prop (Bool-set _ _) (Once-prop ys)

-- the place of the pair, counted from 0, if it is there
abbrev pub place : List Standing → Standing → Option ℕ
place l x = position (λ y. same_pair y x) l

-- the topic's subscribers, in order of subscription
abbrev pub subs_at : ℕ → List Standing → List Sub
subs_at h l = map (λ y. y.sub) (filter (λ y. y.handle == h) l)

-- the others, in their order, once the pair has left
abbrev pub without : Standing → List Standing → List Standing
without x l = filter (λ y. not (same_pair y x)) l

-- the others, in their order, once all of the topic's have left
abbrev pub without_topic : ℕ → List Standing → List Standing
without_topic h l = filter (λ y. not (y.handle == h)) l

-- what a newcomer is told, in a list of so many places
abbrev pub join_answer : List Standing → ℕ → Standing → Joined
join_answer l room x = if stands l x then joined.Standing else (if nat_le limit (length (subs_at x.handle l)) || nat_le room (length l) then joined.NoPlace else joined.Added)

-- the list once a newcomer was told this
abbrev pub joined_by : {X : Type 0} → Joined → X → List X → List X
joined_by joined.Added x l = l ++ x ∷ []
joined_by joined.Standing x l = l
joined_by joined.NoPlace x l = l

-- one who was told this has a place in the list
abbrev pub has_place : Joined → Bool
has_place joined.Added = true
has_place joined.Standing = true
has_place joined.NoPlace = false
