-- What a store's map does, in the words of its users: one key is set or cleared, and the next topic is the lowest.
use Rattle.std.specs.Prelude.{◌≡◌, ℕ, ◌<◌, ◌≤◌, Bool, true, false, List, is_some, Some, None, Option, if◌then◌else◌}
use Rattle.store.specs.declared.key.Key.{Key}
use Rattle.store.specs.contracts.key.KeyPartialEq.TheImpl.{ghosts}
use Rattle.store.specs.Held.{Entry, Sound, look, next, proper, put, remove, same_key, properties_key}

-- the handle's topic has properties
abbrev pub has_properties : List Entry → ℕ → Bool
has_properties es h = is_some (look es (properties_key h))

-- the answer is the lowest handle above the given one that has properties, and none where no such handle is
abbrev pub Lowest : List Entry → ℕ → Option ℕ → Type 0
Lowest es after None = (h : ℕ) → after < h → has_properties es h ≡ false
Lowest es after (Some n) = (after < n) × (has_properties es n ≡ true) × ((h : ℕ) → after < h → has_properties es h ≡ true → n ≤ h)

-- next gives the lowest handle above the given one that has properties
abbrev pub NextIsLowest : Type 0
NextIsLowest = (es : List Entry) (after : ℕ) → Sound es → Lowest es after (next es after)

-- a put sets its key, and every other key keeps its value
abbrev pub PutSetsOne : Type 0
PutSetsOne = (es : List Entry) (k : Key) (v : List ℕ) (j : Key) → look (put es k v) j ≡ (if same_key k j then Some v else look es j)

-- a remove clears its key, and every other key keeps its value
abbrev pub RemoveClearsOne : Type 0
RemoveClearsOne = (es : List Entry) (k j : Key) → Sound es → look (remove es k) j ≡ (if same_key k j then None else look es j)

-- two maps that give every key the same value are the same map
abbrev pub OneMap : Type 0
OneMap = (m n : List Entry) → Sound m → Sound n → ((j : Key) → proper j ≡ true → look m j ≡ look n j) → m ≡ n

-- keys are equal exactly if they are the same
abbrev pub EqualIsSame : Type 0
EqualIsSame = (a b : Key) → ghosts.eq a b ≡ same_key a b
