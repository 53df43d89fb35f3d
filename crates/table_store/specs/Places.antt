-- What the places of a table mean: the map of those that are held.
use Rattle.std.specs.Prelude.{◌≡◌, ℕ, ◌+◌, ◌<◌, Bool, true, false, not, ◌&&◌, List, [], ◌∷◌, length, take, drop, is_some, None, Some, Option, ◌==◌, nat_le, slice_index_or}
use Rattle.std.specs.List.{list_all, list_any}
use Rattle.std.specs.Option.{option_and_then, option_map, option_map_or}
use Rattle.protocol.specs.Buffers.{laid}
use Rattle.protocol.specs.declared.names.Handle.{Handle}
use Rattle.store.specs.declared.key.Key.{Key}
use Rattle.store.specs.Held.{Entry as MapEntry, proper, put, same_key, value_limit}
use Rattle.store.specs.Scans.{topic_above}
use Rattle.table_store.specs.declared.entry.Entry.{Entry}
use Rattle.table_store.specs.declared.place.Place.{Place}

-- the entry of a key and a value
abbrev pub kept : Key → List ℕ → Entry
kept k v = record { key = k; len = length v }

-- the entry has a proper key and a length within the limit
abbrev pub fits : Entry → Bool
fits e = proper e.key && nat_le e.len value_limit

-- the place held by the entry with the value in front; the bytes behind it stay
abbrev pub filled : Place → Entry → List ℕ → Place
filled p e v = record { held = Some e; value = laid v p.value }

-- the value of a place that is held: the bytes in front, as many as the entry's length says
abbrev pub value_of : Place → Option (List ℕ)
value_of p = option_map (λ (e : Entry). take e.len p.value) p.held

-- the map and an entry, if there is one, with the bytes that its value stands in front of
abbrev pub with_entry : Option Entry → List ℕ → List MapEntry → List MapEntry
with_entry None bytes es = es
with_entry (Some e) bytes es = put es e.key (take e.len bytes)

-- the map of the places that are held
abbrev pub map_of : List Place → List MapEntry
map_of [] = []
map_of (p ∷ ps) = with_entry p.held p.value (map_of ps)

-- the place is held for the key
abbrev pub holds : Place → Key → Bool
holds p k = option_map_or (λ (e : Entry). same_key e.key k) p.held false

-- the handle of the properties that the place is held for, if it is above the given one
abbrev pub topic_of : Place → Handle → Option Handle
topic_of p after = option_and_then (λ (e : Entry). topic_above e.key after) p.held

-- some place is held for the key
abbrev pub some_holds : List Place → Key → Bool
some_holds ps k = list_any (λ p. holds p k) ps

-- every place is held
abbrev pub all_held : List Place → Bool
all_held ps = list_all (λ (p : Place). is_some p.held) ps

-- the place has room for the largest value and, where it is held, its entry has a proper key and a length within the limit
abbrev pub well : Place → Bool
well p = length p.value == value_limit && option_map_or fits p.held true

-- each place is well, and no key has two
abbrev pub tidy : List Place → Bool
tidy [] = true
tidy (p ∷ ps) = well p && (not (option_map_or (λ (e : Entry). some_holds ps e.key) p.held false) && tidy ps)

-- a place that a put of the key may write: held for it or free, where no other place is held for it
abbrev pub Fit : List Place → Key → ℕ → Type 0
Fit ps k i = (i < length ps) × (some_holds (take i ps) k ≡ false) × (some_holds (drop (i + 1) ps) k ≡ false) × ((d : Place) → option_map_or (λ (e : Entry). same_key e.key k) (slice_index_or ps i d).held true ≡ true)
