-- A store's meaning: a map from keys to values, as its entries in rising order of their keys.
use Rattle.std.specs.Prelude.{◌≡◌, ℕ, ◌+◌, ◌*◌, ◌<◌, ◌≤◌, Bool, true, not, ◌&&◌, List, [], ◌∷◌, ◌++◌, length, drop, is_some, Some, None, Ok, Err, Option, Result, ◌==◌, nat_le, nat_lt, if◌then◌else◌}
use Rattle.std.specs.Option.{option_map}
use Rattle.protocol.specs.Buffers as buffers
use Rattle.protocol.specs.declared.refusal.Refusal.{Refusal}
use Rattle.protocol.specs.declared.refusal.Refusal.TheVariants.{BadStoreRequest, StoreFull}
use Rattle.store.specs.declared.key.Key.{Key}

-- the largest value that a store keeps, in bytes; a get buffer has at least as many
abbrev pub value_limit : ℕ
value_limit = 576

-- a key and the value that it has
pub record Entry : Type 0 where
  pub key : Key
  pub value : List ℕ

-- a key that a store accepts: a handle from 1 and part 0 or 1
abbrev pub proper : Key → Bool
proper k = nat_lt 0 k.handle.0 && nat_lt k.part 2

-- the key of a topic's properties
abbrev pub properties_key : ℕ → Key
properties_key h = record { handle = record { 0 = h }; part = 0 }

-- the key of a topic's data
abbrev pub data_key : ℕ → Key
data_key h = record { handle = record { 0 = h }; part = 1 }

-- keys rise by handle, and then by part: the place of a key in that order
abbrev pub rank : Key → ℕ
rank k = k.handle.0 * 2 + k.part

-- both are the same key
abbrev pub same_key : Key → Key → Bool
same_key a b = a.handle.0 == b.handle.0 && a.part == b.part

-- the value of a key, if it has one
abbrev pub look : List Entry → Key → Option (List ℕ)
look [] k = None
look (e ∷ es) k = if same_key e.key k then Some e.value else look es k

-- the key set to a value, the others as they were
abbrev pub put : List Entry → Key → List ℕ → List Entry
put [] k v = record { key = k; value = v } ∷ []
put (e ∷ es) k v =
    if same_key e.key k then record { key = k; value = v } ∷ es
    else if nat_lt (rank k) (rank e.key) then record { key = k; value = v } ∷ e ∷ es
    else e ∷ put es k v

-- the key cleared, the others as they were
abbrev pub remove : List Entry → Key → List Entry
remove [] k = []
remove (e ∷ es) k = if same_key e.key k then es else e ∷ remove es k

-- the lowest handle above h that has properties, if there is one
abbrev pub next : List Entry → ℕ → Option ℕ
next [] h = None
next (e ∷ es) h = if e.key.part == 0 && nat_lt h e.key.handle.0 then Some e.key.handle.0 else next es h

-- every entry's key stands above k
abbrev pub Above : ℕ → List Entry → Type 0
Above r [] = Unit {0}
Above r (e ∷ es) = (r < rank e.key) × Above r es

-- the keys rise, are proper, and the values are no longer than the limit
abbrev pub Sound : List Entry → Type 0
Sound [] = Unit {0}
Sound (e ∷ es) = (proper e.key ≡ true) × (length e.value ≤ value_limit) × Above (rank e.key) es × Sound es

-- a new key at a store that holds as many keys as it can
abbrev pub full : List Entry → ℕ → Key → Bool
full es n k = proper k && not (is_some (look es k)) && nat_le n (length es)

-- what a get answers: refused, or the length of the value, if there is one
abbrev pub get_answer : List Entry → Key → ℕ → Result (Option ℕ) Refusal
get_answer es k room = if proper k && nat_le value_limit room then Ok (option_map length (look es k)) else Err BadStoreRequest

-- a value at the front of a buffer, where there is one, and the rest as it was
abbrev pub laid : Option (List ℕ) → List ℕ → List ℕ
laid None buf = buf
laid (Some v) buf = buffers.laid v buf

-- a buffer after a get that may have been refused
abbrev pub get_buffer : List Entry → Key → List ℕ → List ℕ
get_buffer es k buf = if proper k && nat_le value_limit (length buf) then laid (look es k) buf else buf

-- what a put answers: a bad key or value is refused before a full store is
abbrev pub put_answer : List Entry → ℕ → Key → List ℕ → Result (Unit {0}) Refusal
put_answer es n k v =
    if proper k && nat_le (length v) value_limit then (if full es n k then Err StoreFull else Ok tt)
    else Err BadStoreRequest

-- what a remove answers: refused, or whether the key had a value
abbrev pub remove_answer : List Entry → Key → Result Bool Refusal
remove_answer es k = if proper k then Ok (is_some (look es k)) else Err BadStoreRequest
