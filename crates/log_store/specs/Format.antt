-- The log's format: entries end to end, oldest first, each a value and then its trailer of 7 bytes, read back from the end.
use Rattle.std.specs.Prelude.{◌≡◌, ℕ, zero, suc, ◌+◌, ◌-◌, Bool, true, ◌&&◌, List, [], ◌∷◌, ◌++◌, length, take, drop, nat_le, nat_lt, slice_index, if◌then◌else◌}
use Rattle.protocol.specs.Bytes.{be_bytes, be_number}
use Rattle.store.specs.declared.key.Key.{Key}
use Rattle.store.specs.Held.{Entry, proper, value_limit}

-- the 7 bytes after a value: handle (4), part (1) and the value's length (2), each most significant byte first
unfoldable pub trailer : Key → ℕ → List ℕ
trailer k n = be_bytes 4 k.handle.0 ++ (k.part ∷ be_bytes 2 n)

-- an entry's bytes: its value, and then the trailer
abbrev pub entry_bytes : Entry → List ℕ
entry_bytes e = e.value ++ trailer e.key (length e.value)

-- the bytes of entries that are listed newest first: the newest lies last
abbrev pub encoded : List Entry → List ℕ
encoded [] = []
encoded (e ∷ es) = encoded es ++ entry_bytes e

-- the key in the trailer that ends at a place
unfoldable pub key_at : List ℕ → ℕ → Key
key_at bs end = record {
  handle = record { 0 = be_number (slice_index bs (end - 7) ∷ slice_index bs (end - 6) ∷ slice_index bs (end - 5) ∷ slice_index bs (end - 4) ∷ []) };
  part = slice_index bs (end - 3);
}

-- the value's length in the trailer that ends at a place
unfoldable pub len_at : List ℕ → ℕ → ℕ
len_at bs end = be_number (slice_index bs (end - 2) ∷ slice_index bs (end - 1) ∷ [])

-- the entry that ends at a place
abbrev pub entry_at : List ℕ → ℕ → Entry
entry_at bs end = record { key = key_at bs end; value = take (len_at bs end) (drop (end - 7 - len_at bs end) bs) }

-- at most so many entries, read back from the end
unfoldable pub parsed : ℕ → List ℕ → List Entry
parsed zero bs = []
parsed (suc f) bs =
    if nat_le (len_at bs (length bs) + 7) (length bs) then entry_at bs (length bs) ∷ parsed f (take (length bs - 7 - len_at bs (length bs)) bs) else []

-- the entries of a log's bytes, newest first
unfoldable pub entries : List ℕ → List Entry
entries bs = parsed (length bs) bs

-- an entry that a store keeps: a proper key whose handle has 4 bytes, and a value within the limit
abbrev pub fit : Entry → Bool
fit e = proper e.key && nat_lt e.key.handle.0 4294967296 && nat_le (length e.value) value_limit

-- every entry is one that a store keeps
abbrev pub all_fit : List Entry → Bool
all_fit [] = true
all_fit (e ∷ es) = fit e && all_fit es

-- the bytes are those of the entries, and each entry is one that a store keeps
pub record Holds (bs : List ℕ) (es : List Entry) : Type 0 where
  pub bytes : encoded es ≡ bs
  pub fits : all_fit es ≡ true

-- the bytes are a log
abbrev pub Log : List ℕ → Type 0
Log bs = Holds bs (entries bs)
