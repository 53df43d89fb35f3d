-- Why a log is a store: its map is sound and within its capacity, and there is room for two entries.
use Rattle.std.specs.Prelude.{◌≡◌, ℕ, ◌/◌, ◌<◌, ◌≤◌, true, ◌&&◌, List, [], ◌∷◌, length, nat_le, nat_lt}
use Rattle.std.proofs.Common.{arith}
use Rattle.std.proofs.lemmas.Bool.{and_parts, ltb-true, leb-true}
use Rattle.store.specs.Held.{Entry, Sound, proper, value_limit}
use Rattle.store.proofs.Maps.{sound-put}
use Rattle.log_store.specs.Format.{fit, all_fit}
use Rattle.log_store.specs.Logs.{meaning}

-- what makes an entry fit
pub record Fit (e : Entry) : Type 0 where
  pub proper_key : proper e.key ≡ true
  pub handle : e.key.handle.0 < 4294967296
  pub short : length e.value ≤ 576

-- an entry that fits has these parts
pub fit_parts : (e : Entry) → fit e ≡ true → Fit e
fit_parts e h =
    let p = and_parts (proper e.key && nat_lt e.key.handle.0 4294967296) (nat_le (length e.value) value_limit) h in
    let q = and_parts (proper e.key) (nat_lt e.key.handle.0 4294967296) p.0 in
    record { proper_key = q.0; handle = ltb-true _ _ q.1; short = leb-true _ _ p.1 }

-- where all entries fit, the first does, and those behind it
pub fit-first : (e : Entry) (es : List Entry) → all_fit (e ∷ es) ≡ true → fit e ≡ true
fit-first e es h = (and_parts (fit e) (all_fit es) h).0

pub fit-rest : (e : Entry) (es : List Entry) → all_fit (e ∷ es) ≡ true → all_fit es ≡ true
fit-rest e es h = (and_parts (fit e) (all_fit es) h).1

-- the map of entries that fit is sound
pub sound-meaning : (es : List Entry) → all_fit es ≡ true → Sound (meaning es)
sound-meaning [] a = tt
sound-meaning (e ∷ es) a =
    let p = fit_parts e (fit-first e es a) in
    sound-put (meaning es) e.key e.value p.proper_key p.short (sound-meaning es (fit-rest e es a))

-- the smallest memory has room for two entries of the largest size
pub two_entries : (n : ℕ) → 1166 ≤ n → 2 ≤ n / 583
two_entries n h = omega arith

-- as many keys as were counted are within what was counted against
pub within_of : (count n capacity : ℕ) → count ≡ n → count ≤ capacity → n ≤ capacity
within_of count n capacity e h = omega arith
