-- What is true of every stored reading.
use Rattle.std.specs.Prelude.{◌≡◌, ℕ, ◌^◌, ◌<◌, ◌≤◌, List, length, Some}
use Rattle.protocol.specs.Bytes.{AllBytes}
use Rattle.readings.specs.Readings.{Reading, recorded, stored_reading}

-- a reading that the broker may write while so many numbers are given
pub record Proper (numbers : ℕ) (r : Reading) : Type 0 where
  pub format : r.format < 65536
  pub counted : 1 ≤ r.number
  pub given : r.number ≤ numbers
  pub small : r.number < 2 ^ 32
  pub short : length r.payload ≤ 256

-- a recorded reading reads back, a string of bytes that reads as one is its record, and a record is short enough for a store
pub record Kept : Type 0 where
  pub reads_back : (numbers : ℕ) (r : Reading) → Proper numbers r → stored_reading numbers (recorded r) ≡ Some r
  pub exactly : (numbers : ℕ) (v : List ℕ) (r : Reading) → AllBytes v → stored_reading numbers v ≡ Some r → v ≡ recorded r
  pub short : (r : Reading) → length r.payload ≤ 256 → length (recorded r) ≤ 262
