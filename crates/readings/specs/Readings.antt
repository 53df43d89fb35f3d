-- Readings: what a publish brings, and the bytes under which the broker stores it.
use Rattle.std.specs.Prelude.{ℕ, Bool, cond, ◌&&◌, List, ◌++◌, length, take, drop, Some, None, Option, nat_le}
use Rattle.protocol.specs.Bytes.{be_bytes, be_number}
use Rattle.readings.specs.declared.reading.Reading as code

-- a reading: its content format, its publication number and its payload
pub record Reading : Type 0 where
  pub format : ℕ
  pub number : ℕ
  pub payload : List ℕ

-- what the code's reading means
abbrev pub meant : code.Reading → Reading
meant r = record { format = r.format; number = r.number.0; payload = r.payload.now }

-- the bytes under which a reading is stored: format in 2 bytes, number in 4, and the payload
abbrev pub recorded : Reading → List ℕ
recorded r = be_bytes 2 r.format ++ (be_bytes 4 r.number ++ r.payload)

-- bytes taken as a reading
abbrev pub parsed : List ℕ → Reading
parsed v = record { format = be_number (take 2 v); number = be_number (take 4 (drop 2 v)); payload = drop 6 v }

-- the value is as long as a reading can be, and its number was given: they are counted from 1
abbrev pub plausible : ℕ → List ℕ → Bool
plausible numbers v =
    nat_le 6 (length v) && (nat_le (length v) 262 && (nat_le 1 (parsed v).number && nat_le (parsed v).number numbers))

-- the reading that a stored value gives, if it is as the broker writes one while so many numbers are given
abbrev pub stored_reading : ℕ → List ℕ → Option Reading
stored_reading numbers v = cond (plausible numbers v) (Some (parsed v)) None
