-- Heads of data items (RFC 8949, section 3): a first byte, and up to eight bytes of argument behind it.
use Rattle.std.specs.Prelude.{ℕ, ◌+◌, ◌-◌, ◌*◌, ◌/◌, ◌%◌, ◌^◌, if◌then◌else◌, List, [], ◌∷◌, length, take, drop, Ok, Err, Result, nat_le, nat_lt}
use Rattle.protocol.specs.Bytes.{be_bytes, be_number}
use Rattle.protocol.specs.declared.fault.Fault.{Fault}
use Rattle.protocol.specs.declared.fault.Fault.TheVariants.{Ends, WrongType}
use Rattle.maps.specs.declared.head.Major.{Major}
use Rattle.maps.specs.declared.head.Major.TheVariants.{Unsigned, Negative, Bytes, Text, Array, Map, Tag, Simple}
use Rattle.maps.specs.declared.head.Head as code

-- a head: its major type, 0 to 7, and its argument
pub record Head : Type 0 where
  pub major : ℕ
  pub argument : ℕ

-- the number of a major type
abbrev pub major_number : Major → ℕ
major_number Unsigned = 0
major_number Negative = 1
major_number Bytes = 2
major_number Text = 3
major_number Array = 4
major_number Map = 5
major_number Tag = 6
major_number Simple = 7

-- what the code's head means
abbrev pub head_meant : code.Head → Head
head_meant h = record { major = major_number h.major; argument = h.argument }

-- what was read, and the bytes behind it
pub record Got (X : Type 0) : Type 0 where
  pub item : X
  pub rest : List ℕ

-- a head whose argument stands in the next w bytes
abbrev pub long_head : ℕ → ℕ → List ℕ → Result (Got Head) Fault
long_head major w bs =
    if nat_le w (length bs)
    then Ok (record { item = record { major = major; argument = be_number (take w bs) }; rest = drop w bs })
    else Err Ends

-- the head that bytes begin with: the first byte has the major type times 32 and the additional information,
-- which is the argument itself below 24, says by 24 to 27 that the argument has 1, 2, 4 or 8 bytes, and is wrong above
abbrev pub head_of : List ℕ → Result (Got Head) Fault
head_of [] = Err Ends
head_of (b ∷ bs) =
    if nat_lt (b % 32) 24 then Ok (record { item = record { major = b / 32; argument = b % 32 }; rest = bs })
    else if nat_lt (b % 32) 28 then long_head (b / 32) (2 ^ (b % 32 - 24)) bs
    else Err WrongType

-- the shortest head with this major type and argument
abbrev pub head_bytes : ℕ → ℕ → List ℕ
head_bytes major n =
    if nat_lt n 24 then (major * 32 + n) ∷ []
    else if nat_lt n (256 ^ 1) then (major * 32 + 24) ∷ be_bytes 1 n
    else if nat_lt n (256 ^ 2) then (major * 32 + 25) ∷ be_bytes 2 n
    else if nat_lt n (256 ^ 4) then (major * 32 + 26) ∷ be_bytes 4 n
    else (major * 32 + 27) ∷ be_bytes 8 n
