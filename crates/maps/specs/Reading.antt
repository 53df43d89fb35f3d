-- What the results of reading mean.
use Rattle.std.specs.Prelude.{ℕ, if◌then◌else◌, List, length, take, drop, Ok, Err, Result, nat_le}
use Rattle.std.specs.Borrow.{Bor}
use Rattle.protocol.specs.declared.fault.Fault.{Fault}
use Rattle.protocol.specs.declared.fault.Fault.TheVariants.{Ends}
use Rattle.maps.specs.declared.properties.Properties.{Properties}
use Rattle.maps.specs.Heads.{Got}
use Rattle.maps.specs.Maps.{Props, meant}

-- the outcome of a step: what the value read means, with the bytes that are left behind it, or the fault
abbrev pub outcome : {X Y : Type 0} → (X → Y) → Result X Fault → List ℕ → Result (Got Y) Fault
outcome mean (Ok x) rest = Ok (record { item = mean x; rest = rest })
outcome mean (Err e) rest = Err e

-- the same, where the code gives the bytes behind what was read
abbrev pub parted : {X Y : Type 0} → (X → Y) → Result (X × Bor (List ℕ)) Fault → Result (Got Y) Fault
parted mean (Ok p) = Ok (record { item = mean p.0; rest = p.1.now })
parted mean (Err e) = Err e

-- a value that means itself
abbrev pub itself : {X : Type 0} → X → X
itself x = x

-- the next n bytes, unless there are fewer
abbrev pub taken : ℕ → List ℕ → Result (Got (List ℕ)) Fault
taken n bs = if nat_le n (length bs) then Ok (record { item = take n bs; rest = drop n bs }) else Err Ends

-- what the properties of an answer mean, or the error
abbrev pub told : {E : Type 0} → Result Properties E → Result Props E
told (Ok p) = Ok (meant p)
told (Err e) = Err e
