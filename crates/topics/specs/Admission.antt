-- Which maps make a topic, and with which properties.
use Rattle.std.specs.Prelude.{ℕ, Bool, false, if◌then◌else◌, not, ◌&&◌, List, length, is_some, Some, None, Ok, Err, codes, Option, Result, nat_le}
use Rattle.protocol.specs.Bytes.{alike}
use Rattle.protocol.specs.declared.fault.Fault.{Fault}
use Rattle.protocol.specs.declared.refusal.Refusal.{Refusal}
use Rattle.protocol.specs.declared.refusal.Refusal.TheVariants.{TooLarge, Unreadable, BadValue}
use Rattle.maps.specs.Maps.{Props, read_map, in_range, with_defaults, with_data_address}

-- whether a text is given, and is this one
abbrev pub gives : List ℕ → Option (List ℕ) → Bool
gives t None = false
gives t (Some s) = alike s t

-- a name and the resource type of topics are given, and no data address
abbrev pub fit : Props → Bool
fit p = is_some p.name && (gives (codes "core.ps.data") p.resource_type && not (is_some p.data_address))

-- what was read, judged: ranges, and the keys that are needed and forbidden
abbrev pub judged : List ℕ → Result Props Fault → Result Props Refusal
judged address (Err f) = Err (Unreadable f)
judged address (Ok p) = if in_range p && fit p then Ok (with_defaults (with_data_address p address)) else Err BadValue

-- the properties of a new topic with this data address, or why a map makes none
abbrev pub admitted : List ℕ → List ℕ → Result Props Refusal
admitted address bs = if nat_le (length bs) 576 then judged address (read_map bs) else Err TooLarge
