-- What the broker keeps of a topic: the one written form of properties that are whole and belong to the topic's handle.
use Rattle.std.specs.Prelude.{ℕ, Bool, if◌then◌else◌, ◌&&◌, List, is_some, Some, None, Ok, Err, codes, Option, Result}
use Rattle.protocol.specs.Addresses.{data_address}
use Rattle.protocol.specs.Bytes.{alike}
use Rattle.protocol.specs.declared.fault.Fault.{Fault}
use Rattle.maps.specs.Maps.{Props, read_map, written, in_range}
use Rattle.topics.specs.Admission.{gives}

-- the properties of a topic with this handle: in range, with a name, the resource type of topics, the handle's data
-- address, and both numbers that have a default
abbrev pub kept_for : ℕ → Props → Bool
kept_for h p =
    in_range p
    && (is_some p.name
    && (gives (codes "core.ps.data") p.resource_type
    && (gives (data_address h) p.data_address
    && (is_some p.max_subscribers && is_some p.observer_check))))

-- what was read from a value, if it is a topic's and the value is its written form
abbrev pub recognised : ℕ → List ℕ → Result Props Fault → Option Props
recognised h v (Err f) = None
recognised h v (Ok p) = if kept_for h p && alike (written p) v then Some p else None

-- the properties that a stored value gives, if it is as the broker writes it for this handle
abbrev pub stored : ℕ → List ℕ → Option Props
stored h v = recognised h v (read_map v)
