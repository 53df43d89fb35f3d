-- How a client's map changes a topic: which maps do, and what the topic's properties are then.
use Rattle.std.specs.Prelude.{ℕ, Bool, if◌then◌else◌, ◌&&◌, List, length, Ok, Err, Option, Result, nat_le}
use Rattle.std.specs.Option.{option_or}
use Rattle.protocol.specs.declared.fault.Fault.{Fault}
use Rattle.protocol.specs.declared.refusal.Refusal.{Refusal}
use Rattle.protocol.specs.declared.refusal.Refusal.TheVariants.{TooLarge, Unreadable, BadValue}
use Rattle.maps.specs.Maps.{Props, absent_or, in_range, read_map, with_defaults}
use Rattle.topics.specs.declared.amendment.Amendment.{Amendment}
use Rattle.topics.specs.declared.amendment.Amendment.TheVariants.{Replace, Patch}
use Rattle.topics.specs.Admission.{gives}

-- a text that may not change is not given, or is given as it stands
abbrev pub unchanged : Option (List ℕ) → Option (List ℕ) → Bool
unchanged standing given = absent_or (λ t. gives t standing) given

-- name, data address and resource type are not given, or are given as they stand
abbrev pub fixed : Props → Props → Bool
fixed p g =
    unchanged p.name g.name
    && (unchanged p.data_address g.data_address && unchanged p.resource_type g.resource_type)

-- a replaced topic: its name, addresses and type stay; the other properties are those given, or absent, or their defaults
abbrev pub replaced : Props → Props → Props
replaced p g = with_defaults (record p {
  content_format = g.content_format;
  topic_type = g.topic_type;
  expiration = g.expiration;
  max_subscribers = g.max_subscribers;
  observer_check = g.observer_check;
})

-- a patched topic: what is given, and the rest as it stood
abbrev pub patched : Props → Props → Props
patched p g = record p {
  content_format = option_or g.content_format p.content_format;
  topic_type = option_or g.topic_type p.topic_type;
  expiration = option_or g.expiration p.expiration;
  max_subscribers = option_or g.max_subscribers p.max_subscribers;
  observer_check = option_or g.observer_check p.observer_check;
}

-- the topic's properties once it is changed by those given
abbrev pub changed : Amendment → Props → Props → Props
changed Replace p g = replaced p g
changed Patch p g = patched p g

-- what was read, judged: ranges, and the keys that may not change
abbrev pub weighed : Amendment → Props → Result Props Fault → Result Props Refusal
weighed a p (Err f) = Err (Unreadable f)
weighed a p (Ok g) = if in_range g && fixed p g then Ok (changed a p g) else Err BadValue

-- the properties of a topic once a client's map has changed it, or why the map does not
abbrev pub amended : Amendment → Props → List ℕ → Result Props Refusal
amended a p bs = if nat_le (length bs) 576 then weighed a p (read_map bs) else Err TooLarge
