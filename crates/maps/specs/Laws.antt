-- What is true of reading and writing property maps, for every set of properties.
use Rattle.std.specs.Prelude.{◌≡◌, ℕ, ◌^◌, ◌<◌, ◌≤◌, true, List, length, IfSome, Ok, Option}
use Rattle.maps.specs.Maps.{Props, read_map, written, in_range}

-- a text whose length a head can hold, where there is one
abbrev pub Text : Option (List ℕ) → Type 0
Text o = IfSome o (λ t. length t < 2 ^ 64)

-- a number that a head can hold, where there is one
abbrev pub Num : Option ℕ → Type 0
Num o = IfSome o (λ n. n < 2 ^ 64)

-- properties that the wire can carry: every length and number has at most 64 bits
pub record Carried (p : Props) : Type 0 where
  pub name : Text p.name
  pub data_address : Text p.data_address
  pub resource_type : Text p.resource_type
  pub content_format : Num p.content_format
  pub topic_type : Text p.topic_type
  pub expiration : Num p.expiration
  pub max_subscribers : Num p.max_subscribers
  pub observer_check : Num p.observer_check

-- a written map reads back as the same properties
abbrev pub ReadsBack : Type 0
ReadsBack = (p : Props) → Carried p → read_map (written p) ≡ Ok p

-- one form: what is read from a written map is written to the same bytes
abbrev pub OneForm : Type 0
OneForm = (p q : Props) → Carried p → read_map (written p) ≡ Ok q → written q ≡ written p

-- a topic's properties: in range, with a data address of 17 bytes and a resource type of 12
pub record Topical (p : Props) : Type 0 where
  pub ranged : in_range p ≡ true
  pub data_address : IfSome p.data_address (λ t. length t ≡ 17)
  pub resource_type : IfSome p.resource_type (λ t. length t ≡ 12)

-- the largest map that is written for a topic has 574 bytes
pub record Largest : Type 0 where
  pub bound : (p : Props) → Topical p → length (written p) ≤ 574
  pub fullest : Props
  pub topical : Topical fullest
  pub reached : length (written fullest) ≡ 574
