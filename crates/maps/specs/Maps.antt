-- Property maps: which properties the bytes of a map give, or which fault, and the one form in which properties are written.
use Rattle.std.specs.Prelude.{ℕ, zero, suc, ◌+◌, Bool, true, false, cond, ◌&&◌, List, [], ◌∷◌, ◌++◌, length, take, drop, is_some, Some, None, Ok, Err, Option, Result, ◌==◌, nat_le, nat_lt}
use Rattle.std.specs.Option.{ok_or, option_map, unwrap_or}
use Rattle.protocol.specs.declared.fault.Fault.{Fault}
use Rattle.protocol.specs.declared.fault.Fault.TheVariants.{Ends, WrongType, UnknownKey, RepeatedKey, Trailing}
use Rattle.maps.specs.declared.properties.Key.{Key}
use Rattle.maps.specs.declared.properties.Key.TheVariants.{Name, DataAddress, ResourceType, ContentFormat, TopicType, Expiration, MaxSubscribers, ObserverCheck}
use Rattle.maps.specs.declared.properties.Properties.{Properties}
use Rattle.maps.specs.Heads.{Got, head_of, head_bytes}

-- the properties of a topic, by their keys 0 to 7, with texts as strings of bytes
pub record Props : Type 0 where
  pub name : Option (List ℕ)
  pub data_address : Option (List ℕ)
  pub resource_type : Option (List ℕ)
  pub content_format : Option ℕ
  pub topic_type : Option (List ℕ)
  pub expiration : Option ℕ
  pub max_subscribers : Option ℕ
  pub observer_check : Option ℕ

-- what the code's record means
abbrev pub meant : Properties → Props
meant p = record {
  name = option_map (λ x. x.now) p.name;
  data_address = option_map (λ x. x.now) p.data_address;
  resource_type = option_map (λ x. x.now) p.resource_type;
  content_format = p.content_format;
  topic_type = option_map (λ x. x.now) p.topic_type;
  expiration = p.expiration;
  max_subscribers = p.max_subscribers;
  observer_check = p.observer_check;
}

-- no property given
abbrev pub nothing : Props
nothing = record {
  name = None;
  data_address = None;
  resource_type = None;
  content_format = None;
  topic_type = None;
  expiration = None;
  max_subscribers = None;
  observer_check = None;
}

-- what is done next with what was read, unless it was faulty
abbrev pub then : {X Y : Type 0} → Result (Got X) Fault → (X → List ℕ → Result (Got Y) Fault) → Result (Got Y) Fault
then (Ok g) f = f g.item g.rest
then (Err e) f = Err e

-- an item of a given major type: its argument
abbrev pub item_of : ℕ → List ℕ → Result (Got ℕ) Fault
item_of major bs = then (head_of bs) (λ h rest. cond (h.major == major) (Ok (record { item = h.argument; rest = rest })) (Err WrongType))

-- an unsigned number
abbrev pub number_of : List ℕ → Result (Got ℕ) Fault
number_of bs = item_of 0 bs

-- a text: a head with its length, and as many bytes
abbrev pub text_of : List ℕ → Result (Got (List ℕ)) Fault
text_of bs = then (item_of 3 bs) (λ n rest. cond (nat_le n (length rest)) (Ok (record { item = take n rest; rest = drop n rest })) (Err Ends))

-- a date: tag 1, and an unsigned number of seconds
abbrev pub date_of : List ℕ → Result (Got ℕ) Fault
date_of bs = then (item_of 6 bs) (λ tag rest. cond (tag == 1) (number_of rest) (Err WrongType))

-- the number of a key
abbrev pub key_number : Key → ℕ
key_number Name = 0
key_number DataAddress = 1
key_number ResourceType = 2
key_number ContentFormat = 3
key_number TopicType = 4
key_number Expiration = 5
key_number MaxSubscribers = 6
key_number ObserverCheck = 7

-- the key of a number; none above 7
abbrev pub key_of : ℕ → Option Key
key_of n =
    cond (n == 0) (Some Name)
    (cond (n == 1) (Some DataAddress)
    (cond (n == 2) (Some ResourceType)
    (cond (n == 3) (Some ContentFormat)
    (cond (n == 4) (Some TopicType)
    (cond (n == 5) (Some Expiration)
    (cond (n == 6) (Some MaxSubscribers)
    (cond (n == 7) (Some ObserverCheck)
    None)))))))

-- the key of a number, or that it is unknown
abbrev pub known : ℕ → Result Key Fault
known n = ok_or (key_of n) UnknownKey

-- whether a key is given
abbrev pub has : Props → Key → Bool
has p Name = is_some p.name
has p DataAddress = is_some p.data_address
has p ResourceType = is_some p.resource_type
has p ContentFormat = is_some p.content_format
has p TopicType = is_some p.topic_type
has p Expiration = is_some p.expiration
has p MaxSubscribers = is_some p.max_subscribers
has p ObserverCheck = is_some p.observer_check

-- the name given, the others as they were
abbrev pub with_name : Props → List ℕ → Props
with_name p v = record p { name = Some v }

-- the data address given, the others as they were
abbrev pub with_data_address : Props → List ℕ → Props
with_data_address p v = record p { data_address = Some v }

-- the resource type given, the others as they were
abbrev pub with_resource_type : Props → List ℕ → Props
with_resource_type p v = record p { resource_type = Some v }

-- the content format given, the others as they were
abbrev pub with_content_format : Props → ℕ → Props
with_content_format p v = record p { content_format = Some v }

-- the topic type given, the others as they were
abbrev pub with_topic_type : Props → List ℕ → Props
with_topic_type p v = record p { topic_type = Some v }

-- the expiration date given, the others as they were
abbrev pub with_expiration : Props → ℕ → Props
with_expiration p v = record p { expiration = Some v }

-- the most subscribers given, the others as they were
abbrev pub with_max_subscribers : Props → ℕ → Props
with_max_subscribers p v = record p { max_subscribers = Some v }

-- the observer check given, the others as they were
abbrev pub with_observer_check : Props → ℕ → Props
with_observer_check p v = record p { observer_check = Some v }

-- the value of a key, added to what was given before it
abbrev pub value_of : Key → Props → List ℕ → Result (Got Props) Fault
value_of Name p bs = then (text_of bs) (λ v rest. Ok (record { item = with_name p v; rest = rest }))
value_of DataAddress p bs = then (text_of bs) (λ v rest. Ok (record { item = with_data_address p v; rest = rest }))
value_of ResourceType p bs = then (text_of bs) (λ v rest. Ok (record { item = with_resource_type p v; rest = rest }))
value_of ContentFormat p bs = then (number_of bs) (λ v rest. Ok (record { item = with_content_format p v; rest = rest }))
value_of TopicType p bs = then (text_of bs) (λ v rest. Ok (record { item = with_topic_type p v; rest = rest }))
value_of Expiration p bs = then (date_of bs) (λ v rest. Ok (record { item = with_expiration p v; rest = rest }))
value_of MaxSubscribers p bs = then (number_of bs) (λ v rest. Ok (record { item = with_max_subscribers p v; rest = rest }))
value_of ObserverCheck p bs = then (number_of bs) (λ v rest. Ok (record { item = with_observer_check p v; rest = rest }))

-- what follows a key: it may neither be above 7 nor stand in the map already
abbrev pub keyed : Option Key → Props → List ℕ → Result (Got Props) Fault
keyed None p bs = Err UnknownKey
keyed (Some k) p bs = cond (has p k) (Err RepeatedKey) (value_of k p bs)

-- a key and its value
abbrev pub entry_of : Props → List ℕ → Result (Got Props) Fault
entry_of p bs = then (number_of bs) (λ k rest. keyed (key_of k) p rest)

-- so many keys and values
abbrev pub entries_of : ℕ → Props → List ℕ → Result (Got Props) Fault
entries_of zero p bs = Ok (record { item = p; rest = bs })
entries_of (suc n) p bs = then (entry_of p bs) (λ q rest. entries_of n q rest)

-- nothing may follow the map
abbrev pub alone : Props → List ℕ → Result Props Fault
alone p [] = Ok p
alone p (b ∷ bs) = Err Trailing

-- what was read up to the end of the map, and that nothing follows it
abbrev pub whole : Result (Got Props) Fault → Result Props Fault
whole (Ok g) = alone g.item g.rest
whole (Err e) = Err e

-- the properties that the bytes of a map give, or the first fault from the front
abbrev pub read_map : List ℕ → Result Props Fault
read_map bs = whole (then (item_of 5 bs) (λ n rest. entries_of n nothing rest))

-- a key and its text, if it is given
abbrev pub text_entry : Key → Option (List ℕ) → List ℕ
text_entry k None = []
text_entry k (Some t) = head_bytes 0 (key_number k) ++ (head_bytes 3 (length t) ++ t)

-- a key and its number, if it is given
abbrev pub number_entry : Key → Option ℕ → List ℕ
number_entry k None = []
number_entry k (Some n) = head_bytes 0 (key_number k) ++ head_bytes 0 n

-- a key and its date, if it is given
abbrev pub date_entry : Key → Option ℕ → List ℕ
date_entry k None = []
date_entry k (Some n) = head_bytes 0 (key_number k) ++ (head_bytes 6 1 ++ head_bytes 0 n)

-- 1 for a key that is given
abbrev pub one_if : Bool → ℕ
one_if true = 1
one_if false = 0

-- how many keys are given
abbrev pub given : Props → ℕ
given p =
    one_if (has p Name) + one_if (has p DataAddress) + one_if (has p ResourceType) + one_if (has p ContentFormat) + one_if (has p TopicType) + one_if (has p Expiration) + one_if (has p MaxSubscribers) + one_if (has p ObserverCheck)

-- the entries of a map, by rising key
abbrev pub written_entries : Props → List ℕ
written_entries p =
    text_entry Name p.name
    ++ (text_entry DataAddress p.data_address
    ++ (text_entry ResourceType p.resource_type
    ++ (number_entry ContentFormat p.content_format
    ++ (text_entry TopicType p.topic_type
    ++ (date_entry Expiration p.expiration
    ++ (number_entry MaxSubscribers p.max_subscribers
    ++ (number_entry ObserverCheck p.observer_check)))))))

-- the one form in which properties are written: a map of definite length, keys rising, shortest heads
abbrev pub written : Props → List ℕ
written p = head_bytes 5 (given p) ++ written_entries p

-- an absent value, or one that passes
abbrev pub absent_or : {X : Type 0} → (X → Bool) → Option X → Bool
absent_or ok None = true
absent_or ok (Some x) = ok x

-- every value that has a range lies in it: a name has 1 to 256 bytes, a topic type 0 to 256, and the numbers fit their limits
abbrev pub in_range : Props → Bool
in_range p =
    absent_or (λ t. nat_lt 0 (length t) && nat_le (length t) 256) p.name
    && (absent_or (λ n. nat_le n 65535) p.content_format
    && (absent_or (λ t. nat_le (length t) 256) p.topic_type
    && (absent_or (λ n. nat_le n 4294967295) p.expiration
    && (absent_or (λ n. nat_le n 100) p.max_subscribers
    && absent_or (λ n. nat_le n 4294967295) p.observer_check))))

-- max-subscribers and observer-check where they are not given
abbrev pub with_defaults : Props → Props
with_defaults p = with_observer_check (with_max_subscribers p (unwrap_or p.max_subscribers 100)) (unwrap_or p.observer_check 86400)
