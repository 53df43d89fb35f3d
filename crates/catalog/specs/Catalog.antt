-- What a store's map says of topics, where so many handles and publication numbers are given.
use Rattle.std.specs.Prelude.{ℕ, Bool, false, cond, not, ◌||◌, List, [], ◌∷◌, is_some, Some, None, Err, Option, Result, ◌==◌, nat_le}
use Rattle.std.specs.Option.{ok_or}
use Rattle.protocol.specs.declared.refusal.Refusal.{Refusal}
use Rattle.protocol.specs.declared.refusal.Refusal.TheVariants.{NoSuchTopic, HalfCreated, ForeignValue}
use Rattle.maps.specs.Maps.{Props}
use Rattle.readings.specs.Readings.{Reading, stored_reading}
use Rattle.store.specs.Held.{Entry, look, data_key, properties_key}
use Rattle.topics.specs.Admission.{gives}
use Rattle.topics.specs.Stored.{stored}

-- the properties that a value gives, if it is as the broker writes it for this handle, and the handle is given
abbrev pub kept : ℕ → ℕ → List ℕ → Option Props
kept handles h v = cond (nat_le h handles) (stored h v) None

-- the topic of a value, if there is one
abbrev pub topic_of : ℕ → ℕ → Option (List ℕ) → Result Props Refusal
topic_of handles h None = Err NoSuchTopic
topic_of handles h (Some v) = ok_or (kept handles h v) ForeignValue

-- the topic with this handle, or why there is none to speak of
abbrev pub topic_at : List Entry → ℕ → ℕ → Result Props Refusal
topic_at es handles h = topic_of handles h (look es (properties_key h))

-- the reading of a value, if there is one
abbrev pub reading_of : ℕ → Option (List ℕ) → Result Reading Refusal
reading_of numbers None = Err HalfCreated
reading_of numbers (Some v) = ok_or (stored_reading numbers v) ForeignValue

-- the latest reading of the topic with this handle, or why there is none to speak of
abbrev pub reading_at : List Entry → ℕ → ℕ → Result Reading Refusal
reading_at es numbers h = reading_of numbers (look es (data_key h))

-- whether the topic has data
abbrev pub has_data : List Entry → ℕ → Bool
has_data es h = is_some (look es (data_key h))

-- a topic that the store holds: its handle, and its properties if they are as the broker writes them
pub record Topic : Type 0 where
  pub handle : ℕ
  pub properties : Option Props

-- all topics that the store holds, by rising handle
abbrev pub topics : ℕ → List Entry → List Topic
topics handles [] = []
topics handles (e ∷ es) =
    cond (e.key.part == 0)
    (record { handle = e.key.handle.0; properties = kept handles e.key.handle.0 e.value } ∷ topics handles es)
    (topics handles es)

-- one of the topics has properties that the broker would not have written
abbrev pub some_foreign : List Topic → Bool
some_foreign [] = false
some_foreign (t ∷ ts) = not (is_some t.properties) || some_foreign ts

-- a name is given, and the properties have it
abbrev pub has_name : Option (List ℕ) → Option Props → Bool
has_name None p = false
has_name (Some n) None = false
has_name (Some n) (Some p) = gives n p.name

-- a name is given, and one of the topics has it
abbrev pub name_taken : Option (List ℕ) → List Topic → Bool
name_taken n [] = false
name_taken n (t ∷ ts) = has_name n t.properties || name_taken n ts

-- the date is given, and has come by this second
abbrev pub has_come : ℕ → Option ℕ → Bool
has_come second None = false
has_come second (Some date) = nat_le date second

-- the properties give a date that has come by this second
abbrev pub is_due : ℕ → Option Props → Bool
is_due second None = false
is_due second (Some p) = has_come second p.expiration

-- the lowest handle of a topic whose date has come, if there is one
abbrev pub first_due : ℕ → List Topic → Option ℕ
first_due second [] = None
first_due second (t ∷ ts) = cond (is_due second t.properties) (Some t.handle) (first_due second ts)
