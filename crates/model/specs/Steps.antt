-- What each call does, for all that it may meet: its refusals in their order, its response, its messages, and what is held then.
use Rattle.std.specs.Prelude.{ℕ, ◌+◌, ◌-◌, ◌*◌, ◌/◌, Bool, true, false, cond, not, ◌&&◌, ◌||◌, List, [], ◌∷◌, ◌++◌, length, Some, None, Ok, Err, Option, Result, ◌==◌, nat_eq, nat_le, nat_lt}
use Rattle.std.specs.Option.{unwrap_or}
use Rattle.protocol.specs.Addresses.{data_address}
use Rattle.protocol.specs.declared.code.Code.{Code}
use Rattle.protocol.specs.declared.code.Code.TheVariants.{Created, Deleted, Changed, Content, NotFound}
use Rattle.protocol.specs.declared.refusal.Refusal.{Refusal}
use Rattle.protocol.specs.declared.refusal.Refusal.TheVariants.{ShortBuffers, TooLarge, BadValue, HalfCreated, WrongFormat, NameTaken, MessagesDoNotFit, NoRoom, CounterSpent, ForeignValue}
use Rattle.clients.specs.Subs.{Sub}
use Rattle.maps.specs.Maps.{Props, written, absent_or}
use Rattle.outbox.specs.Answers.{take_answer, rest}
use Rattle.outbox.specs.Notes.{Note}
use Rattle.outbox.specs.declared.message.Content as messages
use Rattle.store.specs.Held.{full, put, remove, data_key, properties_key}
use Rattle.subscribers.specs.Standing.{Standing, stands, subs_at, without, without_topic}
use Rattle.topics.specs.Admission.{admitted}
use Rattle.topics.specs.Amendment.{amended}
use Rattle.topics.specs.declared.amendment.Amendment.{Amendment}
use Rattle.topics.specs.declared.amendment.Amendment.TheVariants.{Replace, Patch}
use Rattle.readings.specs.Readings.{Reading, recorded}
use Rattle.evictions.specs.Leaving.{leaving, without_each}
use Rattle.catalog.specs.Catalog.{topic_at, reading_at, has_data, topics, some_foreign, name_taken, first_due}
use Rattle.catalog.specs.Links.{handles_in, topic_links, data_links}
use Rattle.model.specs.Calls.{Call, create, list, data_list, show, replace, patch, delete_topic, publish, read, subscribe, unsubscribe, delete_data, expire, take}
use Rattle.model.specs.Outcomes.{Outcome, Step, expired, refused, replied, settled, took}
use Rattle.model.specs.State.{State, Parts, Room}

-- the largest handle, and the largest publication number
abbrev pub largest : ℕ
largest = 4294967295

-- the most topics that create makes and that a list shows
abbrev pub most_topics : ℕ
most_topics = 32

-- refused, unless the test holds
abbrev pub provided : {X : Type 0} → Bool → Refusal → Result X Refusal → Result X Refusal
provided ok refusal further = cond ok further (Err refusal)

-- what follows what was found, unless that was refused
abbrev pub then : {X Y : Type 0} → Result X Refusal → (X → Result Y Refusal) → Result Y Refusal
then (Ok x) further = further x
then (Err e) further = Err e

-- refused, unless the answer buffer has 640 bytes and the work list 100 places
abbrev pub lent : {X : Type 0} → Room → Result X Refusal → Result X Refusal
lent room further = provided (nat_le 640 room.bytes && nat_le 100 room.work) ShortBuffers further

-- refused, unless messages with so many bytes of payload for these subscribers fit the outbox; none are sent to nobody
abbrev pub sent : {X : Type 0} → Parts → List Sub → ℕ → Result X Refusal → Result X Refusal
sent parts subs len further =
    provided (length subs == 0 || parts.fits (length subs) len) MessagesDoNotFit further

-- one message with this content for each subscriber, in their order
abbrev pub notes : messages.Content → List ℕ → List Sub → List Note
notes c p [] = []
notes c p (s ∷ ss) = record { to = s; content = c; payload = p } ∷ notes c p ss

-- final messages: 4.04, number 0, format 0 and no payload
abbrev pub finals : ℕ → List Sub → List Note
finals h subs =
    notes (record { handle = record { 0 = h }; code = NotFound; number = record { 0 = 0 }; format = 0 }) [] subs

-- notifications of a reading: 2.05 with its number, format and payload
abbrev pub notifications : ℕ → Reading → List Sub → List Note
notifications h r subs =
    notes (record { handle = record { 0 = h }; code = Content; number = record { 0 = r.number }; format = r.format }) r.payload subs

-- a response with a code alone
abbrev pub plain : Code → Outcome
plain c = replied (record { code = c; handle = None; observe = None; format = None; payload = [] })

-- a response with a code and these bytes
abbrev pub showing : Code → List ℕ → Outcome
showing c bytes = replied (record { code = c; handle = None; observe = None; format = None; payload = bytes })

-- a response with a reading, and with an Observe number where the client is subscribed
abbrev pub reading_reply : Reading → Option ℕ → Outcome
reading_reply r observe =
    replied (record { code = Content; handle = None; observe = observe; format = Some r.format; payload = r.payload })

-- an answer that changes nothing
abbrev pub quiet : State → Outcome → Step
quiet s o = record { outcome = o; posted = []; next = s }

-- CREATE

-- the handle that the next topic gets; the last one, where none is left
abbrev pub next_handle : State → ℕ
next_handle s = cond (nat_lt s.handles largest) (s.handles + 1) s.handles

-- there may be a topic more: fewer than 32 stand, the store can hold two keys for each and for one more, and is not full
abbrev pub has_room : Parts → State → Bool
has_room parts s =
    nat_lt (length (topics s.handles s.held)) most_topics
    && (nat_le (2 * (length (topics s.handles s.held) + 1)) parts.capacity
    && not (full s.held parts.capacity (properties_key (next_handle s))))

-- the properties are stored under the next handle
abbrev pub created : State → Props → Step
created s p = record {
  outcome = replied (record { code = Created; handle = Some (next_handle s); observe = None; format = None; payload = written p });
  posted = [];
  next = record { held = put s.held (properties_key (next_handle s)) (written p); standing = s.standing; waiting = s.waiting; handles = next_handle s; numbers = s.numbers };
}

abbrev pub create_step : Parts → Room → State → List ℕ → Result Step Refusal
create_step parts room s m =
    lent room
    (provided (not (some_foreign (topics s.handles s.held))) ForeignValue
    (then (admitted (data_address (next_handle s)) m) (λ p.
    provided (not (name_taken p.name (topics s.handles s.held))) NameTaken
    (provided (has_room parts s) NoRoom
    (provided (nat_lt s.handles largest) CounterSpent
    (Ok (created s p)))))))

-- LIST, DATA LIST and SHOW

abbrev pub list_step : Room → State → Result Step Refusal
list_step room s =
    lent room
    (provided (nat_le (length (handles_in s.held)) most_topics) ForeignValue
    (Ok (quiet s (showing Content (topic_links s.held)))))

abbrev pub data_list_step : Room → State → Result Step Refusal
data_list_step room s =
    lent room
    (provided (nat_le (length (handles_in s.held)) most_topics) ForeignValue
    (Ok (quiet s (showing Content (data_links s.held)))))

abbrev pub show_step : Room → State → ℕ → Result Step Refusal
show_step room s h =
    lent room
    (then (topic_at s.held s.handles h) (λ p.
    Ok (quiet s (showing Content (written p)))))

-- REPLACE and PATCH

-- how many subscribers the topic may have
abbrev pub most_of : Props → ℕ
most_of p = unwrap_or p.max_subscribers 0

-- who leaves a topic once it may have so many subscribers, in the order in which they are chosen
abbrev pub leavers : Parts → State → ℕ → ℕ → List Sub
leavers parts s h most = leaving parts.choice (length (subs_at h s.standing) - most) (subs_at h s.standing)

-- the properties are stored, and those above the new limit leave with a final message
abbrev pub amended_topic : State → ℕ → Props → List Sub → Step
amended_topic s h p gone = record {
  outcome = showing Changed (written p);
  posted = finals h gone;
  next = record { held = put s.held (properties_key h) (written p); standing = without_each h gone s.standing; waiting = s.waiting ++ finals h gone; handles = s.handles; numbers = s.numbers };
}

abbrev pub amend_step : Amendment → Parts → Room → State → ℕ → List ℕ → Result Step Refusal
amend_step a parts room s h m =
    lent room
    (then (topic_at s.held s.handles h) (λ p.
    then (amended a p m) (λ q.
    sent parts (leavers parts s h (most_of q)) 0
    (Ok (amended_topic s h q (leavers parts s h (most_of q)))))))

-- DELETE TOPIC and EXPIRE

-- properties and data are removed, and all subscribers leave with a final message
abbrev pub removed_topic : State → ℕ → Outcome → Step
removed_topic s h o = record {
  outcome = o;
  posted = finals h (subs_at h s.standing);
  next = record { held = remove (remove s.held (properties_key h)) (data_key h); standing = without_topic h s.standing; waiting = s.waiting ++ finals h (subs_at h s.standing); handles = s.handles; numbers = s.numbers };
}

abbrev pub delete_topic_step : Parts → Room → State → ℕ → Result Step Refusal
delete_topic_step parts room s h =
    lent room
    (then (topic_at s.held s.handles h) (λ p.
    sent parts (subs_at h s.standing) 0
    (Ok (removed_topic s h (plain Deleted)))))

-- the topic that is due goes, if there is one
abbrev pub expiring : Parts → State → Option ℕ → Result Step Refusal
expiring parts s None = Ok (quiet s (expired None))
expiring parts s (Some h) = sent parts (subs_at h s.standing) 0 (Ok (removed_topic s h (expired (Some h))))

abbrev pub expire_step : Parts → Room → State → ℕ → Result Step Refusal
expire_step parts room s ms =
    lent room
    (provided (not (some_foreign (topics s.handles s.held))) ForeignValue
    (expiring parts s (first_due (ms / 1000) (topics s.handles s.held))))

-- PUBLISH

-- the reading that a publish stores: with the next publication number
abbrev pub new_reading : State → ℕ → List ℕ → Reading
new_reading s f p = record { format = f; number = s.numbers + 1; payload = p }

-- the reading is stored, and all subscribers are notified of it
abbrev pub published : State → ℕ → Reading → Step
published s h r = record {
  outcome = plain (cond (has_data s.held h) Changed Created);
  posted = notifications h r (subs_at h s.standing);
  next = record { held = put s.held (data_key h) (recorded r); standing = s.standing; waiting = s.waiting ++ notifications h r (subs_at h s.standing); handles = s.handles; numbers = r.number };
}

abbrev pub publish_step : Parts → Room → State → ℕ → ℕ → List ℕ → Result Step Refusal
publish_step parts room s h f p =
    lent room
    (then (topic_at s.held s.handles h) (λ t.
    provided (nat_le (length p) 256) TooLarge
    (provided (absent_or (λ g. nat_eq g f) t.content_format) WrongFormat
    (provided (not (full s.held parts.capacity (data_key h))) NoRoom
    (provided (nat_lt s.numbers largest) CounterSpent
    (sent parts (subs_at h s.standing) (length p)
    (Ok (published s h (new_reading s f p)))))))))

-- READ, SUBSCRIBE and UNSUBSCRIBE

abbrev pub read_step : Room → State → ℕ → Result Step Refusal
read_step room s h =
    lent room
    (then (topic_at s.held s.handles h) (λ t.
    then (reading_at s.held s.numbers h) (λ r.
    Ok (quiet s (reading_reply r None)))))

-- the pair has a place: it stands already, or the topic may have one subscriber more and the list has room for one
abbrev pub has_place : Parts → State → ℕ → Standing → Bool
has_place parts s most x =
    stands s.standing x
    || (nat_lt (length (subs_at x.handle s.standing)) most && nat_lt (length s.standing) parts.places)

-- who stands subscribed once one who has a place has come: at the end, unless it stood already
abbrev pub joined : List Standing → Standing → List Standing
joined l x = cond (stands l x) l (l ++ x ∷ [])

-- one who has a place is subscribed and is told the reading's number; any other only reads
abbrev pub subscribed : State → Standing → Reading → Bool → Step
subscribed s x r true = record {
  outcome = reading_reply r (Some r.number);
  posted = [];
  next = record { held = s.held; standing = joined s.standing x; waiting = s.waiting; handles = s.handles; numbers = s.numbers };
}
subscribed s x r false = quiet s (reading_reply r None)

abbrev pub subscribe_step : Parts → Room → State → ℕ → Sub → Result Step Refusal
subscribe_step parts room s h x =
    lent room
    (then (topic_at s.held s.handles h) (λ t.
    then (reading_at s.held s.numbers h) (λ r.
    provided (nat_le (length x.token) 8) BadValue
    (Ok (subscribed s (record { handle = h; sub = x }) r (has_place parts s (most_of t) (record { handle = h; sub = x })))))))

-- one who stands leaves; the answer is that of a read
abbrev pub unsubscribed : State → Standing → Reading → Step
unsubscribed s x r = record {
  outcome = reading_reply r None;
  posted = [];
  next = record { held = s.held; standing = without x s.standing; waiting = s.waiting; handles = s.handles; numbers = s.numbers };
}

abbrev pub unsubscribe_step : Room → State → ℕ → Sub → Result Step Refusal
unsubscribe_step room s h x =
    lent room
    (then (topic_at s.held s.handles h) (λ t.
    then (reading_at s.held s.numbers h) (λ r.
    provided (nat_le (length x.token) 8) BadValue
    (Ok (unsubscribed s (record { handle = h; sub = x }) r)))))

-- DELETE DATA

-- the data is removed, and all subscribers leave with a final message
abbrev pub removed_data : State → ℕ → Step
removed_data s h = record {
  outcome = plain Deleted;
  posted = finals h (subs_at h s.standing);
  next = record { held = remove s.held (data_key h); standing = without_topic h s.standing; waiting = s.waiting ++ finals h (subs_at h s.standing); handles = s.handles; numbers = s.numbers };
}

abbrev pub delete_data_step : Parts → Room → State → ℕ → Result Step Refusal
delete_data_step parts room s h =
    lent room
    (then (topic_at s.held s.handles h) (λ t.
    provided (has_data s.held h) HalfCreated
    (sent parts (subs_at h s.standing) 0
    (Ok (removed_data s h)))))

-- TAKE

-- the oldest message leaves the outbox, if one waits
abbrev pub taken : State → Result (Option Note) Refusal → Step
taken s (Ok n) = record {
  outcome = took n;
  posted = [];
  next = record { held = s.held; standing = s.standing; waiting = rest s.waiting; handles = s.handles; numbers = s.numbers };
}
taken s (Err e) = quiet s (refused e)

-- ALL

-- the whole effect of a call, on these parts, with these buffers, where this is held
abbrev pub step : Parts → Room → State → Call → Step
step parts room s (create m) = settled s (create_step parts room s m)
step parts room s list = settled s (list_step room s)
step parts room s data_list = settled s (data_list_step room s)
step parts room s (show h) = settled s (show_step room s h)
step parts room s (replace h m) = settled s (amend_step Replace parts room s h m)
step parts room s (patch h m) = settled s (amend_step Patch parts room s h m)
step parts room s (delete_topic h) = settled s (delete_topic_step parts room s h)
step parts room s (publish h f p) = settled s (publish_step parts room s h f p)
step parts room s (read h) = settled s (read_step room s h)
step parts room s (subscribe h x) = settled s (subscribe_step parts room s h x)
step parts room s (unsubscribe h x) = settled s (unsubscribe_step room s h x)
step parts room s (delete_data h) = settled s (delete_data_step parts room s h)
step parts room s (expire ms) = settled s (expire_step parts room s ms)
step parts room s take = taken s (take_answer s.waiting room.bytes)
