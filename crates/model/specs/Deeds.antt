-- What a call and its outcome mean for topics and subscribers: the words in which the law is told.
use Rattle.std.specs.Prelude.{ℕ, Bool, true, false, cond, ◌||◌, List, Some, None, Option}
use Rattle.outbox.specs.Notes.{Note}
use Rattle.subscribers.specs.Standing.{Standing}
use Rattle.model.specs.Calls.{Call, create, list, data_list, show, replace, patch, delete_topic, publish, read, subscribe, unsubscribe, delete_data, expire, take}
use Rattle.model.specs.Outcomes.{Outcome, answered, expired, refused, replied, took}

-- what a publish says: its content format and its payload
pub record Said : Type 0 where
  pub format : ℕ
  pub payload : List ℕ

pub data Deed : Type 0 where
  -- a publish to this topic was accepted
  published : ℕ → Said → Deed
  -- what was published to this topic was removed
  removed : ℕ → Deed
  -- a subscriber of a topic came, and was told that it is subscribed
  came : Standing → Deed
  -- a subscriber of a topic went
  went : Standing → Deed
  -- a message was taken from the outbox
  handed : Note → Deed
  -- none of these
  other : Deed

-- whether a response has an Observe number
abbrev pub has_number : Option ℕ → Bool
has_number None = false
has_number (Some n) = true

-- whether the outcome is a response with an Observe number
abbrev pub observes : Outcome → Bool
observes (replied r) = has_number r.observe
observes (expired h) = false
observes (took n) = false
observes (refused r) = false

-- an expire that told a topic removed what was published to it
abbrev pub expiry : Outcome → Deed
expiry (replied r) = other
expiry (expired None) = other
expiry (expired (Some h)) = removed h
expiry (took n) = other
expiry (refused r) = other

-- a take that gave a message handed it over
abbrev pub handing : Outcome → Deed
handing (replied r) = other
handing (expired h) = other
handing (took None) = other
handing (took (Some n)) = handed n
handing (refused r) = other

-- a publish is accepted with 2.01 or 2.04; a delete topic or delete data with 2.02 removes, and so does an expire that tells
-- the topic; one comes by a subscribe answered with an Observe number, and goes by an unsubscribe answered 2.05
abbrev pub deed : Call → Outcome → Deed
deed (publish h f p) o = cond (answered o 2 1 || answered o 2 4) (published h (record { format = f; payload = p })) other
deed (delete_topic h) o = cond (answered o 2 2) (removed h) other
deed (delete_data h) o = cond (answered o 2 2) (removed h) other
deed (expire ms) o = expiry o
deed (subscribe h x) o = cond (observes o) (came (record { handle = h; sub = x })) other
deed (unsubscribe h x) o = cond (answered o 2 5) (went (record { handle = h; sub = x })) other
deed take o = handing o
deed (create m) o = other
deed list o = other
deed data_list o = other
deed (show h) o = other
deed (replace h m) o = other
deed (patch h m) o = other
deed (read h) o = other
