-- The law that every history keeps, for every topic ever created and for all subscribers, seen or not.
use Rattle.std.specs.Prelude.{◌≡◌, ℕ, ◌+◌, ◌≤◌, Bool, true, false, cond, not, ◌&&◌, ◌||◌, List, [], ◌∷◌, ◌++◌, length, Some, None, Option, ◌==◌}
use Rattle.protocol.specs.Codes.{class_of, detail_of}
use Rattle.protocol.specs.declared.code.Code.TheVariants.{Content}
use Rattle.protocol.specs.declared.refusal.Refusal.{Refusal}
use Rattle.clients.specs.Subs.{Sub}
use Rattle.maps.specs.Maps.{one_if}
use Rattle.outbox.specs.Notes.{Note}
use Rattle.readings.specs.Readings.{Reading}
use Rattle.subscribers.specs.Standing.{Standing, Once, same_pair, same_sub, stands, subs_at}
use Rattle.model.specs.Calls.{read}
use Rattle.model.specs.Deeds.{Deed, Said, came, deed, handed, other, published, removed, went}
use Rattle.model.specs.History.{Event, Leads, Reaches}
use Rattle.model.specs.Outcomes.{Outcome, refused, replied}
use Rattle.model.specs.State.{State}

-- MESSAGES

-- the message has this response code, class and detail
abbrev pub has_code : Note → ℕ → ℕ → Bool
has_code n class detail = class_of n.content.code == class && detail_of n.content.code == detail

-- the message is for this subscriber, from this topic
abbrev pub for_from : Note → Sub → ℕ → Bool
for_from n x t = same_sub n.to x && n.content.handle.0 == t

-- the readings for x from t among messages, in order: number, format and payload of those with code 2.05
abbrev pub readings : List Note → Sub → ℕ → List Reading
readings [] x t = []
readings (n ∷ ns) x t =
    cond (for_from n x t && has_code n 2 5)
    (record { format = n.content.format; number = n.content.number.0; payload = n.payload } ∷ readings ns x t)
    (readings ns x t)

-- how many final messages, with code 4.04, there are from t among messages
abbrev pub final_messages : List Note → ℕ → ℕ
final_messages [] t = 0
final_messages (n ∷ ns) t = one_if (n.content.handle.0 == t && has_code n 4 4) + final_messages ns t

-- one of the messages is the final one of this pair
abbrev pub has_final : List Note → Standing → Bool
has_final [] x = false
has_final (n ∷ ns) x = (for_from n x.sub x.handle && has_code n 4 4) || has_final ns x

-- EVENTS

-- the event subscribes the pair
abbrev pub begins : Deed → Standing → Bool
begins (came y) x = same_pair y x
begins (went y) x = false
begins (published h r) x = false
begins (removed h) x = false
begins (handed n) x = false
begins other x = false

-- the event is the pair's own unsubscribing
abbrev pub leaves : Deed → Standing → Bool
leaves (went y) x = same_pair y x
leaves (came y) x = false
leaves (published h r) x = false
leaves (removed h) x = false
leaves (handed n) x = false
leaves other x = false

-- the event is an accepted publish to t
abbrev pub publishes : Deed → ℕ → Bool
publishes (published h r) t = h == t
publishes (removed h) t = false
publishes (came x) t = false
publishes (went x) t = false
publishes (handed n) t = false
publishes other t = false

-- the latest publish to t that nothing has removed since, once this is done
abbrev pub latest_after : Deed → ℕ → Option Said → Option Said
latest_after (published h r) t before = cond (h == t) (Some r) before
latest_after (removed h) t before = cond (h == t) None before
latest_after (came x) t before = before
latest_after (went x) t before = before
latest_after (handed n) t before = before
latest_after other t before = before

-- the message that the event handed over
abbrev pub handed_over : Deed → List Note
handed_over (handed n) = n ∷ []
handed_over (published h r) = []
handed_over (removed h) = []
handed_over (came x) = []
handed_over (went x) = []
handed_over other = []

-- what the event means
abbrev pub of_deed : Event → Deed
of_deed e = deed e.call e.outcome

-- HISTORIES, the newest event first

-- the pair is subscribed: from a subscribe that told so, until it unsubscribes or its final message is posted
abbrev pub subscribed : List Event → Standing → Bool
subscribed [] x = false
subscribed (e ∷ h) x =
    (subscribed h x || begins (of_deed e) x) && not (leaves (of_deed e) x || has_final e.posted x)

-- 1 for one who came to t and was not subscribed
abbrev pub new_one : List Event → Deed → ℕ → ℕ
new_one h (came x) t = one_if (x.handle == t && not (subscribed h x))
new_one h (went x) t = 0
new_one h (published u r) t = 0
new_one h (removed u) t = 0
new_one h (handed n) t = 0
new_one h other t = 0

-- 1 for one who went from t and was subscribed
abbrev pub lost_one : List Event → Deed → ℕ → ℕ
lost_one h (went x) t = one_if (x.handle == t && subscribed h x)
lost_one h (came x) t = 0
lost_one h (published u r) t = 0
lost_one h (removed u) t = 0
lost_one h (handed n) t = 0
lost_one h other t = 0

-- how many subscriptions to t have begun
abbrev pub begun : List Event → ℕ → ℕ
begun [] t = 0
begun (e ∷ h) t = begun h t + new_one h (of_deed e) t

-- how many subscriptions to t their clients have ended
abbrev pub ended : List Event → ℕ → ℕ
ended [] t = 0
ended (e ∷ h) t = ended h t + lost_one h (of_deed e) t

-- the latest accepted publish to t, if nothing has removed it since
abbrev pub latest : List Event → ℕ → Option Said
latest [] t = None
latest (e ∷ h) t = latest_after (of_deed e) t (latest h t)

-- the messages that takes gave, the oldest first
abbrev pub taken : List Event → List Note
taken [] = []
taken (e ∷ h) = taken h ++ handed_over (of_deed e)

-- each accepted publish to t found both subscribed or neither, directly before it
abbrev pub Together : List Event → ℕ → Sub → Sub → Type 0
Together [] t x y = Unit {0}
Together (e ∷ h) t x y =
    (publishes (of_deed e) t ≡ true → subscribed h (record { handle = t; sub = x }) ≡ subscribed h (record { handle = t; sub = y }))
    × Together h t x y

-- THE LAW

-- all messages: those that takes gave, and then those that wait
abbrev pub messages : List Event → State → List Note
messages h s = taken h ++ s.waiting

-- the deliveries of x from t
abbrev pub deliveries : List Event → State → ℕ → Sub → List Reading
deliveries h s t x = readings (messages h s) x t

-- a read's outcome where this is the latest publish: its payload and format with 2.05, or a refusal where there is none
abbrev pub Shows : Option Said → Outcome → Type 0
Shows (Some r) o =
    o ≡ replied (record { code = Content; handle = None; observe = None; format = Some r.format; payload = r.payload })
Shows None o = (r : Refusal) × (o ≡ refused r)

pub record Law (h : List Event) (s : State) : Type 0 where
  -- Equal deliveries: two subscribers have the same from a topic exactly when each accepted publish to it found both or neither
  pub together_equal : (t : ℕ) (x y : Sub) → Together h t x y → deliveries h s t x ≡ deliveries h s t y
  pub equal_together : (t : ℕ) (x y : Sub) → deliveries h s t x ≡ deliveries h s t y → Together h t x y
  -- The latest reading: a read made next, with buffers that are not too small, shows the latest publish that nothing removed since,
  -- and is refused exactly when there is none
  pub latest_shown : (t : ℕ) (e : Event) (s' : State) → e.call ≡ read t → 640 ≤ e.room.bytes → 100 ≤ e.room.work → Leads s e s' → Shows (latest h t) e.outcome
  -- Every subscription ends once: begun are those that stand, those that their clients ended, and those with a final message
  pub ends_once : (t : ℕ) → begun h t ≡ length (subs_at t s.standing) + ended h t + final_messages (messages h s) t
  -- and the subscriber list holds exactly the pairs of the subscribed, each once
  pub listed : (x : Standing) → stands s.standing x ≡ subscribed h x
  pub once : Once s.standing

-- a call with this event keeps the law: whatever history led to the state before, with this event it leads to the state after
pub record Keeps (h : List Event) (e : Event) (s' : State) : Type 0 where
  pub reaches : Reaches (e ∷ h) s'
  pub law : Law (e ∷ h) s'

abbrev pub Continues : State → Event → State → Type 0
Continues s e s' = (h : List Event) → Reaches h s → Keeps h e s'

-- every history keeps the law
abbrev pub EveryHistory : Type 0
EveryHistory = (h : List Event) (s : State) → Reaches h s → Law h s
