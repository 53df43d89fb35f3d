-- The fourteen calls, with what their callers bring: clients by their identities, maps, payloads and tokens by their bytes.
use Rattle.std.specs.Prelude.{ℕ, ◌<◌, List}
use Rattle.clients.specs.Subs.{Sub}

pub data Call : Type 0 where
  -- a new topic by a map
  create : List ℕ → Call
  -- the addresses of all topics, and of all topics' data
  list : Call
  data_list : Call
  -- a topic's properties: shown, replaced or patched by a map
  show : ℕ → Call
  replace : ℕ → List ℕ → Call
  patch : ℕ → List ℕ → Call
  delete_topic : ℕ → Call
  -- a reading for a topic: its content format and its payload
  publish : ℕ → ℕ → List ℕ → Call
  read : ℕ → Call
  -- a subscriber of a topic comes or goes
  subscribe : ℕ → Sub → Call
  unsubscribe : ℕ → Sub → Call
  delete_data : ℕ → Call
  -- the time in milliseconds since 1970
  expire : ℕ → Call
  -- the oldest message that waits
  take : Call

-- the content format has 16 bits
abbrev pub Typed : Call → Type 0
Typed (create m) = Unit {0}
Typed list = Unit {0}
Typed data_list = Unit {0}
Typed (show h) = Unit {0}
Typed (replace h m) = Unit {0}
Typed (patch h m) = Unit {0}
Typed (delete_topic h) = Unit {0}
Typed (publish h f p) = f < 65536
Typed (read h) = Unit {0}
Typed (subscribe h x) = Unit {0}
Typed (unsubscribe h x) = Unit {0}
Typed (delete_data h) = Unit {0}
Typed (expire ms) = Unit {0}
Typed take = Unit {0}
