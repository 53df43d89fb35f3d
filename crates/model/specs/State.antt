-- What the broker and its parts hold between two calls.
use Rattle.std.specs.Prelude.{ℕ, Bool, List, [], Option}
use Rattle.clients.specs.Subs.{Sub}
use Rattle.outbox.specs.Notes.{Note}
use Rattle.store.specs.Held.{Entry}
use Rattle.subscribers.specs.Standing.{Standing}

-- the store's map, who stands subscribed, the messages that wait, the last handle given and the last publication number given
pub record State : Type 0 where
  pub held : List Entry
  pub standing : List Standing
  pub waiting : List Note
  pub handles : ℕ
  pub numbers : ℕ

-- a broker of which nothing was asked yet, with empty parts
abbrev pub untouched : State
untouched = record { held = []; standing = []; waiting = []; handles = 0; numbers = 0 }

-- in what parts may differ that hold the same: how many keys the store can hold, how many pairs the subscriber list can
-- hold, which batches fit the outbox, and whom the eviction policy chooses
pub record Parts : Type 0 where
  pub capacity : ℕ
  pub places : ℕ
  pub fits : ℕ → ℕ → Bool
  pub choice : List Sub → Option ℕ

-- the buffers that a call is lent: bytes for its answer (or for the payload that is taken), and places for subscribers
pub record Room : Type 0 where
  pub bytes : ℕ
  pub work : ℕ
