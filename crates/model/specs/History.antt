-- Histories: calls with what came of them, each made on what the ones before left, refused ones included.
use Rattle.std.specs.Prelude.{◌≡◌, List, [], ◌∷◌}
use Rattle.outbox.specs.Notes.{Note}
use Rattle.store.specs.Held.{Sound}
use Rattle.model.specs.Calls.{Call, Typed}
use Rattle.model.specs.Outcomes.{Outcome}
use Rattle.model.specs.State.{State, Parts, Room, untouched}
use Rattle.model.specs.Steps.{step}

-- one call of a history: what was asked, with which buffers, what came of it, and which messages it posted
pub record Event : Type 0 where
  pub call : Call
  pub room : Room
  pub outcome : Outcome
  pub posted : List Note

-- the event takes the broker from one state to another, over some parts whose store is sound
pub record Leads (s : State) (e : Event) (s' : State) : Type 0 where
  pub parts : Parts
  pub sound : Sound s.held
  pub typed : Typed e.call
  pub does : record { outcome = e.outcome; posted = e.posted; next = s' } ≡ step parts e.room s e.call

-- the history, its newest event first, leads from a broker of which nothing was asked yet to this state
abbrev pub Reaches : List Event → State → Type 0
Reaches [] s = s ≡ untouched
Reaches (e ∷ h) s' = (s : State) × (Reaches h s × Leads s e s')
