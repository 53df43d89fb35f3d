-- What a slot outbox holds, and what fits.
use Rattle.std.specs.Prelude.{ℕ, ◌+◌, Bool, ◌&&◌, List, map, length, nat_le}
use Rattle.outbox.specs.Notes.{Note, proper_batch}
use Rattle.slot_outbox.specs.declared.slot.Slot.{Slot}
use Rattle.slot_outbox.specs.declared.slots.Slots.{Slots}
use Rattle.slot_outbox.specs.Slots.{note_in}

module _ {C : Type 0} where
  -- the slots in use, the oldest message first
  abbrev pub held : Slots C → List (Slot C)
  held q = q.ring.items

  -- how many slots there are
  abbrev pub capacity_of : Slots C → ℕ
  capacity_of q = q.ring.capacity

  -- the messages that wait
  abbrev pub waiting_in : (C → List ℕ) → Slots C → List Note
  waiting_in id q = map (note_in id) (held q)

  -- a batch of a proper size fits exactly if there is a slot for each of its messages beside those that wait
  abbrev pub room_in : Slots C → ℕ → ℕ → Bool
  room_in q n l = proper_batch n l && nat_le (length (held q) + n) (capacity_of q)
