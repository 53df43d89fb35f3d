-- What a shared outbox holds, and what fits.
use Rattle.std.specs.Prelude.{ℕ, ◌+◌, Bool, ◌&&◌, List, map, length, nat_le}
use Rattle.outbox.specs.Notes.{Note, proper_batch}
use Rattle.shared_outbox.specs.declared.entry.Entry.{Entry}
use Rattle.shared_outbox.specs.declared.shared.Shared.{Shared}
use Rattle.shared_outbox.specs.Entries.{note_at, some_free}
use Rattle.shared_outbox.specs.Places.{Body, bodies}

module _ {C : Type 0} where
  -- the entries that wait, the oldest first
  abbrev pub held : Shared C → List (Entry C)
  held q = q.entries.items

  -- what the content places hold
  abbrev pub bodies_in : Shared C → List Body
  bodies_in q = bodies q.places

  -- how many entries there are
  abbrev pub capacity_of : Shared C → ℕ
  capacity_of q = q.entries.capacity

  -- how many content places there are
  abbrev pub places_of : Shared C → ℕ
  places_of q = length q.places

  -- the messages that wait
  abbrev pub waiting_in : (C → List ℕ) → Shared C → List Note
  waiting_in id q = map (note_at id (bodies_in q)) (held q)

  -- a batch of a proper size fits exactly if a content place is free and there is an entry for each of its messages beside those that wait
  abbrev pub room_in : Shared C → ℕ → ℕ → Bool
  room_in q n l = proper_batch n l && (nat_le (length (held q) + n) (capacity_of q) && some_free (places_of q) (held q))
