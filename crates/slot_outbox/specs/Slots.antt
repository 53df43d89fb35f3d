-- What a slot holds.
use Rattle.std.specs.Prelude.{ℕ, List}
use Rattle.clients.specs.Subs.{sub_of}
use Rattle.outbox.specs.Notes.{Note}
use Rattle.outbox.specs.Payloads.{bytes_of}
use Rattle.slot_outbox.specs.declared.slot.Slot.{Slot}

-- the message in a slot
abbrev pub note_in : {C : Type 0} → (C → List ℕ) → Slot C → Note
note_in id s = record { to = sub_of id s.subscriber; content = s.content; payload = bytes_of s.payload }
