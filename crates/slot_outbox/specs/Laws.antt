-- Why a slot outbox is an outbox: with nothing waiting there is a slot for each of a hundred messages.
use Rattle.std.specs.Prelude.{◌≡◌, ℕ, ◌+◌, ◌≤◌, ◌&&◌, List, map, length, nat_le}
use Rattle.std.proofs.Common.{sym, ap, ◌∙◌, arith}
use Rattle.std.proofs.lemmas.Bool.{le-leb}
use Rattle.std.proofs.lemmas.List.{length-map}
use Rattle.outbox.specs.Laws.{sound_by}
use Rattle.outbox.specs.Notes.{Sound, proper_batch}
use Rattle.outbox.specs.Rings.{Queue}
use Rattle.slot_outbox.specs.declared.slot.Slot.{Slot}
use Rattle.slot_outbox.specs.Slots.{note_in}

pub room-sound : {C : Type 0} (id : C → List ℕ) (q : Queue (Slot C)) → 100 ≤ q.capacity
    → Sound (map (note_in id) q.items) (λ n l. proper_batch n l && nat_le (length q.items + n) q.capacity)
room-sound id q roomy = sound_by _ _ (λ e n few.
    let none : length q.items ≡ 0 = sym (length-map q.items (note_in id)) ∙ ap length e in
    le-leb (length q.items + n) q.capacity (omega arith))
