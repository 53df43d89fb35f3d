-- Why a shared outbox is an outbox: with nothing waiting a content place is free, and there is an entry for each of a hundred messages.
use Rattle.std.specs.Prelude.{◌≡◌, ℕ, zero, suc, ◌+◌, ◌≤◌, true, ◌&&◌, List, [], map, length, nat_le}
use Rattle.std.proofs.Common.{sym, refl, ap, ◌∙◌, arith}
use Rattle.std.proofs.lemmas.Bool.{and_from, le-leb}
use Rattle.std.proofs.lemmas.List.{length-map, nil_from_length}
use Rattle.outbox.specs.Laws.{sound_by}
use Rattle.outbox.specs.Notes.{Sound, proper_batch}
use Rattle.outbox.specs.Rings.{Queue}
use Rattle.shared_outbox.specs.declared.entry.Entry.{Entry}
use Rattle.shared_outbox.specs.Entries.{note_at, some_free}
use Rattle.shared_outbox.specs.Places.{Body}

-- where no entries wait, any place is free
none_waits : (C : Type 0) (k : ℕ) → 1 ≤ k → some_free {C = C} k [] ≡ true
none_waits C zero some = absurd (omega arith)
none_waits C (suc k) some = refl

pub room-sound : {C : Type 0} (id : C → List ℕ) (bs : List Body) (q : Queue (Entry C)) (k : ℕ) → 1 ≤ k → 100 ≤ q.capacity
    → Sound (map (note_at id bs) q.items) (λ n l. proper_batch n l && (nat_le (length q.items + n) q.capacity && some_free k q.items))
room-sound {C} id bs q k some roomy = sound_by _ _ (λ e n few.
    let none : length q.items ≡ 0 = sym (length-map q.items (note_at id bs)) ∙ ap length e in
    let free = ap (some_free k) (nil_from_length q.items none) ∙ none_waits C k some in
    and_from (nat_le (length q.items + n) q.capacity) (some_free k q.items) (le-leb (length q.items + n) q.capacity (omega arith)) free)
