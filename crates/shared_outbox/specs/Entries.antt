-- Entries that wait: which content places they name, and what they say.
use Rattle.std.specs.Prelude.{ℕ, zero, suc, Bool, false, ◌||◌, List, ◌==◌, count_by, slice_index_or}
use Rattle.clients.specs.Subs.{sub_of}
use Rattle.outbox.specs.Notes.{Note}
use Rattle.shared_outbox.specs.declared.entry.Entry.{Entry}
use Rattle.shared_outbox.specs.Places.{Body, blank}

module _ {C : Type 0} where
  -- how many of the entries name a place
  abbrev pub uses : ℕ → List (Entry C) → ℕ
  uses p = count_by (λ e. e.place == p)

  -- one of the first k places is free: none of the entries names it
  abbrev pub some_free : ℕ → List (Entry C) → Bool
  some_free zero es = false
  some_free (suc k) es = uses k es == 0 || some_free k es

  -- the message of an entry, whose content stands in the place that it names
  abbrev pub note_at : (C → List ℕ) → List Body → Entry C → Note
  note_at id bs e = record { to = sub_of id e.subscriber; content = (slice_index_or bs e.place blank).content; payload = (slice_index_or bs e.place blank).payload }
