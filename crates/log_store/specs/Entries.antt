-- The entries of a log as they are gone over, newest first.
use Rattle.std.specs.Prelude.{List}
use Rattle.store.specs.Held.{Entry as HeldEntry}
use Rattle.log_store.specs.declared.entries.Entry.{Entry}
use Rattle.log_store.specs.declared.entries.Entries.{Entries}
use Rattle.log_store.specs.Format.{entries}

-- an entry with the bytes of its value
abbrev pub entry_of : Entry → HeldEntry
entry_of e = record { key = e.key; value = e.value.now }

-- the entries that are still to come
abbrev pub to_come : Entries → List HeldEntry
to_come s = entries s.rest.now
