-- A log in the caller's memory: the front of the bytes.
use Rattle.std.specs.Prelude.{ℕ, ◌+◌, true, List, [], ◌∷◌, length, take, if◌then◌else◌, nat_le}
use Rattle.store.specs.Held.{Entry}
use Rattle.log_store.specs.declared.memory.Memory.{Memory}
use Rattle.log_store.specs.Format.{encoded, entries, entry_bytes}
use Rattle.log_store.specs.Logs.{meaning, sifted}

-- the log's bytes
abbrev pub contents : Memory → List ℕ
contents m = take m.used m.bytes.now

-- how many bytes the memory has
abbrev pub size : Memory → ℕ
size m = length m.bytes.now

-- the map that the log means
abbrev pub held : Memory → List Entry
held m = meaning (entries (contents m))

-- the entries after an entry is put: it is the newest, and only where it would not fit behind the others
-- are the dead entries and those of its key squeezed out first
abbrev pub with_entry : ℕ → List Entry → Entry → List Entry
with_entry room es e = e ∷ (if nat_le (length (encoded es) + length (entry_bytes e)) room then es else sifted e.key true [] es)
