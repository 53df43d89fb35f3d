-- What a log store means.
use Rattle.std.specs.Prelude.{ℕ, ◌/◌, List}
use Rattle.store.specs.Held.{Entry}
use Rattle.log_store.specs.declared.held.LogStore.{LogStore}
use Rattle.log_store.specs.Format.{entries}
use Rattle.log_store.specs.Logs.{meaning}
use Rattle.log_store.specs.Memories.{contents, size}

-- the map that the log means
abbrev pub log_held : LogStore → List Entry
log_held s = meaning (entries (contents s.memory))

-- how many keys the log can hold: as many as entries of the largest size fit the memory
abbrev pub log_capacity : LogStore → ℕ
log_capacity s = size s.memory / 583
