-- What a table store means.
use Rattle.std.specs.Prelude.{ℕ, List}
use Rattle.store.specs.Held.{Entry}
use Rattle.table_store.specs.declared.table.TableStore.{TableStore}
use Rattle.table_store.specs.Places.{map_of}

-- the map that the table holds
abbrev pub table_held : TableStore → List Entry
table_held s = map_of s.places

-- how many keys the table can hold
abbrev pub table_capacity : ℕ
table_capacity = 64
