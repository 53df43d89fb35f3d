-- A scan over keys for the next topic: which keys count, and which of two handles is kept.
use Rattle.std.specs.Prelude.{ℕ, Bool, ◌&&◌, Some, None, Option, ◌==◌, nat_lt, if◌then◌else◌}
use Rattle.protocol.specs.declared.names.Handle.{Handle}
use Rattle.store.specs.declared.key.Key.{Key}

-- the lower of two handles, where there are any
abbrev pub lower : Option ℕ → Option ℕ → Option ℕ
lower None b = b
lower (Some a) None = Some a
lower (Some a) (Some b) = Some (if nat_lt b a then b else a)

-- the key is of properties, and of a topic above the handle
abbrev pub counts : Key → ℕ → Bool
counts k after = k.part == 0 && nat_lt after k.handle.0

-- the handle of a key of properties above a handle
abbrev pub candidate : Key → ℕ → Option ℕ
candidate k after = if counts k after then Some k.handle.0 else None

-- the same, as a handle
abbrev pub topic_above : Key → Handle → Option Handle
topic_above k after = if counts k after.0 then Some k.handle else None
