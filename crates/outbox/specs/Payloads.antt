-- What a payload's place holds.
use Rattle.std.specs.Prelude.{ℕ, List, take}
use Rattle.outbox.specs.declared.payload.Payload.{Payload}

-- the bytes of a payload
abbrev pub bytes_of : Payload → List ℕ
bytes_of p = take p.len p.bytes
