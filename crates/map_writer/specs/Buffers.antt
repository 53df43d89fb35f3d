-- Bytes that are written into a buffer.
use Rattle.std.specs.Prelude.{ℕ, ◌+◌, if◌then◌else◌, List, ◌++◌, length, take, drop, Some, None, Option, nat_le}
use Rattle.protocol.specs.Buffers.{laid}

-- a buffer with bytes written over it from a place on, and the rest of it as it was
abbrev pub overlaid : List ℕ → ℕ → List ℕ → List ℕ
overlaid buffer at bytes = take at buffer ++ (bytes ++ drop (at + length bytes) buffer)

-- the length of bytes that fit a buffer; none of bytes that do not
abbrev pub len_if_fits : List ℕ → List ℕ → Option ℕ
len_if_fits bytes buffer = if nat_le (length bytes) (length buffer) then Some (length bytes) else None

-- a buffer with bytes at its front and the rest of it as it was, where they fit, and as it was where they do not
abbrev pub placed_if_fits : List ℕ → List ℕ → List ℕ
placed_if_fits bytes buffer = if nat_le (length bytes) (length buffer) then laid bytes buffer else buffer
