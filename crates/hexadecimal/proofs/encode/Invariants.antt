use Rattle.std.proofs.Common.{◌≡◌, ◌++◌, drop, string_bytes}
use Rattle.hexadecimal.specs.Digits.{hex_text}
use Rattle.hexadecimal.proofs.encode.Given as goal

abbrev pub invariant-loop-b : goal.invariant-loop-b
invariant-loop-b l = string_bytes l.text ++ hex_text (drop l.b-index l.bytes) ≡ hex_text l.bytes
