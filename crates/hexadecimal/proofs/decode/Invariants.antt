use Rattle.std.proofs.Common.{◌<◌, IfSome, vec_items}
use Rattle.hexadecimal.proofs.Texts.{Goes}
use Rattle.hexadecimal.proofs.decode.Given as goal

abbrev pub invariant-loop-c : goal.invariant-loop-c
invariant-loop-c l = Goes l.text (vec_items l.bytes) l.high l.c-index × IfSome l.high (λ h. h < 16)
