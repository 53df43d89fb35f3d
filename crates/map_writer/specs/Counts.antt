-- Bytes that are counted, and the laws of counting.
use Rattle.std.specs.Prelude.{◌≡◌, ℕ, ◌+◌, ◌-◌, ◌^◌, min, ◌<◌, List, length}
use Rattle.std.proofs.Common.{arith, length-append}
use Rattle.map_writer.specs.declared.count.Counter.{Counter}
use Rattle.map_writer.specs.Sinks.{SinkLaws}

-- a count goes on with any bytes
abbrev pub CanCount : Counter → List ℕ → Type 0
CanCount c bytes = c.len < 2 ^ 128

-- these bytes were counted, up to the largest number of 128 bits
abbrev pub Counted : Counter → List ℕ → Counter → Type 0
Counted c bytes d = d.len ≡ min (c.len + length bytes) (2 ^ 128 - 1)

-- bytes are counted part by part as in one
both_counted : (k m n : ℕ) → min (min (k + m) (2 ^ 128 - 1) + n) (2 ^ 128 - 1) ≡ min (k + (m + n)) (2 ^ 128 - 1)
both_counted k m n = omega arith

pub counter_laws : SinkLaws CanCount Counted
counter_laws = record {
  nothing = λ c h. omega arith;
  front = λ c xs ys h. h;
  behind = λ c d xs ys h p. omega arith;
  both = λ c d e xs ys h p q. omega (arith, length-append xs ys, both_counted c.len (length xs) (length ys));
}
