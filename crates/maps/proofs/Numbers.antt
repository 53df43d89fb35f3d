-- A number read byte by byte, most significant byte first.
use Rattle.std.proofs.Common.{◌≡◌, ℕ, ◌+◌, ◌*◌, ◌%◌, ◌^◌, ◌<◌, ◌≤◌, List, [], ◌∷◌, length, bit_or, mod-eq_of_lt, ap, ◌∙◌, add-one, add-mul, mul_assoc, arith}
use native.Mathlib.Nat.{pow-succ', pow-le-pow_right}
use Rattle.std.specs.List.{fold}
use Rattle.std.proofs.lemmas.Nat.{or_shifted}
use Rattle.protocol.specs.Bytes.{AllBytes, be_number}

-- a number, and a byte behind it
abbrev pub shifted : ℕ → ℕ → ℕ
shifted n b = bit_or (n * 256 % 2 ^ 64) b

-- nothing is shifted out below eight bytes
shifted_is : (n b k : ℕ) → n < 256 ^ k → k < 8 → b < 256 → shifted n b ≡ n * 256 + b
shifted_is n b k h l byte =
    let m : 256 ^ k ≤ 256 ^ 7 = pow-le-pow_right {n = 256} (omega arith) {i = k} {j = 7} (omega arith) in
    let e : n * 256 % 2 ^ 64 ≡ n * 256 = mod-eq_of_lt (omega arith) in
    ap (λ j. bit_or j b) e ∙ or_shifted n 8 b byte

-- one byte more keeps below the next power
below_more : (n k b : ℕ) → n < 256 ^ k → b < 256 → n * 256 + b < 256 ^ (k + 1)
below_more n k b h l = omega (arith, ap (λ j. 256 ^ j) (add-one k), pow-succ' 256 k)

-- bytes behind a number
pub number_from : (n k : ℕ) (bs : List ℕ) → AllBytes bs → n < 256 ^ k → k + length bs ≤ 8 → fold shifted n bs ≡ n * 256 ^ length bs + be_number bs
number_from n k [] a h l = omega arith
number_from n k (b ∷ bs) a h l =
    let x = 256 ^ length bs in
    ap (λ m. fold shifted m bs) (shifted_is n b k h (omega arith) a.0)
    ∙ number_from (n * 256 + b) (k + 1) bs a.1 (below_more n k b h a.0) (omega arith)
    ∙ omega (arith, add-mul (n * 256) b x, ap (λ m. n * m) (pow-succ' 256 (length bs)), mul_assoc n 256 x)
