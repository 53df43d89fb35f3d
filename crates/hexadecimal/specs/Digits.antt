-- Hexadecimal text: what it writes, and how bytes are written.
use Rattle.std.specs.Prelude.{ℕ, ◌+◌, ◌-◌, ◌*◌, ◌/◌, ◌%◌, cond, ◌&&◌, List, [], ◌∷◌, Some, None, Option, ◌==◌, nat_le}
use Rattle.std.specs.Option.{option_map}
use Rattle.protocol.specs.Addresses.{hex_digit}

-- the value of a digit, in either case
abbrev pub digit_value : ℕ → Option ℕ
digit_value c =
    cond (nat_le 48 c && nat_le c 57) (Some (c - 48))
    (cond (nat_le 65 c && nat_le c 70) (Some (c - 65 + 10))
    (cond (nat_le 97 c && nat_le c 102) (Some (c - 97 + 10)) None))

-- what comes of a value, if there is one
abbrev pub if_some : {X Y : Type 0} → Option X → (X → Option Y) → Option Y
if_some None f = None
if_some (Some x) f = f x

-- the bytes that text writes from here on: between bytes, where spaces may stand, or behind the first digit of a byte
abbrev pub decoded_from : Option ℕ → List ℕ → Option (List ℕ)
decoded_from None [] = Some []
decoded_from (Some h) [] = None
decoded_from None (c ∷ cs) = cond (c == 32) (decoded_from None cs) (if_some (digit_value c) (λ d. decoded_from (Some d) cs))
decoded_from (Some h) (c ∷ cs) = if_some (digit_value c) (λ d. option_map (λ bs. (h * 16 + d) ∷ bs) (decoded_from None cs))

-- the bytes that text writes, if it is hexadecimal
abbrev pub decoded : List ℕ → Option (List ℕ)
decoded cs = decoded_from None cs

-- two lowercase digits for each byte
abbrev pub hex_text : List ℕ → List ℕ
hex_text [] = []
hex_text (b ∷ bs) = hex_digit (b / 16) ∷ hex_digit (b % 16) ∷ hex_text bs
