-- Addresses of topics: a fixed path and the handle as eight lowercase hexadecimal digits.
use Rattle.std.specs.Prelude.{ℕ, zero, suc, ◌+◌, ◌/◌, ◌%◌, ◌^◌, cond, List, [], ◌∷◌, ◌++◌, codes, nat_lt}

-- the character of a digit below 16
abbrev pub hex_digit : ℕ → ℕ
hex_digit n = cond (nat_lt n 10) (48 + n) (87 + n)

-- a number in a given count of hexadecimal digits
abbrev pub hex_digits : ℕ → ℕ → List ℕ
hex_digits zero n = []
hex_digits (suc w) n = hex_digit (n / 16 ^ w % 16) ∷ hex_digits w n

-- where the data of the topic is found
abbrev pub data_address : ℕ → List ℕ
data_address h = codes "/ps/data/" ++ hex_digits 8 h
