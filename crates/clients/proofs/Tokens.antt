-- Tokens as numbers: eight bytes with zeros behind the token's length.
use Rattle.std.proofs.Common.{◌≡◌, ℕ, ◌+◌, ◌-◌, ◌*◌, ◌%◌, ◌^◌, ◌<◌, ◌≤◌, List, ◌++◌, length, take, drop, replicate, sym, refl, ap, ◌∙◌, arith, length-append}
use native.Mathlib.Nat.{mul-mod_left}
use Rattle.std.proofs.lemmas.List.{take-append-drop, length-take-le, length-replicate, take_at, drop-replicate}
use Rattle.protocol.specs.Bytes.{be_bytes, be_number, AllBytes}
use Rattle.protocol.proofs.Bytes.{number_be, drop_be, zeros_be, number_append, number_zeros, be_of_number, all_append, all_zeros}

-- a token's length
pub length-token : (n bits : ℕ) → n ≤ 8 → length (take n (be_bytes 8 bits)) ≡ n
length-token n bits h = length-take-le n (be_bytes 8 bits) h

-- the eight bytes: the token's, and zeros
pub whole : (n bits : ℕ) → n ≤ 8 → bits % 256 ^ (8 - n) ≡ 0 → be_bytes 8 bits ≡ take n (be_bytes 8 bits) ++ replicate (8 - n) 0
whole n bits h z = sym (take-append-drop n (be_bytes 8 bits)) ∙ ap (λ l. take n (be_bytes 8 bits) ++ l) (drop_be n 8 bits ∙ zeros_be (8 - n) bits z)

-- equal bytes, equal numbers
pub same_bits : (n a b : ℕ) → n ≤ 8 → a < 256 ^ 8 → b < 256 ^ 8 → a % 256 ^ (8 - n) ≡ 0 → b % 256 ^ (8 - n) ≡ 0
    → take n (be_bytes 8 a) ≡ take n (be_bytes 8 b) → a ≡ b
same_bits n a b h fa fb za zb e =
    sym (number_be 8 a fa)
    ∙ ap be_number (whole n a h za ∙ ap (λ l. l ++ replicate (8 - n) 0) e ∙ sym (whole n b h zb))
    ∙ number_be 8 b fb

module _ (bs : List ℕ) (short : length bs ≤ 8) where
  -- bytes and zeros behind them are eight
  pub length_padded : length (bs ++ replicate (8 - length bs) 0) ≡ 8
  length_padded = length-append bs (replicate (8 - length bs) 0) ∙ omega (arith, length-replicate {A = ℕ} (8 - length bs) 0)

  -- their number has zeros behind
  pub padded_zeros : be_number (bs ++ replicate (8 - length bs) 0) % 256 ^ (8 - length bs) ≡ 0
  padded_zeros =
      let k = 8 - length bs in
      ap (λ x. x % 256 ^ k) (number_append bs (replicate k 0)
      ∙ ap (λ x. be_number bs * 256 ^ x + be_number (replicate k 0)) (length-replicate {A = ℕ} k 0)
      ∙ ap (λ x. be_number bs * 256 ^ k + x) (number_zeros k) ∙ omega arith)
      ∙ mul-mod_left (be_number bs) (256 ^ k)

  -- and gives the bytes again
  pub padded_token : AllBytes bs → take (length bs) (be_bytes 8 (be_number (bs ++ replicate (8 - length bs) 0))) ≡ bs
  padded_token a =
      let all = bs ++ replicate (8 - length bs) 0 in
      ap (λ x. take (length bs) (be_bytes x (be_number all))) (sym length_padded)
      ∙ ap (take (length bs)) (be_of_number all (all_append bs (replicate (8 - length bs) 0) a (all_zeros (8 - length bs))))
      ∙ take_at bs (replicate (8 - length bs) 0) (length bs) refl

-- bytes written over the front of eight zeros
pub over_zeros : (xs ys : List ℕ) (k : ℕ) → xs ≡ ys → k ≡ length ys → xs ++ drop k (replicate 8 0) ≡ ys ++ replicate (8 - length ys) 0
over_zeros xs ys k e l =
    ap (λ zs. zs ++ drop k (replicate 8 0)) e ∙ ap (λ zs. ys ++ zs) (drop-replicate {X = ℕ} k 8 0 ∙ ap (λ j. replicate (8 - j) 0) l)
