-- Laws of heads: a written head is read as itself, whatever stands behind it.
use Rattle.std.proofs.Common.{◌≡◌, ℕ, ◌+◌, ◌-◌, ◌*◌, ◌/◌, ◌%◌, ◌^◌, ◌<◌, ◌≤◌, ltb, leb, List, ◌∷◌, ◌++◌, length, drop, Ok, Result, ap, ◌∙◌, arith, length-append}
use Rattle.std.proofs.lemmas.List.{take_at, drop_at}
use Rattle.std.proofs.lemmas.Bool.{cond-true, cond-false, cond_both, lt-ltb, le-ltb, le-leb, ltb-true}
use Rattle.protocol.specs.Bytes.{be_bytes, be_number}
use Rattle.protocol.proofs.Bytes.{length_be, number_be}
use Rattle.protocol.specs.declared.fault.Fault.{Fault}
use Rattle.maps.specs.Heads.{Head, Got, long_head, head_of, head_bytes}

-- a head that was read, and what stands behind it
abbrev pub got_head : ℕ → ℕ → List ℕ → Result (Got Head) Fault
got_head m n rest = Ok (record { item = record { major = m; argument = n }; rest = rest })

quotient : (m i : ℕ) → i < 32 → (m * 32 + i) / 32 ≡ m
quotient m i h = omega arith

remainder : (m i : ℕ) → i < 32 → (m * 32 + i) % 32 ≡ i
remainder m i h = omega arith

short : (m n : ℕ) (rest : List ℕ) → n < 24 → head_of ((m * 32 + n) ∷ rest) ≡ got_head m n rest
short m n rest h =
    let r = remainder m n (omega arith) in
    cond-true (ltb ((m * 32 + n) % 32) 24) _ _ (lt-ltb ((m * 32 + n) % 32) 24 (omega arith))
    ∙ ap (λ q. got_head q ((m * 32 + n) % 32) rest) (quotient m n (omega arith))
    ∙ ap (λ q. got_head m q rest) r

long : (m i : ℕ) (bs : List ℕ) → 24 ≤ i → i < 28 → head_of ((m * 32 + i) ∷ bs) ≡ long_head m (2 ^ (i - 24)) bs
long m i bs low high =
    let r = remainder m i (omega arith) in
    cond-false (ltb ((m * 32 + i) % 32) 24) _ _ (le-ltb ((m * 32 + i) % 32) 24 (omega arith))
    ∙ cond-true (ltb ((m * 32 + i) % 32) 28) _ _ (lt-ltb ((m * 32 + i) % 32) 28 (omega arith))
    ∙ ap (λ q. long_head q (2 ^ ((m * 32 + i) % 32 - 24)) bs) (quotient m i (omega arith))
    ∙ ap (λ q. long_head m (2 ^ (q - 24)) bs) r

argument : (m w n : ℕ) (rest : List ℕ) → n < 256 ^ w → long_head m w (be_bytes w n ++ rest) ≡ got_head m n rest
argument m w n rest h =
    let l = length_be w n in
    cond-true (leb w (length (be_bytes w n ++ rest))) _ _ (le-leb w (length (be_bytes w n ++ rest)) (omega (arith, length-append (be_bytes w n) rest)))
    ∙ ap (λ t. got_head m (be_number t) (drop w (be_bytes w n ++ rest))) (take_at (be_bytes w n) rest w l)
    ∙ ap (λ k. got_head m k (drop w (be_bytes w n ++ rest))) (number_be w n h)
    ∙ ap (λ t. got_head m n t) (drop_at (be_bytes w n) rest w l)

-- whatever its major type, for every argument of 64 bits
pub head_read : (m n : ℕ) (rest : List ℕ) → n < 2 ^ 64 → head_of (head_bytes m n ++ rest) ≡ got_head m n rest
head_read m n rest h =
    let P : List ℕ → Type 0 = λ bs. head_of (bs ++ rest) ≡ got_head m n rest in
    cond_both (ltb n 24) _ _ P (λ e. short m n rest (ltb-true n 24 e))
    (λ _. cond_both (ltb n (256 ^ 1)) _ _ P (λ e. long m 24 (be_bytes 1 n ++ rest) (omega arith) (omega arith) ∙ argument m 1 n rest (ltb-true n (256 ^ 1) e))
    (λ _. cond_both (ltb n (256 ^ 2)) _ _ P (λ e. long m 25 (be_bytes 2 n ++ rest) (omega arith) (omega arith) ∙ argument m 2 n rest (ltb-true n (256 ^ 2) e))
    (λ _. cond_both (ltb n (256 ^ 4)) _ _ P (λ e. long m 26 (be_bytes 4 n ++ rest) (omega arith) (omega arith) ∙ argument m 4 n rest (ltb-true n (256 ^ 4) e))
    (λ _. long m 27 (be_bytes 8 n ++ rest) (omega arith) (omega arith) ∙ argument m 8 n rest h))))
