-- Laws of strings of bytes and of numbers as bytes, most significant byte first.
use Rattle.std.proofs.Common.{◌≡◌, ℕ, zero, suc, ◌+◌, ◌-◌, ◌*◌, ◌/◌, ◌%◌, ◌^◌, ◌<◌, ◌≤◌, List, [], ◌∷◌, ◌++◌, length, get_or, drop, replicate, Decides, sym, refl, ap, ◌∙◌, mul-le-mul_right, mod-lt, mod-eq_of_lt, mul_assoc, add-mul, div-add-mod', div-one, arith, length-append, length-drop, pow-add}
use native.Mathlib.Nat.{pow-succ', mul-add-div_right, div-eq_of_lt, mod-one, zero-div}
use lib.Arith.{mod-mul}
use Rattle.std.proofs.lemmas.List.{at_drop_more, at_drop_all}
use Rattle.std.proofs.lemmas.Bool.Decides.{Decides-and, Decides-eqb, Decides-like}
use Rattle.protocol.specs.Bytes.{be_bytes, be_number, AllBytes, alike}

-- as many bytes as asked for
pub length_be : (w n : ℕ) → length (be_bytes w n) ≡ w
length_be zero n = refl
length_be (suc w) n = ap suc (length_be w n)

pos : (w : ℕ) → 0 < 256 ^ w
pos zero = omega arith
pos (suc w) = omega (arith, pow-succ' 256 w, pos w)

-- bytes of a number are bytes
pub all_be : (w n : ℕ) → AllBytes (be_bytes w n)
all_be zero n = tt
all_be (suc w) n = (mod-lt (n / 256 ^ w) (omega arith), all_be w n)

-- what the bytes stand for: the number, as far as they reach
pub be_mod : (w n : ℕ) → be_number (be_bytes w n) ≡ n % 256 ^ w
be_mod zero n = sym (mod-one n)
be_mod (suc w) n =
    ap (λ k. n / 256 ^ w % 256 * 256 ^ k + be_number (be_bytes w n)) (length_be w n)
    ∙ ap (λ k. n / 256 ^ w % 256 * 256 ^ w + k) (be_mod w n)
    ∙ sym (ap (λ k. n % k) (pow-succ' 256 w) ∙ mod-mul n {m = 256} {c = 256 ^ w} (omega arith) (pos w))

pub number_be : (w n : ℕ) → n < 256 ^ w → be_number (be_bytes w n) ≡ n
number_be w n h = be_mod w n ∙ mod-eq_of_lt h

-- bytes stand for a number that they can hold
pub number_lt : (bs : List ℕ) → AllBytes bs → be_number bs < 256 ^ length bs
number_lt [] a = omega arith
number_lt (b ∷ bs) a =
    let ih = number_lt bs a.1 in
    let e = pow-succ' 256 (length bs) in
    let m : (b + 1) * 256 ^ length bs ≤ 256 * 256 ^ length bs = mul-le-mul_right (256 ^ length bs) (omega arith) in
    omega (arith, add-mul b 1 (256 ^ length bs))

-- only the last bytes of a number matter to its last bytes
pub be_low : (w n m : ℕ) → be_bytes w (n * 256 ^ w + m) ≡ be_bytes w m
be_low zero n m = refl
be_low (suc w) n m =
    let e : n * 256 ^ suc w + m ≡ n * 256 * 256 ^ w + m = ap (λ k. n * k + m) (pow-succ' 256 w) ∙ ap (λ k. k + m) (sym (mul_assoc n 256 (256 ^ w))) in
    let d : (n * 256 * 256 ^ w + m) / 256 ^ w % 256 ≡ m / 256 ^ w % 256 = ap (λ k. k % 256) (mul-add-div_right (pos w) (n * 256) m) ∙ omega arith in
    ap (λ k. be_bytes (suc w) k) e ∙ ap (λ k. k ∷ be_bytes w (n * 256 * 256 ^ w + m)) d ∙ ap (λ k. (m / 256 ^ w % 256) ∷ k) (be_low w (n * 256) m)

-- the bytes of the number that bytes stand for are those bytes
pub be_of_number : (bs : List ℕ) → AllBytes bs → be_bytes (length bs) (be_number bs) ≡ bs
be_of_number [] a = refl
be_of_number (b ∷ bs) a =
    let x = 256 ^ length bs in
    let q : (b * x + be_number bs) / x % 256 ≡ b = ap (λ k. k % 256) (mul-add-div_right (pos (length bs)) b (be_number bs) ∙ ap (λ k. b + k) (div-eq_of_lt (number_lt bs a.1))) ∙ omega arith in
    ap (λ k. k ∷ be_bytes (length bs) (b * x + be_number bs)) q ∙ ap (λ k. b ∷ k) (be_low (length bs) b (be_number bs) ∙ be_of_number bs a.1)

-- bytes behind bytes
pub number_append : (xs ys : List ℕ) → be_number (xs ++ ys) ≡ be_number xs * 256 ^ length ys + be_number ys
number_append [] ys = omega arith
number_append (x ∷ xs) ys =
    let p : 256 ^ length (xs ++ ys) ≡ 256 ^ length xs * 256 ^ length ys = ap (λ k. 256 ^ k) (length-append xs ys) ∙ pow-add 256 (length xs) (length ys) in
    let t : x * (256 ^ length xs * 256 ^ length ys) ≡ x * 256 ^ length xs * 256 ^ length ys = sym (mul_assoc x (256 ^ length xs) (256 ^ length ys)) in
    omega (arith, number_append xs ys, ap (λ k. x * k) p, t, add-mul (x * 256 ^ length xs) (be_number xs) (256 ^ length ys))

pub number_zeros : (n : ℕ) → be_number (replicate n 0) ≡ 0
number_zeros zero = refl
number_zeros (suc n) = omega (arith, number_zeros n)

-- what is left of a number's bytes are the bytes of its lower part
pub drop_be : (k w n : ℕ) → drop k (be_bytes w n) ≡ be_bytes (w - k) n
drop_be zero w n = ap (λ k. be_bytes k n) {x = w} {y = w - 0} (omega arith)
drop_be (suc k) zero n = ap (λ j. be_bytes j n) {x = 0} {y = 0 - suc k} (omega arith)
drop_be (suc k) (suc w) n = drop_be k w n ∙ ap (λ j. be_bytes j n) {x = w - k} {y = suc w - suc k} (omega arith)

-- a number whose lower part is zero has zeros for its last bytes
pub zeros_be : (w n : ℕ) → n % 256 ^ w ≡ 0 → be_bytes w n ≡ replicate w 0
zeros_be w n h =
    let e : n ≡ n / 256 ^ w * 256 ^ w + 0 = sym (div-add-mod' n (256 ^ w)) ∙ ap (λ k. n / 256 ^ w * 256 ^ w + k) h in
    ap (be_bytes w) e ∙ be_low w (n / 256 ^ w) 0 ∙ none w
  where
    none : (k : ℕ) → be_bytes k 0 ≡ replicate k 0
    none zero = refl
    none (suc k) = ap (λ b. b ∷ be_bytes k 0) {x = 0 / 256 ^ k % 256} {y = 0} (ap (λ q. q % 256) (zero-div (256 ^ k))) ∙ ap (λ l. 0 ∷ l) (none k)

-- bytes by their places
pub all_from_places : (bs : List ℕ) → ((i : ℕ) → get_or bs i 0 < 256) → AllBytes bs
all_from_places [] h = tt
all_from_places (b ∷ bs) h = (h 0, all_from_places bs (λ i. h (suc i)))

pub all_append : (xs ys : List ℕ) → AllBytes xs → AllBytes ys → AllBytes (xs ++ ys)
all_append [] ys a b = b
all_append (x ∷ xs) ys a b = (a.0, all_append xs ys a.1 b)

pub all_zeros : (n : ℕ) → AllBytes (replicate n 0)
all_zeros zero = tt
all_zeros (suc n) = (omega arith, all_zeros n)

-- the number that bytes stand for, from one of them on
pub number_at : (bs : List ℕ) (i k : ℕ) → length bs ≡ i + (k + 1) → be_number (drop i bs) ≡ get_or bs i 0 * 256 ^ k + be_number (drop (i + 1) bs)
number_at bs i k l =
    at_drop_more be_number bs i 0 (omega arith)
    ∙ ap (λ j. get_or bs i 0 * 256 ^ j + be_number (drop (i + 1) bs)) (length-drop (i + 1) bs ∙ omega arith)

past : (bs : List ℕ) (n : ℕ) → length bs ≡ n → be_number (drop n bs) ≡ 0
past bs n l = at_drop_all be_number bs n (omega arith)

-- what the integers' `from_be_bytes` gives
pub number2 : (bs : List ℕ) → length bs ≡ 2 → get_or bs 0 0 * 256 + get_or bs 1 0 ≡ be_number bs
number2 bs l = omega (arith, number_at bs 0 1 l, number_at bs 1 0 l, past bs 2 l)

pub number4 : (bs : List ℕ) → length bs ≡ 4 → get_or bs 0 0 * 16777216 + get_or bs 1 0 * 65536 + get_or bs 2 0 * 256 + get_or bs 3 0 ≡ be_number bs
number4 bs l = omega (arith, number_at bs 0 3 l, number_at bs 1 2 l, number_at bs 2 1 l, number_at bs 3 0 l, past bs 4 l)

pub number8 : (bs : List ℕ) → length bs ≡ 8 → get_or bs 0 0 * 72057594037927936 + get_or bs 1 0 * 281474976710656 + get_or bs 2 0 * 1099511627776 + get_or bs 3 0 * 4294967296 + get_or bs 4 0 * 16777216 + get_or bs 5 0 * 65536 + get_or bs 6 0 * 256 + get_or bs 7 0 ≡ be_number bs
number8 bs l = omega (arith, number_at bs 0 7 l, number_at bs 1 6 l, number_at bs 2 5 l, number_at bs 3 4 l, number_at bs 4 3 l, number_at bs 5 2 l, number_at bs 6 1 l, number_at bs 7 0 l, past bs 8 l)

pub number16 : (bs : List ℕ) → length bs ≡ 16 → get_or bs 0 0 * 1329227995784915872903807060280344576 + get_or bs 1 0 * 5192296858534827628530496329220096 + get_or bs 2 0 * 20282409603651670423947251286016 + get_or bs 3 0 * 79228162514264337593543950336 + get_or bs 4 0 * 309485009821345068724781056 + get_or bs 5 0 * 1208925819614629174706176 + get_or bs 6 0 * 4722366482869645213696 + get_or bs 7 0 * 18446744073709551616 + get_or bs 8 0 * 72057594037927936 + get_or bs 9 0 * 281474976710656 + get_or bs 10 0 * 1099511627776 + get_or bs 11 0 * 4294967296 + get_or bs 12 0 * 16777216 + get_or bs 13 0 * 65536 + get_or bs 14 0 * 256 + get_or bs 15 0 ≡ be_number bs
number16 bs l = omega (arith, number_at bs 0 15 l, number_at bs 1 14 l, number_at bs 2 13 l, number_at bs 3 12 l, number_at bs 4 11 l, number_at bs 5 10 l, number_at bs 6 9 l, number_at bs 7 8 l, number_at bs 8 7 l, number_at bs 9 6 l, number_at bs 10 5 l, number_at bs 11 4 l, number_at bs 12 3 l, number_at bs 13 2 l, number_at bs 14 1 l, number_at bs 15 0 l, past bs 16 l)

-- what the integers' `to_be_bytes` gives
pub be2 : (n : ℕ) → (n / 256 % 256) ∷ (n % 256) ∷ [] ≡ be_bytes 2 n
be2 n = ap (λ k. (n / 256 % 256) ∷ (k % 256) ∷ []) (sym (div-one n))

pub be4 : (n : ℕ) → (n / 16777216 % 256) ∷ (n / 65536 % 256) ∷ (n / 256 % 256) ∷ (n % 256) ∷ [] ≡ be_bytes 4 n
be4 n = ap (λ k. (n / 16777216 % 256) ∷ (n / 65536 % 256) ∷ (n / 256 % 256) ∷ (k % 256) ∷ []) (sym (div-one n))

pub be8 : (n : ℕ) → (n / 72057594037927936 % 256) ∷ (n / 281474976710656 % 256) ∷ (n / 1099511627776 % 256) ∷ (n / 4294967296 % 256) ∷ (n / 16777216 % 256) ∷ (n / 65536 % 256) ∷ (n / 256 % 256) ∷ (n % 256) ∷ [] ≡ be_bytes 8 n
be8 n = ap (λ k. (n / 72057594037927936 % 256) ∷ (n / 281474976710656 % 256) ∷ (n / 1099511627776 % 256) ∷ (n / 4294967296 % 256) ∷ (n / 16777216 % 256) ∷ (n / 65536 % 256) ∷ (n / 256 % 256) ∷ (k % 256) ∷ []) (sym (div-one n))

pub be16 : (n : ℕ) → (n / 1329227995784915872903807060280344576 % 256) ∷ (n / 5192296858534827628530496329220096 % 256) ∷ (n / 20282409603651670423947251286016 % 256) ∷ (n / 79228162514264337593543950336 % 256) ∷ (n / 309485009821345068724781056 % 256) ∷ (n / 1208925819614629174706176 % 256) ∷ (n / 4722366482869645213696 % 256) ∷ (n / 18446744073709551616 % 256) ∷ (n / 72057594037927936 % 256) ∷ (n / 281474976710656 % 256) ∷ (n / 1099511627776 % 256) ∷ (n / 4294967296 % 256) ∷ (n / 16777216 % 256) ∷ (n / 65536 % 256) ∷ (n / 256 % 256) ∷ (n % 256) ∷ [] ≡ be_bytes 16 n
be16 n = ap (λ k. (n / 1329227995784915872903807060280344576 % 256) ∷ (n / 5192296858534827628530496329220096 % 256) ∷ (n / 20282409603651670423947251286016 % 256) ∷ (n / 79228162514264337593543950336 % 256) ∷ (n / 309485009821345068724781056 % 256) ∷ (n / 1208925819614629174706176 % 256) ∷ (n / 4722366482869645213696 % 256) ∷ (n / 18446744073709551616 % 256) ∷ (n / 72057594037927936 % 256) ∷ (n / 281474976710656 % 256) ∷ (n / 1099511627776 % 256) ∷ (n / 4294967296 % 256) ∷ (n / 16777216 % 256) ∷ (n / 65536 % 256) ∷ (n / 256 % 256) ∷ (k % 256) ∷ []) (sym (div-one n))

-- the test of equality decides it
pub alike_decides : (xs ys : List ℕ) → Decides (alike xs ys) (xs ≡ ys)
alike_decides [] [] = ((λ _. refl), (λ _. refl))
alike_decides [] (y ∷ ys) = ((λ e. cc), (λ e. cc))
alike_decides (x ∷ xs) [] = ((λ e. cc), (λ e. cc))
alike_decides (x ∷ xs) (y ∷ ys) =
    Decides-like (alike (x ∷ xs) (y ∷ ys)) (λ e. ap (λ z. z ∷ xs) e.0 ∙ ap (λ zs. y ∷ zs) e.1) (λ e. ((cc), (cc)))
    (Decides-and _ _ (Decides-eqb x y) (alike_decides xs ys))
