-- How long heads, entries and whole maps are in their written form.
use Rattle.std.proofs.Common.{◌≡◌, ℕ, ◌+◌, ◌^◌, ◌<◌, ◌≤◌, Bool, true, false, cond, ltb, List, ◌++◌, length, Some, None, Option, refl, ap, ◌∙◌, arith, length-append}
use Rattle.std.proofs.lemmas.Bool.{cond-true, lt-ltb}
use Rattle.std.proofs.lemmas.Bool.Decides.{nat_tests}
use Rattle.maps.specs.Heads.{head_bytes}
use Rattle.maps.specs.declared.properties.Key.{Key}
use Rattle.maps.specs.declared.properties.Key.TheVariants.{Name, DataAddress, ResourceType, ContentFormat, TopicType, Expiration, MaxSubscribers, ObserverCheck}
use Rattle.maps.specs.Maps.{Props, key_number, text_entry, number_entry, date_entry, one_if, has, given, written_entries, written}
use Rattle.maps.specs.Laws.{Carried, Text}

-- a key's head has one byte
pub length-key : (k : Key) → length (head_bytes 0 (key_number k)) ≡ 1
length-key Name = refl
length-key DataAddress = refl
length-key ResourceType = refl
length-key ContentFormat = refl
length-key TopicType = refl
length-key Expiration = refl
length-key MaxSubscribers = refl
length-key ObserverCheck = refl

-- an entry has its key, the head of its value, and a text has its bytes and a date its tag
pub length-text_of : (k : Key) (t : List ℕ) → length (text_entry k (Some t)) ≡ 1 + (length (head_bytes 3 (length t)) + length t)
length-text_of k t =
    length-append (head_bytes 0 (key_number k)) (head_bytes 3 (length t) ++ t)
    ∙ ap (λ n. n + length (head_bytes 3 (length t) ++ t)) (length-key k)
    ∙ ap (λ n. 1 + n) (length-append (head_bytes 3 (length t)) t)

pub length-number_of : (k : Key) (n : ℕ) → length (number_entry k (Some n)) ≡ 1 + length (head_bytes 0 n)
length-number_of k n = length-append (head_bytes 0 (key_number k)) (head_bytes 0 n) ∙ ap (λ l. l + length (head_bytes 0 n)) (length-key k)

pub length-date_of : (k : Key) (n : ℕ) → length (date_entry k (Some n)) ≡ 1 + (1 + length (head_bytes 0 n))
length-date_of k n =
    length-append (head_bytes 0 (key_number k)) (head_bytes 6 1 ++ head_bytes 0 n)
    ∙ ap (λ l. l + length (head_bytes 6 1 ++ head_bytes 0 n)) (length-key k)
    ∙ ap (λ l. 1 + l) (length-append (head_bytes 6 1) (head_bytes 0 n))

one_if_le : (b : Bool) → one_if b ≤ 1
one_if_le true = omega arith
one_if_le false = omega arith

-- a map has at most eight keys
pub given_le : (p : Props) → given p ≤ 8
given_le p =
    omega (arith, one_if_le (has p Name), one_if_le (has p DataAddress), one_if_le (has p ResourceType), one_if_le (has p ContentFormat), one_if_le (has p TopicType), one_if_le (has p Expiration), one_if_le (has p MaxSubscribers), one_if_le (has p ObserverCheck))

-- so its head has one byte
pub length_count : (p : Props) → length (head_bytes 5 (given p)) ≡ 1
length_count p = ap length (cond-true (ltb (given p) 24) _ _ (lt-ltb (given p) 24 (omega (arith, given_le p))))

sum : (a b c d e f g h : List ℕ)
    → length (a ++ (b ++ (c ++ (d ++ (e ++ (f ++ (g ++ h))))))) ≡ length a + (length b + (length c + (length d + (length e + (length f + (length g + length h))))))
sum a b c d e f g h = simp length-append

-- the length of a map: its head, and its entries
pub length-written : (p : Props)
    → length (written p) ≡ 1 + (length (text_entry Name p.name) + (length (text_entry DataAddress p.data_address) + (length (text_entry ResourceType p.resource_type) + (length (number_entry ContentFormat p.content_format)
    + (length (text_entry TopicType p.topic_type) + (length (date_entry Expiration p.expiration) + (length (number_entry MaxSubscribers p.max_subscribers) + length (number_entry ObserverCheck p.observer_check))))))))
length-written p =
    length-append (head_bytes 5 (given p)) (written_entries p)
    ∙ ap (λ n. n + length (written_entries p)) (length_count p)
    ∙ ap (λ n. 1 + n) (sum (text_entry Name p.name) (text_entry DataAddress p.data_address) (text_entry ResourceType p.resource_type) (number_entry ContentFormat p.content_format) (text_entry TopicType p.topic_type) (date_entry Expiration p.expiration) (number_entry MaxSubscribers p.max_subscribers) (number_entry ObserverCheck p.observer_check))

-- a head has at most nine bytes, whatever its argument, so an entry has few more than its text
head_le : (m n : ℕ) → length (head_bytes m n) ≤ 9
head_le m n = grind (arith, nat_tests)

text_lt : (k : Key) (o : Option (List ℕ)) → Text o → length (text_entry k o) < 2 ^ 64 + 10
text_lt k None h = omega arith
text_lt k (Some t) h = omega (arith, length-text_of k t, head_le 3 (length t))

number_le : (k : Key) (o : Option ℕ) → length (number_entry k o) ≤ 10
number_le k None = omega arith
number_le k (Some n) = omega (arith, length-number_of k n, head_le 0 n)

date_le : (k : Key) (o : Option ℕ) → length (date_entry k o) ≤ 11
date_le k None = omega arith
date_le k (Some n) = omega (arith, length-date_of k n, head_le 0 n)

-- and a map that the wire can carry is counted in 128 bits
pub written_lt : (p : Props) → Carried p → length (written p) < 2 ^ 128
written_lt p h =
    omega (
      arith,
      length-written p,
      text_lt Name p.name h.name,
      text_lt DataAddress p.data_address h.data_address,
      text_lt ResourceType p.resource_type h.resource_type,
      number_le ContentFormat p.content_format,
      text_lt TopicType p.topic_type h.topic_type,
      date_le Expiration p.expiration,
      number_le MaxSubscribers p.max_subscribers,
      number_le ObserverCheck p.observer_check,
    )

-- what a length tells that is given only where it fits 64 bits
pub some_from_fits : (n k : ℕ) → Some k ≡ cond (ltb n (2 ^ 64)) (Some n) None → k ≡ n
some_from_fits n k e = grind (arith, nat_tests)
