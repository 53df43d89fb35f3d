-- The largest map that is written for a topic.
use Rattle.std.proofs.Common.{◌≡◌, ℕ, ◌+◌, ◌<◌, ◌≤◌, true, ◌&&◌, ltb, leb, List, length, replicate, IfSome, Some, None, Option, refl, ap, arith}
use Rattle.std.proofs.lemmas.List.{length-replicate}
use Rattle.std.proofs.lemmas.Bool.{and_parts, and_from, leb-true, le-leb, lt-ltb}
use Rattle.std.proofs.lemmas.Bool.Decides.{nat_tests}
use Rattle.maps.specs.Heads.{head_bytes}
use Rattle.maps.specs.declared.properties.Key.{Key}
use Rattle.maps.specs.declared.properties.Key.TheVariants.{Name, DataAddress, ResourceType, ContentFormat, TopicType, Expiration, MaxSubscribers, ObserverCheck}
use Rattle.maps.specs.Maps.{Props, text_entry, number_entry, date_entry, absent_or, in_range, written}
use Rattle.maps.specs.Laws.{Topical, Largest}
use Rattle.map_writer.proofs.Lengths.{length-text_of, length-number_of, length-date_of, length-written}

-- how long a head can be under a limit of its argument
head_le_1 : (m n : ℕ) → n < 24 → length (head_bytes m n) ≤ 1
head_le_1 m n h = grind (arith, nat_tests)

head_le_2 : (m n : ℕ) → n < 256 → length (head_bytes m n) ≤ 2
head_le_2 m n h = grind (arith, nat_tests)

head_le_3 : (m n : ℕ) → n < 65536 → length (head_bytes m n) ≤ 3
head_le_3 m n h = grind (arith, nat_tests)

head_le_5 : (m n : ℕ) → n < 4294967296 → length (head_bytes m n) ≤ 5
head_le_5 m n h = grind (arith, nat_tests)

-- how long each entry of a topic can be
text_le : (k : Key) (o : Option (List ℕ)) → absent_or (λ t. leb (length t) 256) o ≡ true → length (text_entry k o) ≤ 260
text_le k None h = omega arith
text_le k (Some t) h =
    let l = leb-true (length t) 256 h in
    omega (arith, length-text_of k t, head_le_3 3 (length t) (omega arith))

name_le : (k : Key) (o : Option (List ℕ)) → absent_or (λ t. ltb 0 (length t) && leb (length t) 256) o ≡ true → length (text_entry k o) ≤ 260
name_le k None h = omega arith
name_le k (Some t) h = text_le k (Some t) (and_parts (ltb 0 (length t)) (leb (length t) 256) h).1

fixed_le : (k : Key) (n : ℕ) (o : Option (List ℕ)) → n < 24 → IfSome o (λ t. length t ≡ n) → length (text_entry k o) ≤ 2 + n
fixed_le k n None s h = omega arith
fixed_le k n (Some t) s h = omega (arith, length-text_of k t, head_le_1 3 (length t) (omega arith))

format_le : (o : Option ℕ) → absent_or (λ n. leb n 65535) o ≡ true → length (number_entry ContentFormat o) ≤ 4
format_le None h = omega arith
format_le (Some n) h =
    let l = leb-true n 65535 h in
    omega (arith, length-number_of ContentFormat n, head_le_3 0 n (omega arith))

date_le : (o : Option ℕ) → absent_or (λ n. leb n 4294967295) o ≡ true → length (date_entry Expiration o) ≤ 7
date_le None h = omega arith
date_le (Some n) h =
    let l = leb-true n 4294967295 h in
    omega (arith, length-date_of Expiration n, head_le_5 0 n (omega arith))

most_le : (o : Option ℕ) → absent_or (λ n. leb n 100) o ≡ true → length (number_entry MaxSubscribers o) ≤ 3
most_le None h = omega arith
most_le (Some n) h =
    let l = leb-true n 100 h in
    omega (arith, length-number_of MaxSubscribers n, head_le_2 0 n (omega arith))

check_le : (o : Option ℕ) → absent_or (λ n. leb n 4294967295) o ≡ true → length (number_entry ObserverCheck o) ≤ 6
check_le None h = omega arith
check_le (Some n) h =
    let l = leb-true n 4294967295 h in
    omega (arith, length-number_of ObserverCheck n, head_le_5 0 n (omega arith))

-- each range of properties that are in range
pub record Ranges (p : Props) : Type 0 where
  pub name : absent_or (λ t. ltb 0 (length t) && leb (length t) 256) p.name ≡ true
  pub format : absent_or (λ n. leb n 65535) p.content_format ≡ true
  pub topic : absent_or (λ t. leb (length t) 256) p.topic_type ≡ true
  pub date : absent_or (λ n. leb n 4294967295) p.expiration ≡ true
  pub most : absent_or (λ n. leb n 100) p.max_subscribers ≡ true
  pub check : absent_or (λ n. leb n 4294967295) p.observer_check ≡ true

pub ranges : (p : Props) → in_range p ≡ true → Ranges p
ranges p r =
    let check = absent_or (λ n. leb n 4294967295) p.observer_check in
    let most = absent_or (λ n. leb n 100) p.max_subscribers in
    let date = absent_or (λ n. leb n 4294967295) p.expiration in
    let topic = absent_or (λ t. leb (length t) 256) p.topic_type in
    let format = absent_or (λ n. leb n 65535) p.content_format in
    let name = absent_or (λ t. ltb 0 (length t) && leb (length t) 256) p.name in
    let a = and_parts name (format && (topic && (date && (most && check)))) r in
    let b = and_parts format (topic && (date && (most && check))) a.1 in
    let c = and_parts topic (date && (most && check)) b.1 in
    let d = and_parts date (most && check) c.1 in
    let e = and_parts most check d.1 in
    record { name = a.0; format = b.0; topic = c.0; date = d.0; most = e.0; check = e.1 }

bound : (p : Props) → Topical p → length (written p) ≤ 574
bound p t =
    let r = ranges p t.ranged in
    let address : length (text_entry DataAddress p.data_address) ≤ 2 + 17 = fixed_le DataAddress 17 p.data_address (omega arith) t.data_address in
    let resource : length (text_entry ResourceType p.resource_type) ≤ 2 + 12 = fixed_le ResourceType 12 p.resource_type (omega arith) t.resource_type in
    omega (arith, length-written p, name_le Name p.name r.name, format_le p.content_format r.format, text_le TopicType p.topic_type r.topic, date_le p.expiration r.date, most_le p.max_subscribers r.most, check_le p.observer_check r.check)

module _ (name address resource topic : List ℕ) (n : length name ≡ 256) (a : length address ≡ 17) (r : length resource ≡ 12) (t : length topic ≡ 256) where
  -- every property given, as large as its range allows
  abbrev full : Props
  full = record {
    name = Some name;
    data_address = Some address;
    resource_type = Some resource;
    content_format = Some 65535;
    topic_type = Some topic;
    expiration = Some 4294967295;
    max_subscribers = Some 100;
    observer_check = Some 4294967295;
  }

  full-topical : Topical full
  full-topical = record {
    ranged = and_from _ _ (and_from (ltb 0 (length name)) (leb (length name) 256) (lt-ltb 0 (length name) (omega arith)) (le-leb (length name) 256 (omega arith))) (and_from (leb (length topic) 256) true (le-leb (length topic) 256 (omega arith)) refl);
    data_address = a;
    resource_type = r;
  }

  full-length : length (written full) ≡ 574
  full-length =
      let hn : length (head_bytes 3 (length name)) ≡ 3 = ap (λ k. length (head_bytes 3 k)) n in
      let ha : length (head_bytes 3 (length address)) ≡ 1 = ap (λ k. length (head_bytes 3 k)) a in
      let hr : length (head_bytes 3 (length resource)) ≡ 1 = ap (λ k. length (head_bytes 3 k)) r in
      let ht : length (head_bytes 3 (length topic)) ≡ 3 = ap (λ k. length (head_bytes 3 k)) t in
      omega (arith, length-written full, length-text_of Name name, length-text_of DataAddress address, length-text_of ResourceType resource, length-text_of TopicType topic)

zeros : (n : ℕ) → length {A = ℕ} (replicate n 0) ≡ n
zeros n = length-replicate {A = ℕ} n 0

pub largest : Largest
largest = record {
  bound = bound;
  fullest = full (replicate 256 0) (replicate 17 0) (replicate 12 0) (replicate 256 0) (zeros 256) (zeros 17) (zeros 12) (zeros 256);
  topical = full-topical (replicate 256 0) (replicate 17 0) (replicate 12 0) (replicate 256 0) (zeros 256) (zeros 17) (zeros 12) (zeros 256);
  reached = full-length (replicate 256 0) (replicate 17 0) (replicate 12 0) (replicate 256 0) (zeros 256) (zeros 17) (zeros 12) (zeros 256);
}
