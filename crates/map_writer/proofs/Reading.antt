-- What is read from written items, entries and maps.
use Rattle.std.proofs.Common.{◌≡◌, ℕ, ◌+◌, ◌^◌, ◌<◌, false, cond, eqb, leb, List, [], ◌++◌, length, take, drop, is_some, Some, None, Ok, Err, Option, Result, sym, refl, ap, ◌∙◌, append_assoc, zero-add, one-add, arith, length-append}
use Rattle.std.proofs.lemmas.List.{take_at, drop_at, append-nil}
use Rattle.std.proofs.lemmas.Bool.{cond-true, cond-false, eq-eqb, le-leb}
use Rattle.protocol.specs.declared.fault.Fault.{Fault}
use Rattle.protocol.specs.declared.fault.Fault.TheVariants.{Ends, WrongType, RepeatedKey}
use Rattle.maps.specs.declared.properties.Key.{Key}
use Rattle.maps.specs.declared.properties.Key.TheVariants.{Name, DataAddress, ResourceType, ContentFormat, TopicType, Expiration, MaxSubscribers, ObserverCheck}
use Rattle.maps.specs.Heads.{Got, head_bytes}
use Rattle.maps.specs.Maps.{Props, then, item_of, number_of, text_of, date_of, key_number, key_of, has, value_of, keyed, entry_of, entries_of, whole, read_map, nothing, text_entry, number_entry, date_entry, one_if, given, written_entries, written}
use Rattle.maps.specs.Laws.{Text, Num, Carried, ReadsBack, OneForm}
use Rattle.map_writer.proofs.Heads.{head_read}
use Rattle.map_writer.proofs.Lengths.{given_le}

-- an item that was read, and what stands behind it
abbrev got : {X : Type 0} → X → List ℕ → Result (Got X) Fault
got x rest = Ok (record { item = x; rest = rest })

item-read : (m n : ℕ) (rest : List ℕ) → n < 2 ^ 64 → item_of m (head_bytes m n ++ rest) ≡ got n rest
item-read m n rest h =
    ap (λ r. then r (λ h rest. cond (eqb h.major m) (got h.argument rest) (Err WrongType))) (head_read m n rest h)
    ∙ cond-true (eqb m m) (got n rest) (Err WrongType) (eq-eqb m m refl)

text_read : (t rest : List ℕ) → length t < 2 ^ 64 → text_of (head_bytes 3 (length t) ++ t ++ rest) ≡ got t rest
text_read t rest h =
    let cut : ℕ → List ℕ → Result (Got (List ℕ)) Fault = λ n bs. cond (leb n (length bs)) (got (take n bs) (drop n bs)) (Err Ends) in
    ap text_of (append_assoc (head_bytes 3 (length t)) t rest)
    ∙ ap (λ r. then r cut) (item-read 3 (length t) (t ++ rest) h)
    ∙ cond-true (leb (length t) (length (t ++ rest))) _ (Err Ends) (le-leb (length t) (length (t ++ rest)) (omega (arith, length-append t rest)))
    ∙ ap (λ x. got x (drop (length t) (t ++ rest))) (take_at t rest (length t) refl)
    ∙ ap (λ x. got t x) (drop_at t rest (length t) refl)

date-read : (n : ℕ) (rest : List ℕ) → n < 2 ^ 64 → date_of (head_bytes 6 1 ++ head_bytes 0 n ++ rest) ≡ got n rest
date-read n rest h =
    ap date_of (append_assoc (head_bytes 6 1) (head_bytes 0 n) rest)
    ∙ ap (λ r. then r (λ tag bs. cond (eqb tag 1) (number_of bs) (Err WrongType))) (item-read 6 1 (head_bytes 0 n ++ rest) (omega arith))
    ∙ item-read 0 n rest h

key_back : (k : Key) → key_of (key_number k) ≡ Some k
key_back Name = refl
key_back DataAddress = refl
key_back ResourceType = refl
key_back ContentFormat = refl
key_back TopicType = refl
key_back Expiration = refl
key_back MaxSubscribers = refl
key_back ObserverCheck = refl

key-small : (k : Key) → key_number k < 2 ^ 64
key-small Name = omega arith
key-small DataAddress = omega arith
key-small ResourceType = omega arith
key-small ContentFormat = omega arith
key-small TopicType = omega arith
key-small Expiration = omega arith
key-small MaxSubscribers = omega arith
key-small ObserverCheck = omega arith

-- an entry whose key is new, and whose value is read
entry_read : (k : Key) (p q : Props) (value rest : List ℕ) → has p k ≡ false → value_of k p (value ++ rest) ≡ got q rest
    → entry_of p (head_bytes 0 (key_number k) ++ value ++ rest) ≡ got q rest
entry_read k p q value rest new e =
    ap (entry_of p) (append_assoc (head_bytes 0 (key_number k)) value rest)
    ∙ ap (λ r. then r (λ n bs. keyed (key_of n) p bs)) (item-read 0 (key_number k) (value ++ rest) (key-small k))
    ∙ ap (λ o. keyed o p (value ++ rest)) (key_back k)
    ∙ cond-false (has p k) (Err RepeatedKey) (value_of k p (value ++ rest)) new
    ∙ e

-- such an entry is one of those to come
one_more : (n : ℕ) (k : Key) (p q : Props) (value rest : List ℕ) → has p k ≡ false → value_of k p (value ++ rest) ≡ got q rest
    → entries_of (1 + n) p (head_bytes 0 (key_number k) ++ value ++ rest) ≡ entries_of n q rest
one_more n k p q value rest new e =
    ap (λ j. entries_of j p (head_bytes 0 (key_number k) ++ value ++ rest)) (one-add n)
    ∙ ap (λ r. then r (λ q rest. entries_of n q rest)) (entry_read k p q value rest new e)

-- properties by their keys
abbrev props : Option (List ℕ) → Option (List ℕ) → Option (List ℕ) → Option ℕ → Option (List ℕ) → Option ℕ → Option ℕ → Option ℕ → Props
props n a r f t e m c = record {
  name = n;
  data_address = a;
  resource_type = r;
  content_format = f;
  topic_type = t;
  expiration = e;
  max_subscribers = m;
  observer_check = c;
}

-- an optional entry is read behind those before it: `p` is what is known by then, as it depends on this entry
module _ (k : ℕ) (rest : List ℕ) (key : Key) where
  text_step : (p : Option (List ℕ) → Props) → has (p None) key ≡ false → ((bs : List ℕ) → value_of key (p None) bs ≡ then (text_of bs) (λ v bs. got (p (Some v)) bs))
      → (o : Option (List ℕ)) → Text o → entries_of (one_if (is_some o) + k) (p None) (text_entry key o ++ rest) ≡ entries_of k (p o) rest
  text_step p new is None h = ap (λ j. entries_of j (p None) rest) (zero-add k)
  text_step p new is (Some x) h =
      one_more k key (p None) (p (Some x)) (head_bytes 3 (length x) ++ x) rest new (is (head_bytes 3 (length x) ++ x ++ rest) ∙ ap (λ r. then r (λ v bs. got (p (Some v)) bs)) (text_read x rest h))

  number_step : (p : Option ℕ → Props) → has (p None) key ≡ false → ((bs : List ℕ) → value_of key (p None) bs ≡ then (number_of bs) (λ v bs. got (p (Some v)) bs))
      → (o : Option ℕ) → Num o → entries_of (one_if (is_some o) + k) (p None) (number_entry key o ++ rest) ≡ entries_of k (p o) rest
  number_step p new is None h = ap (λ j. entries_of j (p None) rest) (zero-add k)
  number_step p new is (Some x) h =
      one_more k key (p None) (p (Some x)) (head_bytes 0 x) rest new (is (head_bytes 0 x ++ rest) ∙ ap (λ r. then r (λ v bs. got (p (Some v)) bs)) (item-read 0 x rest h))

  date-step : (p : Option ℕ → Props) → has (p None) key ≡ false → ((bs : List ℕ) → value_of key (p None) bs ≡ then (date_of bs) (λ v bs. got (p (Some v)) bs))
      → (o : Option ℕ) → Num o → entries_of (one_if (is_some o) + k) (p None) (date_entry key o ++ rest) ≡ entries_of k (p o) rest
  date-step p new is None h = ap (λ j. entries_of j (p None) rest) (zero-add k)
  date-step p new is (Some x) h =
      one_more k key (p None) (p (Some x)) (head_bytes 6 1 ++ head_bytes 0 x) rest new (is (head_bytes 6 1 ++ head_bytes 0 x ++ rest) ∙ ap (λ r. then r (λ v bs. got (p (Some v)) bs)) (date-read x rest h))

counts : (a b c d e f g h : ℕ) → a + b + c + d + e + f + g + h ≡ a + (b + (c + (d + (e + (f + (g + (h + 0)))))))
counts a b c d e f g h = omega arith

-- the entries of a written map are read as its properties
pub entries-read : (p : Props) → Carried p → entries_of (given p) nothing (written_entries p) ≡ Ok (record { item = p; rest = [] })
entries-read p w =
    let name = p.name in
    let address = p.data_address in
    let resource = p.resource_type in
    let format = p.content_format in
    let topic = p.topic_type in
    let date = p.expiration in
    let most = p.max_subscribers in
    let check = p.observer_check in
    let k8 : ℕ = 0 in
    let k7 = one_if (is_some check) + k8 in
    let k6 = one_if (is_some most) + k7 in
    let k5 = one_if (is_some date) + k6 in
    let k4 = one_if (is_some topic) + k5 in
    let k3 = one_if (is_some format) + k4 in
    let k2 = one_if (is_some resource) + k3 in
    let k1 = one_if (is_some address) + k2 in
    let r8 : List ℕ = [] in
    let r7 = number_entry ObserverCheck check ++ r8 in
    let r6 = number_entry MaxSubscribers most ++ r7 in
    let r5 = date_entry Expiration date ++ r6 in
    let r4 = text_entry TopicType topic ++ r5 in
    let r3 = number_entry ContentFormat format ++ r4 in
    let r2 = text_entry ResourceType resource ++ r3 in
    let r1 = text_entry DataAddress address ++ r2 in
    ap (λ n. entries_of n nothing (written_entries p)) (counts (one_if (is_some name)) (one_if (is_some address)) (one_if (is_some resource)) (one_if (is_some format)) (one_if (is_some topic)) (one_if (is_some date)) (one_if (is_some most)) (one_if (is_some check)))
    ∙ ap (λ l. entries_of (one_if (is_some name) + k1) nothing (text_entry Name name ++ (text_entry DataAddress address ++ (text_entry ResourceType resource ++ (number_entry ContentFormat format ++ (text_entry TopicType topic ++ (date_entry Expiration date ++ (number_entry MaxSubscribers most ++ l)))))))) (sym (append-nil (number_entry ObserverCheck check)))
    ∙ text_step k1 r1 Name (λ o. props o None None None None None None None) refl (λ _. refl) name w.name
    ∙ text_step k2 r2 DataAddress (λ o. props name o None None None None None None) refl (λ _. refl) address w.data_address
    ∙ text_step k3 r3 ResourceType (λ o. props name address o None None None None None) refl (λ _. refl) resource w.resource_type
    ∙ number_step k4 r4 ContentFormat (λ o. props name address resource o None None None None) refl (λ _. refl) format w.content_format
    ∙ text_step k5 r5 TopicType (λ o. props name address resource format o None None None) refl (λ _. refl) topic w.topic_type
    ∙ date-step k6 r6 Expiration (λ o. props name address resource format topic o None None) refl (λ _. refl) date w.expiration
    ∙ number_step k7 r7 MaxSubscribers (λ o. props name address resource format topic date o None) refl (λ _. refl) most w.max_subscribers
    ∙ number_step k8 r8 ObserverCheck (λ o. props name address resource format topic date most o) refl (λ _. refl) check w.observer_check

pub reads_back : ReadsBack
reads_back p w =
    ap (λ r. whole (then r (λ n rest. entries_of n nothing rest))) (item-read 5 (given p) (written_entries p) (omega (arith, given_le p)))
    ∙ ap whole (entries-read p w)

same_from_ok : (p q : Props) → ◌≡◌ {A = Result Props Fault} (Ok p) (Ok q) → p ≡ q
same_from_ok p q e = cc

pub one_form : OneForm
one_form p q w e = ap written (same_from_ok q p (sym e ∙ reads_back p w))

-- so does the front of a buffer that it was written to
pub front_reads : (p : Props) (out next : List ℕ) (n : ℕ) → Carried p → n ≡ length (written p) → next ≡ written p ++ drop (length (written p)) out → read_map (take n next) ≡ Ok p
front_reads p out next n w len is =
    ap (λ k. read_map (take k next)) len
    ∙ ap (λ l. read_map (take (length (written p)) l)) is
    ∙ ap read_map (take_at (written p) (drop (length (written p)) out) (length (written p)) refl)
    ∙ reads_back p w
