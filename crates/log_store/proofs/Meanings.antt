-- What entries mean as a map: the newest of each key, and the map without a key where entries were squeezed out.
use Rattle.std.proofs.Common.{◌≡◌, ℕ, ◌+◌, ◌*◌, ◌/◌, ◌<◌, ◌≤◌, Bool, true, false, cond, not, ◌&&◌, leb, ◌⊎◌, List, [], ◌∷◌, ◌++◌, length, is_some, Some, None, Option, sym, refl, ap, ◌∙◌, inl, inr, arith, length-append}
use Rattle.std.proofs.lemmas.Bool.{cases_Bool, cond-true, cond-false, cond_both, and_parts, and_cases, le-leb, lt-leb, not-true, not-false}
use Rattle.std.proofs.lemmas.Bool.Decides.{nat_tests}
use Rattle.store.specs.declared.key.Key.{Key}
use Rattle.store.specs.Held.{Entry, Sound, full, look, proper, put, remove, same_key}
use Rattle.store.proofs.Maps.{key-is, length-put, length-remove, look-put, look-remove, one_map, same_key_like, same_key_sym, sound-put, sound-remove}
use Rattle.log_store.specs.Format.{all_fit, encoded, entry_bytes, fit}
use Rattle.log_store.specs.Logs.{meaning, sifted, stays}
use Rattle.log_store.specs.Memories.{with_entry}
use Rattle.log_store.specs.Laws.{fit-first, fit_parts, fit-rest, sound-meaning}
use Rattle.log_store.proofs.Format.{length-entry}
use Rattle.log_store.proofs.Sifts.{fit-oldest}

pub look-meaning : (es : List Entry) (k : Key) → look (meaning es) k ≡ look es k
look-meaning [] k = refl
look-meaning (e ∷ es) k = look-put (meaning es) e.key e.value k ∙ ap (cond (same_key e.key k) (Some e.value)) (look-meaning es k)

-- the value in the first of two that has one
abbrev first : Option (List ℕ) → Option (List ℕ) → Option (List ℕ)
first None b = b
first (Some a) b = Some a

first_assoc : (a b c : Option (List ℕ)) → first (first a b) c ≡ first a (first b c)
first_assoc None b c = refl
first_assoc (Some a) b c = refl

first_none : (a : Option (List ℕ)) → first a None ≡ a
first_none None = refl
first_none (Some a) = refl

look-oldest : (es : List Entry) (e : Entry) (k : Key) → look (es ++ e ∷ []) k ≡ first (look es k) (cond (same_key e.key k) (Some e.value) None)
look-oldest [] e k = refl
look-oldest (x ∷ xs) e k =
    elim (cases_Bool (same_key x.key k)) [
      | inl y ↦ cond-true _ _ _ y ∙ sym (ap (λ o. first o (cond (same_key e.key k) (Some e.value) None)) (cond-true _ _ _ y))
      | inr y ↦ cond-false _ _ _ y ∙ look-oldest xs e k ∙ sym (ap (λ o. first o (cond (same_key e.key k) (Some e.value) None)) (cond-false _ _ _ y))
    ]

-- the value of a key in entries without those of another
abbrev without : Key → List Entry → Key → Option (List ℕ)
without gone es k = cond (same_key gone k) None (look es k)

some_first : (a b : Option (List ℕ)) → is_some a ≡ true → first a b ≡ a
some_first None b h = let z : ◌≡◌ {A = ℕ} 0 1 = grind arith in absurd (omega arith)
some_first (Some a) b h = refl

-- an entry that stays adds its value
look-kept : (gone : Key) (newer es : List Entry) (e : Entry) (k : Key) → same_key e.key gone ≡ false
    → first (look (newer ++ e ∷ []) k) (without gone es k) ≡ first (look newer k) (without gone (e ∷ es) k)
look-kept gone newer es e k h =
    ap (λ o. first o (without gone es k)) (look-oldest newer e k)
    ∙ first_assoc (look newer k) (cond (same_key e.key k) (Some e.value) None) (without gone es k)
    ∙ ap (first (look newer k))
    (elim (cases_Bool (same_key e.key k)) [
      | inl y ↦ (
          let n : same_key gone k ≡ false = ap (same_key gone) (sym (key-is e.key k y)) ∙ same_key_sym gone e.key ∙ h in
          ap (λ o. first o (without gone es k)) (cond-true _ _ _ y) ∙ sym (cond-false _ _ _ n ∙ cond-true _ _ _ y))
      | inr y ↦ ap (λ o. first o (without gone es k)) (cond-false _ _ _ y) ∙ sym (ap (cond (same_key gone k) None) (cond-false _ _ _ y))
    ])

-- an entry that goes adds nothing
look_gone : (gone : Key) (newer es : List Entry) (e : Entry) (k : Key) → (same_key e.key gone ≡ true) ⊎ (is_some (look newer e.key) ≡ true)
    → first (look newer k) (without gone es k) ≡ first (look newer k) (without gone (e ∷ es) k)
look_gone gone newer es e k h =
    elim (cases_Bool (same_key e.key k)) [
      | inr y ↦ ap (λ o. first (look newer k) (cond (same_key gone k) None o)) (sym (cond-false _ _ _ y))
      | inl y ↦ elim h [
        | inl g ↦ (
            let n : same_key gone k ≡ true = sym (same_key_like e.key gone k g) ∙ y in
            ap (first (look newer k)) (cond-true _ _ _ n ∙ sym (cond-true _ _ _ n)))
        | inr g ↦ (
            let s : is_some (look newer k) ≡ true = ap (λ j. is_some (look newer j)) (sym (key-is e.key k y)) ∙ g in
            some_first _ _ s ∙ sym (some_first _ _ s))
      ]
    ]

goes_why : (gone : Key) (dead : Bool) (newer : List Entry) (k : Key) → stays gone dead newer k ≡ false → (same_key k gone ≡ true) ⊎ (is_some (look newer k) ≡ true)
goes_why gone dead newer k h =
    elim (and_cases (not (same_key k gone)) (not (dead && is_some (look newer k))) h) [
      | inl n ↦ inl (not-false _ n)
      | inr n ↦ inr (and_parts dead (is_some (look newer k)) (not-false _ n)).1
    ]

stays-other : (gone : Key) (dead : Bool) (newer : List Entry) (k : Key) → stays gone dead newer k ≡ true → same_key k gone ≡ false
stays-other gone dead newer k h = not-true _ (and_parts (not (same_key k gone)) (not (dead && is_some (look newer k))) h).0

look-sifted : (gone : Key) (dead : Bool) (newer es : List Entry) (k : Key) → look (sifted gone dead newer es) k ≡ first (look newer k) (without gone es k)
look-sifted gone dead newer [] k = sym (ap (first (look newer k)) (cond_both (same_key gone k) None None (λ o. o ≡ None) (λ _. refl) (λ _. refl)) ∙ first_none (look newer k))
look-sifted gone dead newer (e ∷ es) k =
    elim (cases_Bool (stays gone dead newer e.key)) [
      | inl y ↦ ap (λ n. look (sifted gone dead n es) k) (cond-true _ (newer ++ e ∷ []) newer y) ∙ look-sifted gone dead (newer ++ e ∷ []) es k
          ∙ look-kept gone newer es e k (stays-other gone dead newer e.key y)
      | inr y ↦ ap (λ n. look (sifted gone dead n es) k) (cond-false _ (newer ++ e ∷ []) newer y) ∙ look-sifted gone dead newer es k
          ∙ look_gone gone newer es e k (goes_why gone dead newer e.key y)
    ]

fit-sifted : (gone : Key) (dead : Bool) (newer es : List Entry) → all_fit newer ≡ true → all_fit es ≡ true → all_fit (sifted gone dead newer es) ≡ true
fit-sifted gone dead newer [] n a = n
fit-sifted gone dead newer (e ∷ es) n a =
    fit-sifted gone dead (cond (stays gone dead newer e.key) (newer ++ e ∷ []) newer) es
    (cond_both (stays gone dead newer e.key) (newer ++ e ∷ []) newer (λ x. all_fit x ≡ true) (λ _. fit-oldest newer e n (fit-first e es a)) (λ _. n))
    (fit-rest e es a)

pub sifted-fit : (gone : Key) (dead : Bool) (es : List Entry) → all_fit es ≡ true → all_fit (sifted gone dead [] es) ≡ true
sifted-fit gone dead es a = fit-sifted gone dead [] es refl a

-- squeezing entries out clears the key that goes, and nothing else
pub meaning-sifted : (gone : Key) (dead : Bool) (es : List Entry) → all_fit es ≡ true → meaning (sifted gone dead [] es) ≡ remove (meaning es) gone
meaning-sifted gone dead es a =
    let s = sound-meaning es a in
    one_map (meaning (sifted gone dead [] es)) (remove (meaning es) gone) (sound-meaning (sifted gone dead [] es) (sifted-fit gone dead es a)) (sound-remove (meaning es) gone s)
    (λ j p. look-meaning (sifted gone dead [] es) j ∙ look-sifted gone dead [] es j ∙ ap (cond (same_key gone j) None) (sym (look-meaning es j)) ∙ sym (look-remove (meaning es) gone j s))

-- a key that is cleared and set is set
pub put-removed : (m : List Entry) (k : Key) (v : List ℕ) → proper k ≡ true → length v ≤ 576 → Sound m → put (remove m k) k v ≡ put m k v
put-removed m k v p l s =
    one_map (put (remove m k) k v) (put m k v) (sound-put (remove m k) k v p l (sound-remove m k s)) (sound-put m k v p l s)
    (λ j _. look-put (remove m k) k v j
    ∙ elim (cases_Bool (same_key k j)) [
      | inl y ↦ cond-true _ _ _ y ∙ sym (cond-true _ _ _ y)
      | inr y ↦ cond-false _ _ _ y ∙ look-remove m k j s ∙ cond-false _ _ _ y ∙ sym (cond-false _ _ _ y)
    ]
    ∙ sym (look-put m k v j))

-- no key has two entries
abbrev Distinct : List Entry → Type 0
Distinct [] = Unit {0}
Distinct (e ∷ es) = (look es e.key ≡ None) × Distinct es

none_first : (a b : Option (List ℕ)) → a ≡ None → b ≡ None → first a b ≡ None
none_first a b p q = ap (λ o. first o b) p ∙ q

head_apart : (x : Entry) (xs : List Entry) (k : Key) → look (x ∷ xs) k ≡ None → same_key x.key k ≡ false
head_apart x xs k h =
    elim (cases_Bool (same_key x.key k)) [
      | inl y ↦ (let s : Some x.value ≡ None = sym (cond-true _ _ _ y) ∙ h in let z : ◌≡◌ {A = ℕ} 0 1 = cc in absurd (omega arith))
      | inr y ↦ y
    ]

distinct_oldest : (es : List Entry) (e : Entry) → Distinct es → look es e.key ≡ None → Distinct (es ++ e ∷ [])
distinct_oldest [] e d n = (refl, tt)
distinct_oldest (x ∷ xs) e d n =
    let a = head_apart x xs e.key n in (
      look-oldest xs e x.key ∙ none_first _ _ d.0 (cond-false _ _ _ (same_key_sym e.key x.key ∙ a)),
      distinct_oldest xs e d.1 (sym (cond-false _ _ _ a) ∙ n),
    )

pub not_some : (o : Option (List ℕ)) → is_some o ≡ false → o ≡ None
not_some None h = refl
not_some (Some v) h = let z : ◌≡◌ {A = ℕ} 0 1 = grind arith in absurd (omega arith)

distinct_sifted : (gone : Key) (newer es : List Entry) → Distinct newer → Distinct (sifted gone true newer es)
distinct_sifted gone newer [] d = d
distinct_sifted gone newer (e ∷ es) d =
    distinct_sifted gone (cond (stays gone true newer e.key) (newer ++ e ∷ []) newer) es
    (cond_both (stays gone true newer e.key) (newer ++ e ∷ []) newer Distinct
    (λ y. distinct_oldest newer e d (not_some _ (not-true _ (and_parts (not (same_key e.key gone)) (not (is_some (look newer e.key))) y).1)))
    (λ _. d))

length_distinct : (es : List Entry) → all_fit es ≡ true → Distinct es → length (meaning es) ≡ length es
length_distinct [] a d = refl
length_distinct (e ∷ es) a d =
    let b = fit-rest e es a in
    let n : is_some (look (meaning es) e.key) ≡ false = ap is_some (look-meaning es e.key ∙ d.0) in
    let l = length-put (meaning es) e.key e.value (fit_parts e (fit-first e es a)).proper_key (sound-meaning es b) in
    let one : ◌≡◌ {A = ℕ} (cond (is_some (look (meaning es) e.key)) 0 1) 1 = cond-false {A = ℕ} (is_some (look (meaning es) e.key)) 0 1 n in
    let ih = length_distinct es b d.1 in
    omega arith

length_all : (es : List Entry) → all_fit es ≡ true → length (encoded es) ≤ 583 * length es
length_all [] a = omega arith
length_all (e ∷ es) a =
    let ih = length_all es (fit-rest e es a) in
    let s = (fit_parts e (fit-first e es a)).short in
    omega (arith, length-append (encoded es) (entry_bytes e), length-entry e)

-- after a squeeze an entry of a key that the store is not full for fits
pub room-sifted : (es : List Entry) (k : Key) (cap : ℕ) → all_fit es ≡ true → proper k ≡ true → length (meaning es) ≤ cap / 583 → full (meaning es) (cap / 583) k ≡ false
    → length (encoded (sifted k true [] es)) + 583 ≤ cap
room-sifted es k cap a p l f =
    let s = sifted k true [] es in
    let b = sifted-fit k true es a in
    let n : length s ≡ length (remove (meaning es) k) = sym (length_distinct s b (distinct_sifted k [] es tt)) ∙ ap length (meaning-sifted k true es a) in
    let r = length-remove (meaning es) k in
    let e = length_all s b in
    let q : length (remove (meaning es) k) + 1 ≤ cap / 583 = grind (arith, nat_tests) in
    omega arith

-- where there is room for an entry more, none is squeezed out
pub with_room : (room : ℕ) (es : List Entry) (e : Entry) → length (encoded es) + length e.value + 7 ≤ room → e ∷ es ≡ with_entry room es e
with_room room es e l =
    ap (λ x. e ∷ x) (sym (cond-true _ es (sifted e.key true [] es) (le-leb _ _ (omega (arith, length-entry e)))))

-- and where there is none, entries are squeezed out first
pub with_squeeze : (room : ℕ) (es : List Entry) (e : Entry) → room < length (encoded es) + length e.value + 7 → e ∷ sifted e.key true [] es ≡ with_entry room es e
with_squeeze room es e l =
    ap (λ x. e ∷ x) (sym (cond-false _ es (sifted e.key true [] es) (lt-leb _ _ (omega (arith, length-entry e)))))

-- an entry more sets its key
pub meaning_with : (room : ℕ) (es : List Entry) (e : Entry) → all_fit es ≡ true → fit e ≡ true → meaning (with_entry room es e) ≡ put (meaning es) e.key e.value
meaning_with room es e a f =
    let p = fit_parts e f in
    cond_both (leb (length (encoded es) + length (entry_bytes e)) room) es (sifted e.key true [] es) (λ x. put (meaning x) e.key e.value ≡ put (meaning es) e.key e.value)
    (λ _. refl)
    (λ _. ap (λ m. put m e.key e.value) (meaning-sifted e.key true es a) ∙ put-removed (meaning es) e.key e.value p.proper_key p.short (sound-meaning es a))
