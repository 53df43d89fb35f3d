-- Laws of the map that a store means: what put and remove do to look-ups, order and length, and when two maps are one.
use Rattle.std.proofs.Common.{◌≡◌, ℕ, ◌+◌, ◌<◌, ◌≤◌, true, false, cond, ◌&&◌, eqb, ltb, List, [], ◌∷◌, length, is_some, Some, None, Option, sym, refl, ap, ◌∙◌, subst, inl, inr, arith}
use Rattle.std.proofs.lemmas.Bool.{cases_Bool, cases_order, cond-true, cond-false, cond_both, eq-eqb, ltb-true, ltb-false, eqb-true, eqb-false, and_parts}
use Rattle.std.proofs.lemmas.Bool.Decides.{nat_tests}
use Rattle.store.specs.declared.key.Key.{Key}
use Rattle.store.specs.Held.{Entry, value_limit, proper, rank, same_key, look, put, remove, next, Above, Sound}
use Rattle.store.specs.Laws.{Lowest, NextIsLowest, OneMap, has_properties}

-- keys

pub same_key_refl : (k : Key) → same_key k k ≡ true
same_key_refl k = grind (arith, nat_tests)

pub same_key_sym : (a b : Key) → same_key a b ≡ same_key b a
same_key_sym a b = grind (arith, nat_tests)

-- the same key as a third are the same as one another
pub same_key_like : (a b j : Key) → same_key a b ≡ true → same_key a j ≡ same_key b j
same_key_like a b j e = grind (arith, nat_tests)

pub key-is : (a b : Key) → same_key a b ≡ true → a ≡ b
key-is a b e =
    let p = and_parts (eqb a.handle.0 b.handle.0) (eqb a.part b.part) e in
    let f : (h : ℕ) → Key = λ h. record { handle = record { 0 = h }; part = a.part } in
    ap f (eqb-true _ _ p.0) ∙ ap (λ n. record { handle = b.handle; part = n }) (eqb-true _ _ p.1)

-- proper keys differ in rank where they differ at all
pub same_key-rank : (a b : Key) → proper a ≡ true → proper b ≡ true → same_key a b ≡ eqb (rank a) (rank b)
same_key-rank a b p q = grind (arith, nat_tests)

-- look-ups

pub look-put : (es : List Entry) (k : Key) (v : List ℕ) (j : Key) → look (put es k v) j ≡ cond (same_key k j) (Some v) (look es j)
look-put [] k v j = refl
look-put (e ∷ es) k v j = let ih = look-put es k v j in let s = same_key_like e.key k j in grind (arith, nat_tests)

-- a key below all others has no value
pub look-below : (es : List Entry) (k : Key) → proper k ≡ true → Sound es → Above (rank k) es → look es k ≡ None
look-below [] k p s a = refl
look-below (e ∷ es) k p s a =
    let ih = look-below es k p s.3 a.1 in
    let r = same_key-rank e.key k s.0 p in
    let l = a.0 in
    cond-false _ _ _ (r ∙ grind (arith, nat_tests)) ∙ ih

-- what stands above a rank stands above each lower one
pub above_lower : (es : List Entry) (m n : ℕ) → m ≤ n → Above n es → Above m es
above_lower [] m n l a = tt
above_lower (e ∷ es) m n l a = (let h = a.0 in omega arith, above_lower es m n l a.1)

pub look-remove : (es : List Entry) (k j : Key) → Sound es → look (remove es k) j ≡ cond (same_key k j) None (look es j)
look-remove [] k j s = grind arith
look-remove (e ∷ es) k j s =
    let ih = look-remove es k j s.3 in
    let l = same_key_like e.key k j in
    let n : same_key e.key j ≡ true → look es j ≡ None = λ h. ap (look es) (sym (key-is e.key j h)) ∙ look-below es e.key s.0 s.3 s.2 in
    grind (arith, nat_tests)

-- a remove of a key that has no value changes nothing
pub remove_absent : (es : List Entry) (k : Key) → look es k ≡ None → remove es k ≡ es
remove_absent [] k n = refl
remove_absent (e ∷ es) k n =
    elim (cases_Bool (same_key e.key k)) [
      | inl y ↦ absurd (grind arith)
      | inr y ↦ cond-false _ _ _ y ∙ ap (λ xs. e ∷ xs) (remove_absent es k (sym (cond-false _ _ _ y) ∙ n))
    ]

-- order

pub above_put : (es : List Entry) (k : Key) (v : List ℕ) (r : ℕ) → r < rank k → Above r es → Above r (put es k v)
above_put [] k v r l a = (l, tt)
above_put (e ∷ es) k v r l a =
    cond_both (same_key e.key k) _ _ (Above r) (λ _. (l, a.1))
    (λ _. cond_both (ltb (rank k) (rank e.key)) _ _ (Above r) (λ _. (l, a)) (λ _. (a.0, above_put es k v r l a.1)))

pub above_remove : (es : List Entry) (k : Key) (r : ℕ) → Above r es → Above r (remove es k)
above_remove [] k r a = tt
above_remove (e ∷ es) k r a = cond_both (same_key e.key k) _ _ (Above r) (λ _. a.1) (λ _. (a.0, above_remove es k r a.1))

pub sound-put : (es : List Entry) (k : Key) (v : List ℕ) → proper k ≡ true → length v ≤ value_limit → Sound es → Sound (put es k v)
sound-put [] k v p l s = (p, l, tt, tt)
sound-put (e ∷ es) k v p l s =
    let r = same_key-rank e.key k s.0 p in
    cond_both (same_key e.key k) _ _ Sound
    (λ y. (p, l, subst (λ (j : Key). Above (rank j) es) (key-is e.key k y) s.2, s.3))
    (λ n. cond_both (ltb (rank k) (rank e.key)) _ _ Sound
    (λ b. (p, l, (ltb-true _ _ b, above_lower es (rank k) (rank e.key) (let h = ltb-true _ _ b in omega arith) s.2), s))
    (λ b. (s.0, s.1, above_put es k v (rank e.key) (let h = ltb-false _ _ b in let d = eqb-false _ _ (sym r ∙ n) in omega arith) s.2, sound-put es k v p l s.3)))

pub sound-remove : (es : List Entry) (k : Key) → Sound es → Sound (remove es k)
sound-remove [] k s = tt
sound-remove (e ∷ es) k s =
    cond_both (same_key e.key k) _ _ Sound (λ _. s.3)
    (λ _. (s.0, s.1, above_remove es k (rank e.key) s.2, sound-remove es k s.3))

-- lengths

pub length-put : (es : List Entry) (k : Key) (v : List ℕ) → proper k ≡ true → Sound es → length (put es k v) ≡ length es + cond (is_some (look es k)) 0 1
length-put [] k v p s = refl
length-put (e ∷ es) k v p s =
    let ih = length-put es k v p s.3 in
    let n : rank k < rank e.key → look es k ≡ None = λ h. look-below es k p s.3 (above_lower es (rank k) (rank e.key) (omega arith) s.2) in
    grind (arith, nat_tests)

pub length-remove : (es : List Entry) (k : Key) → length (remove es k) + cond (is_some (look es k)) 1 0 ≡ length es
length-remove [] k = refl
length-remove (e ∷ es) k = let ih = length-remove es k in grind (arith, nat_tests)

-- a key that has a value stands above what all stand above
pub above_some : (es : List Entry) (k : Key) (r : ℕ) → Above r es → is_some (look es k) ≡ true → r < rank k
above_some [] k r a h = cc
above_some (e ∷ es) k r a h =
    elim (cases_Bool (same_key e.key k)) [
      | inl y ↦ subst (λ (j : Key). r < rank j) (key-is e.key k y) a.0
      | inr y ↦ above_some es k r a.1 (sym (ap is_some (cond-false _ _ _ y)) ∙ h)
    ]

-- when two maps are one

-- a first entry has its value
pub look-first : (e : Entry) (es : List Entry) (k : Key) → same_key e.key k ≡ true → look (e ∷ es) k ≡ Some e.value
look-first e es k y = cond-true _ _ _ y

-- a key below the first entry has no value
pub look-before : (e : Entry) (es : List Entry) (k : Key) → proper k ≡ true → Sound (e ∷ es) → rank k < rank e.key → look (e ∷ es) k ≡ None
look-before e es k p s l = look-below (e ∷ es) k p s (l, above_lower es (rank k) (rank e.key) (omega arith) s.2)

-- the maps without their first entries agree where the maps do
look_rests : (e f : Entry) (es fs : List Entry) → Sound (e ∷ es) → Sound (f ∷ fs) → e.key ≡ f.key
    → ((j : Key) → proper j ≡ true → look (e ∷ es) j ≡ look (f ∷ fs) j)
    → (j : Key) → proper j ≡ true → look es j ≡ look fs j
look_rests e f es fs s t q h j p =
    elim (cases_Bool (same_key e.key j)) [
      | inl y ↦ (let i = key-is e.key j y in
          ap (look es) (sym i) ∙ look-below es e.key s.0 s.3 s.2
          ∙ sym (ap (look fs) (sym i ∙ q) ∙ look-below fs f.key t.0 t.3 t.2))
      | inr y ↦ sym (cond-false _ _ _ y) ∙ h j p ∙ cond-false _ _ _ (ap (λ (k : Key). same_key k j) (sym q) ∙ y)
    ]

entry-is : (e f : Entry) → e.key ≡ f.key → e.value ≡ f.value → e ≡ f
entry-is e f p q = ap (λ k. record { key = k; value = e.value }) p ∙ ap (λ v. record { key = f.key; value = v }) q

some_none : {A : Type 0} (o : Option A) (a : A) → o ≡ Some a → o ≡ None → ⊥
some_none o a p q = cc

some_is : (o : Option (List ℕ)) (a b : List ℕ) → o ≡ Some a → o ≡ Some b → a ≡ b
some_is o a b p q = cc

pub one_map : OneMap
one_map [] [] s t h = refl
one_map [] (f ∷ fs) s t h = absurd (some_none _ _ (look-first f fs f.key (same_key_refl f.key)) (sym (h f.key t.0)))
one_map (e ∷ es) [] s t h = absurd (some_none _ _ (look-first e es e.key (same_key_refl e.key)) (h e.key s.0))
one_map (e ∷ es) (f ∷ fs) s t h =
    elim (cases_order (rank e.key) (rank f.key)) [
      | inl q ↦ (
          let y : same_key e.key f.key ≡ true = same_key-rank e.key f.key s.0 t.0 ∙ eq-eqb _ _ q in
          let k = key-is e.key f.key y in
          let v = some_is _ _ _ (look-first e es f.key y) (h f.key t.0 ∙ look-first f fs f.key (same_key_refl f.key)) in
          ap (λ x. x ∷ es) (entry-is e f k v) ∙ ap (λ xs. f ∷ xs) (one_map es fs s.3 t.3 (look_rests e f es fs s t k h)))
      | inr r ↦ elim r [
        | inl l ↦ absurd (some_none _ _ (look-first e es e.key (same_key_refl e.key)) (h e.key s.0 ∙ look-before f fs e.key s.0 t l))
        | inr l ↦ absurd (some_none _ _ (look-first f fs f.key (same_key_refl f.key)) (sym (h f.key t.0) ∙ look-before e es f.key t.0 s l))
      ]
    ]

-- the next handle that has properties

-- the key of a topic's properties
abbrev props : ℕ → Key
props h = record { handle = record { 0 = h }; part = 0 }

lowest_later : (e : Entry) (es : List Entry) (after : ℕ) (r : Option ℕ) → (eqb e.key.part 0 && ltb after e.key.handle.0) ≡ false
    → Lowest es after r → Lowest (e ∷ es) after r
lowest_later e es after None c l = λ h b. (let x = l h b in grind (arith, nat_tests))
lowest_later e es after (Some n) c l =
    (l.0, (let x = l.1 in let y = l.0 in grind (arith, nat_tests)), λ h b i. l.2 h b (grind (arith, nat_tests)))

-- a first entry of properties is the lowest
lowest-first : (e : Entry) (es : List Entry) (h : ℕ) → Sound (e ∷ es) → e.key.part ≡ 0 → has_properties (e ∷ es) h ≡ true → e.key.handle.0 ≤ h
lowest-first e es h s z i =
    let m : has_properties es h ≡ true → rank e.key < rank (props h) = above_some es (props h) (rank e.key) s.2 in
    grind (arith, nat_tests)

pub lowest-next : NextIsLowest
lowest-next [] after s = λ h b. refl
lowest-next (e ∷ es) after s =
    cond_both (eqb e.key.part 0 && ltb after e.key.handle.0) _ _ (Lowest (e ∷ es) after)
    (λ c.
    let p = and_parts (eqb e.key.part 0) (ltb after e.key.handle.0) c in
    let z = eqb-true _ _ p.0 in
    (ltb-true _ _ p.1, grind (arith, nat_tests), λ h b i. lowest-first e es h s z i))
    (λ c. lowest_later e es after (next es after) c (lowest-next es after s.3))

-- two answers that are both the lowest are one
pub lowest_one : (es : List Entry) (after : ℕ) (q r : Option ℕ) → Lowest es after q → Lowest es after r → q ≡ r
lowest_one es after None None l m = refl
lowest_one es after None (Some n) l m = let x = l n m.0 in let y = m.1 in cc
lowest_one es after (Some n) None l m = let x = m n l.0 in let y = l.1 in cc
lowest_one es after (Some a) (Some b) l m = let x = l.2 b m.0 m.1 in let y = m.2 a l.0 l.1 in ap Some (omega arith)
