-- A walk back over a log: what its last entry is, what is left in front of it, and what a walk finds.
use Rattle.std.proofs.Common.{◌≡◌, ℕ, ◌+◌, ◌-◌, ◌<◌, ◌≤◌, true, ◌||◌, inl, inr, List, [], ◌∷◌, ◌++◌, length, take, drop, is_some, Some, None, Option, Bor, sym, refl, ap, ◌∙◌, subst, append_assoc, arith, length-append}
use Rattle.std.proofs.lemmas.List.{drop_at, take_at, take_all}
use Rattle.std.proofs.lemmas.Bool.{cases_Bool, cond-true, cond-false, cond_both}
use Rattle.std.specs.List.{find, list_any}
use Rattle.std.specs.Option.{IfSome, IsSomeAnd, MatchOption, option_map}
use Rattle.store.specs.declared.key.Key.{Key}
use Rattle.store.specs.Held.{Entry as HeldEntry}
use Rattle.store.specs.Held.{look, same_key}
use Rattle.log_store.specs.declared.entries.Entry.{Entry}
use Rattle.log_store.specs.Entries.{entry_of}
use Rattle.log_store.specs.Format.{all_fit, encoded, entries, entry_bytes, fit, key_at, len_at, trailer, Holds, Log}
use Rattle.log_store.specs.Laws.{fit-first, fit-rest, fit_parts}
use Rattle.log_store.proofs.Format.{entries_are, length-entry, length-trailer, log_from, trailer-key, trailer-len}

-- bytes that end with the entry e, and are those of es before
pub record Newest (bs : List ℕ) (e : HeldEntry) (es : List HeldEntry) : Type 0 where
  pub fits : fit e ≡ true
  pub older : all_fit es ≡ true
  pub room : length (encoded es) + (length e.value + 7) ≡ length bs
  pub bytes : encoded es ++ entry_bytes e ≡ bs

pub newest : (bs : List ℕ) (e : HeldEntry) (es : List HeldEntry) → Log bs → entries bs ≡ e ∷ es → Newest bs e es
newest bs e es l i =
    let h : Holds bs (e ∷ es) = subst (Holds bs) i l in
    record {
      fits = fit-first e es h.fits;
      older = fit-rest e es h.fits;
      room = omega (arith, ap length h.bytes, length-append (encoded es) (entry_bytes e), length-entry e);
      bytes = h.bytes;
    }

-- a log that is too short for an entry has none
none_in : (bs : List ℕ) (es : List HeldEntry) → Holds bs es → length bs < 7 → es ≡ []
none_in bs [] h l = refl
none_in bs (e ∷ es) h l = absurd (omega (arith, ap length h.bytes, length-append (encoded es) (entry_bytes e), length-entry e))

pub no-entries : (bs : List ℕ) → Log bs → length bs < 7 → entries bs ≡ []
no-entries bs h l = none_in bs (entries bs) h l

-- the newest entry, split off: its trailer last, and its value at the end of what stands before
pub record Split (bs front : List ℕ) (key : Key) (len : ℕ) : Type 0 where
  pub room : len ≤ length front
  pub log : Log (take (length front - len) front)
  pub is : entries bs ≡ record { key = key; value = drop (length front - len) front } ∷ entries (take (length front - len) front)

split_in : (bs front last : List ℕ) (key : Key) (len : ℕ) (es : List HeldEntry) → Holds bs es → entries bs ≡ es → 7 ≤ length bs → front ≡ take (length bs - 7) bs → last ≡ drop (length bs - 7) bs
    → key ≡ key_at last 7 → len ≡ len_at last 7 → Split bs front key len
split_in bs front last key len [] h i l f g k n = absurd (omega (arith, ap length h.bytes))
split_in bs front last key len (e ∷ es) h i l f g k n =
    let p = fit_parts e (fit-first e es h.fits) in
    let t = trailer e.key (length e.value) in
    let b : bs ≡ (encoded es ++ e.value) ++ t = sym h.bytes ∙ sym (append_assoc (encoded es) e.value t) in
    let long : length (encoded es ++ e.value) ≡ length bs - 7
    = omega (arith, ap length b, length-append (encoded es ++ e.value) t, length-trailer e.key (length e.value)) in
    let f2 : front ≡ encoded es ++ e.value = f ∙ ap (take (length bs - 7)) b ∙ take_at (encoded es ++ e.value) t (length bs - 7) long in
    let g2 : last ≡ t = g ∙ ap (drop (length bs - 7)) b ∙ drop_at (encoded es ++ e.value) t (length bs - 7) long in
    let all : take 7 t ≡ [] ++ t = take_all 7 t (omega (arith, length-trailer e.key (length e.value))) in
    let s = p.short in
    let k2 : key ≡ e.key = k ∙ ap (λ x. key_at x 7) g2 ∙ trailer-key t [] e.key (length e.value) 7 all refl p.handle in
    let n2 : len ≡ length e.value = n ∙ ap (λ x. len_at x 7) g2 ∙ trailer-len t [] e.key (length e.value) 7 all refl (omega arith) in
    let m : length (encoded es) ≡ length front - len = omega (arith, ap length f2, length-append (encoded es) e.value) in
    let before : take (length front - len) front ≡ encoded es = ap (take (length front - len)) f2 ∙ take_at (encoded es) e.value (length front - len) m in
    let value : drop (length front - len) front ≡ e.value = ap (drop (length front - len)) f2 ∙ drop_at (encoded es) e.value (length front - len) m in
    let rest : Holds (take (length front - len) front) es = record { bytes = sym before; fits = fit-rest e es h.fits } in
    record {
      room = omega (arith, ap length f2, length-append (encoded es) e.value);
      log = log_from _ _ rest;
      is = i ∙ ap (λ v. record { key = e.key; value = v } ∷ es) (sym value) ∙ ap (λ j. record { key = j; value = drop (length front - len) front } ∷ es) (sym k2)
          ∙ ap (λ os. record { key = key; value = drop (length front - len) front } ∷ os) (sym (entries_are _ _ rest));
    }

pub split : {bs front last : List ℕ} {key : Key} {len : ℕ} → Log bs → (front ≡ take (length bs - 7) bs) × (last ≡ drop (length bs - 7) bs) × (length front + 7 ≡ length bs)
    → key ≡ key_at last 7 → len ≡ len_at last 7 → Split bs front key len
split {bs} {front} {last} {key} {len} h f k n = split_in bs front last key len (entries bs) h refl (omega (arith, f.2)) f.0 f.1 k n

-- the value of a key is that of the first entry of the key
pub look-find : (es : List HeldEntry) (k : Key) → look es k ≡ option_map (λ e. e.value) (find (λ e. same_key e.key k) es)
look-find [] k = refl
look-find (e ∷ es) k =
    elim (cases_Bool (same_key e.key k)) [
      | inl y ↦ cond-true _ _ _ y ∙ sym (ap (option_map (λ e. e.value)) (cond-true _ _ _ y))
      | inr y ↦ cond-false _ _ _ y ∙ look-find es k ∙ sym (ap (option_map (λ e. e.value)) (cond-false _ _ _ y))
    ]

-- a key has a value where some entry is of the key
pub look-any : (es : List HeldEntry) (k : Key) → is_some (look es k) ≡ list_any (λ e. same_key e.key k) es
look-any [] k = refl
look-any (e ∷ es) k =
    elim (cases_Bool (same_key e.key k)) [
      | inl y ↦ ap is_some (cond-true _ _ _ y) ∙ sym (ap (λ b. b || list_any (λ x. same_key x.key k) es) y)
      | inr y ↦ ap is_some (cond-false _ _ _ y) ∙ look-any es k ∙ sym (ap (λ b. b || list_any (λ x. same_key x.key k) es) y)
    ]

-- the value of an entry that a search found
pub value_found : {R : Entry → Bor (List ℕ) → Type 0} (r : Option Entry) (q : Option (Bor (List ℕ))) → MatchOption r (q ≡ None) (λ x. IsSomeAnd q (R x)) → ((x : Entry) (v : Bor (List ℕ)) → R x v → v ≡ x.value)
    → option_map (λ v. v.now) q ≡ option_map (λ e. e.value) (option_map entry_of r)
value_found None q h t = ap (option_map (λ v. v.now)) h
value_found (Some x) None h t = absurd h
value_found (Some x) (Some v) h t = ap (λ b. Some b.now) (t x v h)

-- a value that is kept is within the limit
pub look_short : (es : List HeldEntry) (k : Key) → all_fit es ≡ true → IfSome (look es k) (λ v. length v ≤ 576)
look_short [] k a = tt
look_short (e ∷ es) k a =
    cond_both (same_key e.key k) (Some e.value) (look es k) (λ o. IfSome o (λ v. length v ≤ 576)) (λ _. (fit_parts e (fit-first e es a)).short) (λ _. look_short es k (fit-rest e es a))

pub short_part : (r : Option (Bor (List ℕ))) (o : Option (List ℕ)) → option_map (λ v. v.now) r ≡ o → IfSome o (λ v. length v ≤ 576) → IfSome r (λ v. length v.now ≤ 576)
short_part None o e h = tt
short_part (Some v) o e h = let P : Option (List ℕ) → Type 0 = λ o. IfSome o (λ v. length v ≤ 576) in subst P (sym e) h
