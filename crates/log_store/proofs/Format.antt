-- What is read from the end of a log: the parts of the newest entry, and the log before it.
use Rattle.std.proofs.Common.{◌≡◌, ℕ, zero, suc, ◌+◌, ◌-◌, ◌<◌, ◌≤◌, true, leb, List, [], ◌∷◌, ◌++◌, length, get_or, take, drop, sym, refl, ap, ◌∙◌, append_assoc, arith, length-append}
use Rattle.protocol.proofs.Bytes.{number_be}
use Rattle.protocol.specs.Bytes.{be_bytes, be_number}
use Rattle.std.proofs.lemmas.List.{get_or-take, get_or-append-add, length-take-le, take_all, take_at, drop_at, take-append-drop}
use Rattle.std.proofs.lemmas.Bool.{le-leb, lt-leb, cond-true, cond-false}
use Rattle.store.specs.declared.key.Key.{Key}
use Rattle.store.specs.Held.{Entry}
use Rattle.log_store.specs.Laws.{fit_parts, fit-first, fit-rest}
use Rattle.log_store.specs.Format.{trailer, entry_bytes, encoded, key_at, len_at, entry_at, parsed, entries, fit, all_fit, Holds, Log}

pub length-trailer : (k : Key) (n : ℕ) → length (trailer k n) ≡ 7
unfolding trailer
length-trailer k n = refl

pub length-entry : (e : Entry) → length (entry_bytes e) ≡ length e.value + 7
length-entry e = length-append e.value (trailer e.key (length e.value)) ∙ ap (λ n. length e.value + n) (length-trailer e.key (length e.value))

-- what is read at the end of bytes that end with a trailer
module _ (bs p : List ℕ) (k : Key) (n end : ℕ) (lies : take end bs ≡ p ++ trailer k n) (ends : end ≡ length p + 7) where
  byte : (i : ℕ) → i < 7 → get_or bs (end - (7 - i)) 0 ≡ get_or (trailer k n) i 0
  byte i l =
      sym (get_or-take end bs (end - (7 - i)) 0 (omega arith))
      ∙ ap (λ x. get_or x (end - (7 - i)) 0) lies
      ∙ ap (λ j. get_or (p ++ trailer k n) j 0) (omega arith)
      ∙ get_or-append-add p (trailer k n) i 0

  pub trailer-key : k.handle.0 < 4294967296 → key_at bs end ≡ k
  unfolding trailer key_at
  trailer-key h =
      let a = byte 0 (omega arith) in
      let b = byte 1 (omega arith) in
      let c = byte 2 (omega arith) in
      let d = byte 3 (omega arith) in
      let g = byte 4 (omega arith) in
      let handles : be_number (get_or bs (end - 7) 0 ∷ get_or bs (end - 6) 0 ∷ get_or bs (end - 5) 0 ∷ get_or bs (end - 4) 0 ∷ []) ≡ k.handle.0
      = ap (λ x. be_number (x ∷ get_or bs (end - 6) 0 ∷ get_or bs (end - 5) 0 ∷ get_or bs (end - 4) 0 ∷ [])) a
      ∙ ap (λ x. be_number (get_or (be_bytes 4 k.handle.0) 0 0 ∷ x ∷ get_or bs (end - 5) 0 ∷ get_or bs (end - 4) 0 ∷ [])) b
      ∙ ap (λ x. be_number (get_or (be_bytes 4 k.handle.0) 0 0 ∷ get_or (be_bytes 4 k.handle.0) 1 0 ∷ x ∷ get_or bs (end - 4) 0 ∷ [])) c
      ∙ ap (λ x. be_number (get_or (be_bytes 4 k.handle.0) 0 0 ∷ get_or (be_bytes 4 k.handle.0) 1 0 ∷ get_or (be_bytes 4 k.handle.0) 2 0 ∷ x ∷ [])) d
      ∙ number_be 4 k.handle.0 h in
      ap (λ x. record { handle = record { 0 = x }; part = get_or bs (end - 3) 0 }) handles
      ∙ ap (λ x. record { handle = k.handle; part = x }) g

  pub trailer-len : n < 65536 → len_at bs end ≡ n
  unfolding trailer len_at
  trailer-len h =
      let a = byte 5 (omega arith) in
      let b = byte 6 (omega arith) in
      ap (λ x. be_number (x ∷ get_or bs (end - 1) 0 ∷ [])) a
      ∙ ap (λ x. be_number (get_or (be_bytes 2 n) 0 0 ∷ x ∷ [])) b
      ∙ number_be 2 n h

-- the newest entry of a log that ends at a place, and the log before it
pub record Top (bs : List ℕ) (end : ℕ) (e : Entry) (older : List Entry) : Type 0 where
  pub key : key_at bs end ≡ e.key
  pub len : len_at bs end ≡ length e.value
  pub room : length e.value + 7 ≤ end
  pub before : take (end - 7 - length e.value) bs ≡ encoded older
  pub value : take (length e.value) (drop (end - 7 - length e.value) bs) ≡ e.value

pub top_of : (bs : List ℕ) (end : ℕ) (e : Entry) (es : List Entry) → end ≤ length bs → take end bs ≡ encoded (e ∷ es) → fit e ≡ true → Top bs end e es
top_of bs end e es l h f =
    let p = fit_parts e f in
    let t = trailer e.key (length e.value) in
    let n : end ≡ length (encoded es) + (length e.value + 7) = sym (length-take-le end bs l) ∙ ap length h ∙ length-append (encoded es) (entry_bytes e) ∙ ap (λ k. length (encoded es) + k) (length-entry e) in
    let m : end - 7 - length e.value ≡ length (encoded es) = omega arith in
    let i : take end bs ≡ (encoded es ++ e.value) ++ t = h ∙ sym (append_assoc (encoded es) e.value t) in
    let j : end ≡ length (encoded es ++ e.value) + 7 = n ∙ omega (arith, length-append (encoded es) e.value) in
    let split : bs ≡ encoded es ++ (entry_bytes e ++ drop end bs) = sym (take-append-drop end bs) ∙ ap (λ x. x ++ drop end bs) h ∙ append_assoc (encoded es) (entry_bytes e) (drop end bs) in
    let rest : drop (end - 7 - length e.value) bs ≡ entry_bytes e ++ drop end bs = ap (λ k. drop k bs) m ∙ ap (drop (length (encoded es))) split ∙ drop_at (encoded es) (entry_bytes e ++ drop end bs) (length (encoded es)) refl in
    record {
      key = trailer-key bs (encoded es ++ e.value) e.key (length e.value) end i j p.handle;
      len = trailer-len bs (encoded es ++ e.value) e.key (length e.value) end i j (let s = p.short in omega arith);
      room = omega arith;
      before = ap (λ k. take k bs) m ∙ ap (take (length (encoded es))) split ∙ take_at (encoded es) (entry_bytes e ++ drop end bs) (length (encoded es)) refl;
      value = ap (take (length e.value)) (rest ∙ append_assoc e.value t (drop end bs)) ∙ take_at e.value (t ++ drop end bs) (length e.value) refl;
    }

-- as many entries as are asked for are read back
pub parsed-encoded : (f : ℕ) (es : List Entry) → all_fit es ≡ true → length es ≤ f → parsed f (encoded es) ≡ es
unfolding parsed
parsed-encoded zero [] a l = refl
parsed-encoded zero (e ∷ es) a l = absurd (omega arith)
parsed-encoded (suc f) [] a l = cond-false _ _ _ (lt-leb (len_at [] 0 + 7) 0 (omega arith))
parsed-encoded (suc f) (e ∷ es) a l =
    let bs = encoded (e ∷ es) in
    let t = top_of bs (length bs) e es (omega arith) (take_all (length bs) bs (omega arith)) (fit-first e es a) in
    let r = t.room in
    let n = t.len in
    let b : leb (len_at bs (length bs) + 7) (length bs) ≡ true = le-leb _ _ (omega arith) in
    cond-true _ _ _ b
    ∙ ap (λ k. entry_at bs (length bs) ∷ parsed f (take (length bs - 7 - k) bs)) n
    ∙ ap (λ x. entry_at bs (length bs) ∷ parsed f x) t.before
    ∙ ap (λ x. entry_at bs (length bs) ∷ x) (parsed-encoded f es (fit-rest e es a) (omega arith))
    ∙ ap (λ k. record { key = key_at bs (length bs); value = take k (drop (length bs - 7 - k) bs) } ∷ es) n
    ∙ ap (λ v. record { key = key_at bs (length bs); value = v } ∷ es) t.value
    ∙ ap (λ k. record { key = k; value = e.value } ∷ es) t.key

entries_fewer : (es : List Entry) → length es ≤ length (encoded es)
entries_fewer [] = omega arith
entries_fewer (e ∷ es) = let ih = entries_fewer es in omega (arith, length-append (encoded es) (entry_bytes e), length-entry e)

-- the bytes of fit entries are read back as those entries
pub entries_are : (bs : List ℕ) (es : List Entry) → Holds bs es → entries bs ≡ es
unfolding entries
entries_are bs es h = ap (λ x. parsed (length x) x) (sym h.bytes) ∙ parsed-encoded (length (encoded es)) es h.fits (entries_fewer es)

pub log_from : (bs : List ℕ) (es : List Entry) → Holds bs es → Log bs
log_from bs es h = let e = entries_are bs es h in record { bytes = ap encoded e ∙ h.bytes; fits = ap all_fit e ∙ h.fits }

pub entries_none : entries [] ≡ []
unfolding entries parsed
entries_none = refl

pub log_none : Log []
log_none = log_from [] [] (record { bytes = refl; fits = refl })
