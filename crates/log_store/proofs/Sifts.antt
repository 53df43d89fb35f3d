-- A log while entries are squeezed out: what is not yet looked at in front, and what stays at the end.
use Rattle.std.proofs.Common.{◌≡◌, ℕ, ◌+◌, ◌-◌, ◌≤◌, Bool, true, false, cond, List, [], ◌∷◌, ◌++◌, length, take, drop, sym, refl, ap, ◌∙◌, subst, append_assoc, arith, length-drop}
use Rattle.std.proofs.lemmas.List.{append-nil, length-take-le, take_all, take-append-le, drop_all, drop_at, drop-take, take_at, take_rest, take-take}
use Rattle.std.proofs.Math.Seq.{paste}
use Rattle.std.proofs.lemmas.List.Edits.{length-paste}
use Rattle.std.specs.List.{copy_within}
use Rattle.std.proofs.lemmas.Bool.{and_from, and_parts}
use Rattle.store.specs.declared.key.Key.{Key}
use Rattle.store.specs.Held.{Entry}
use Rattle.log_store.specs.Format.{encoded, entry_bytes, entries, fit, all_fit, Holds, Log}
use Rattle.log_store.specs.Logs.{kept}
use Rattle.log_store.proofs.Format.{entries_are, entries_none, log_from, log_none}
use Rattle.log_store.proofs.Walks.{newest}

-- an entry older than all others lies in front of them
pub encoded-oldest : (es : List Entry) (e : Entry) → encoded (es ++ e ∷ []) ≡ entry_bytes e ++ encoded es
encoded-oldest [] e = sym (append-nil (entry_bytes e))
encoded-oldest (x ∷ xs) e = ap (λ bs. bs ++ entry_bytes x) (encoded-oldest xs e) ∙ append_assoc (entry_bytes e) (encoded xs) (entry_bytes x)

pub fit-oldest : (es : List Entry) (e : Entry) → all_fit es ≡ true → fit e ≡ true → all_fit (es ++ e ∷ []) ≡ true
fit-oldest [] e a f = and_from (fit e) true f refl
fit-oldest (x ∷ xs) e a f = let p = and_parts (fit x) (all_fit xs) a in and_from (fit x) (all_fit (xs ++ e ∷ [])) p.0 (fit-oldest xs e p.1 f)

-- up to `end` is not yet looked at, and from `top` on stays
pub record Sifting (was bs : List ℕ) (end top : ℕ) (stays : List Entry → Key → Bool) : Type 0 where
  pub long : length bs ≡ length was
  pub below : end ≤ top
  pub within : top ≤ length bs
  pub front : Log (take end bs)
  pub back : Log (drop top bs)
  pub same : kept stays (entries (drop top bs)) (entries (take end bs)) ≡ kept stays [] (entries was)

-- the newest entry of what is not yet looked at, which ends at `end`
pub record Step (bs : List ℕ) (end : ℕ) (e : Entry) (es : List Entry) : Type 0 where
  pub room : length e.value + 7 ≤ end
  pub fits : fit e ≡ true
  pub log : Log (take (end - (length e.value + 7)) bs)
  pub left : entries (take (end - (length e.value + 7)) bs) ≡ es
  pub last : take (length e.value + 7) (drop (end - (length e.value + 7)) bs) ≡ entry_bytes e

step : (bs : List ℕ) (end : ℕ) (e : Entry) (es : List Entry) → end ≤ length bs → Log (take end bs) → entries (take end bs) ≡ e ∷ es → Step bs end e es
step bs end e es l h i =
    let n = newest (take end bs) e es h i in
    let long : length (take end bs) ≡ end = length-take-le end bs l in
    let r = n.room in
    let size = length e.value + 7 in
    let from = end - size in
    let m : length (encoded es) ≡ from = omega arith in
    let before : take from bs ≡ encoded es
    = sym (take-take from end bs (omega arith)) ∙ ap (take from) (sym n.bytes) ∙ take_at (encoded es) (entry_bytes e) from m in
    let holds : Holds (take from bs) es = record { bytes = sym before; fits = n.older } in
    record {
      room = omega arith;
      fits = n.fits;
      log = log_from _ _ holds;
      left = entries_are _ _ holds;
      last = sym (drop-take from size bs) ∙ ap (λ k. drop from (take k bs)) {x = from + size} {y = end} (omega arith) ∙ ap (drop from) (sym n.bytes) ∙ drop_at (encoded es) (entry_bytes e) from m;
    }

pub sift_start : (was : List ℕ) (stays : List Entry → Key → Bool) → Log was → Sifting was was (length was) (length was) stays
sift_start was stays h =
    let t = take_all (length was) was (omega arith) in
    let d = drop_all (length was) was (omega arith) in
    record {
      long = refl;
      below = omega arith;
      within = omega arith;
      front = subst Log (sym t) h;
      back = subst Log (sym d) log_none;
      same = ap (λ x. kept stays (entries x) (entries (take (length was) was))) d ∙ ap (λ x. kept stays x (entries (take (length was) was))) entries_none ∙ ap (λ x. kept stays [] (entries x)) t;
    }

-- a turn of the loop, which read the newest entry off the bytes `rest`
module _ {was bs rest : List ℕ} {end top : ℕ} {stays : List Entry → Key → Bool} {e : Entry} {es : List Entry} (s : Sifting was bs end top stays) (r : rest ≡ take end bs) (i : entries rest ≡ e ∷ es) where
  pub sift_next : Step bs end e es
  sift_next = let b = s.below in let w = s.within in step bs end e es (omega arith) s.front (ap entries (sym r) ∙ i)

  pub sift_drop : {newer : List ℕ} → newer ≡ take (length bs - top) (drop top bs) → stays (entries newer) e.key ≡ false → Sifting was bs (end - (length e.value + 7)) top stays
  sift_drop w h =
      let n = sift_next in
      let b = s.below in
      let left = entries (drop top bs) in
      let go : stays left e.key ≡ false = ap (λ x. stays (entries x) e.key) (sym (w ∙ take_rest bs top)) ∙ h in
      record {
        long = s.long;
        below = omega arith;
        within = s.within;
        front = n.log;
        back = s.back;
        same = ap (kept stays left) n.left ∙ sym (ap (kept stays left) (ap entries (sym r) ∙ i) ∙ ap (λ b. kept stays (cond b (left ++ e ∷ []) left) es) go) ∙ s.same;
      }

  pub sift_keep : {newer : List ℕ} → newer ≡ take (length bs - top) (drop top bs) → stays (entries newer) e.key ≡ true → (xs : List ℕ)
      → xs ≡ copy_within bs (end - (length e.value + 7)) end (top - (length e.value + 7)) → Sifting was xs (end - (length e.value + 7)) (top - (length e.value + 7)) stays
  sift_keep w h xs q =
      let n = sift_next in
      let b = s.below in
      let t = s.within in
      let o = n.room in
      let size = length e.value + 7 in
      let from = end - size in
      let left = entries (drop top bs) in
      let go : stays left e.key ≡ true = ap (λ x. stays (entries x) e.key) (sym (w ∙ take_rest bs top)) ∙ h in
      let at : length (take (top - size) bs) ≡ top - size = length-take-le (top - size) bs (omega arith) in
      let behind = take size (drop from bs) ++ drop (top - size + size) bs in
      let is : xs ≡ take (top - size) bs ++ behind
      = q ∙ ap (λ k. paste bs (top - size) (drop from bs) k) {x = end - from} {y = size} (omega arith) ∙ append_assoc (take (top - size) bs) (take size (drop from bs)) (drop (top - size + size) bs) in
      let front : take from xs ≡ take from bs
      = ap (take from) is ∙ take-append-le from (take (top - size) bs) behind (omega arith) ∙ take-take from (top - size) bs (omega arith) in
      let back : drop (top - size) xs ≡ encoded (left ++ e ∷ [])
      = ap (drop (top - size)) is ∙ drop_at (take (top - size) bs) behind (top - size) at
      ∙ ap (λ x. x ++ drop (top - size + size) bs) n.last ∙ ap (λ k. entry_bytes e ++ drop k bs) {x = top - size + size} {y = top} (omega arith)
      ∙ ap (λ x. entry_bytes e ++ x) (sym s.back.bytes) ∙ sym (encoded-oldest left e) in
      let holds : Holds (drop (top - size) xs) (left ++ e ∷ []) = record { bytes = sym back; fits = fit-oldest left e s.back.fits n.fits } in
      let long : length xs ≡ length bs = ap length q ∙ length-paste bs (top - size) (drop from bs) (end - from) (omega arith) (omega (arith, length-drop from bs)) in
      record {
        long = long ∙ s.long;
        below = omega arith;
        within = omega arith;
        front = subst Log (sym front) n.log;
        back = log_from _ _ holds;
        same = ap (λ x. kept stays x (entries (take from xs))) (entries_are _ _ holds) ∙ ap (λ x. kept stays (left ++ e ∷ []) (entries x)) front ∙ ap (kept stays (left ++ e ∷ [])) n.left
            ∙ sym (ap (kept stays left) (ap entries (sym r) ∙ i) ∙ ap (λ b. kept stays (cond b (left ++ e ∷ []) left) es) go) ∙ s.same;
      }
