-- What a write or a release of one place does to the map of a table.
use Rattle.std.proofs.Common.{◌≡◌, ℕ, ◌+◌, ◌<◌, ◌≤◌, Bool, true, false, cond, not, ◌||◌, List, [], ◌∷◌, ◌++◌, length, get_or, take, drop, set, IfSome, Some, None, Option, Ok, Err, sym, refl, ap, subst, ◌∙◌, add-one, arith}
use Rattle.std.specs.Option.{option_map_or}
use Rattle.std.proofs.lemmas.List.{length-append, length-drop, set_split, take_at}
use Rattle.std.proofs.lemmas.List.Folds.{list_any-append}
use Rattle.std.proofs.lemmas.Bool.{or_parts}
use Rattle.std.proofs.lemmas.Bool.Decides.{nat_tests}
use Rattle.protocol.specs.declared.refusal.Refusal.TheVariants.{StoreFull}
use Rattle.store.specs.declared.key.Key.{Key}
use Rattle.store.specs.Held.{value_limit, same_key, look, put, put_answer, remove}
use Rattle.store.proofs.Maps.{key-is, same_key_refl, same_key_like, look-put, look-remove, sound-put, sound-remove, one_map}
use Rattle.store.proofs.Replies.{put_answers, put_full}
use Rattle.table_store.specs.declared.entry.Entry.{Entry}
use Rattle.table_store.specs.declared.place.Place.{Place}
use Rattle.table_store.specs.Places.{Fit, all_held, filled, fits, holds, kept, map_of, some_holds, tidy, well}
use Rattle.table_store.specs.Laws.{fits-parts, sound-map, tidy-parts, well-parts}
use Rattle.table_store.proofs.Tables.{around, full_for, look-place, look_none, tidy_from, well_at}

-- the place free, its bytes as they were
abbrev pub freed : Place → Place
freed p = record { held = None; value = p.value }

replaced : (ps : List Place) (i : ℕ) (q : Place) → i < length ps → set ps i q ≡ take i ps ++ q ∷ drop (i + 1) ps
replaced ps i q l = set_split ps i q l ∙ simp add-one

-- a place held by the entry of a key and a value
abbrev pub filled_for : Place → Key → List ℕ → Place
filled_for p k v = filled p (kept k v) v

-- an entry that is alone beside some places is so beside others, where no key is held there anew
alone_from : (o : Option Entry) (ps qs : List Place) → option_map_or (λ (e : Entry). some_holds ps e.key) o false ≡ false
    → ((k : Key) → option_map_or (λ (e : Entry). same_key e.key k) o false ≡ true → some_holds ps k ≡ false → some_holds qs k ≡ false)
    → option_map_or (λ (e : Entry). some_holds qs e.key) o false ≡ false
alone_from None ps qs a f = refl
alone_from (Some e) ps qs a f = f e.key (same_key_refl e.key) a

-- a place is held for a key as for the same key
holds_like : (p : Place) (k j : Key) → same_key k j ≡ true → holds p k ≡ holds p j
holds_like p k j s = ap (holds p) (key-is k j s)

-- a place that is filled with what fits, or freed, is well
well-filled : (p : Place) (k : Key) (v : List ℕ) → well p ≡ true → fits (kept k v) ≡ true → well (filled_for p k v) ≡ true
well-filled p k v w f =
    let r = (well-parts p w).room in
    let l = (fits-parts (kept k v) f).len in
    let a = length-append v (drop (length v) p.value) in
    let d = length-drop (length v) p.value in
    grind (arith, nat_tests)

well-freed : (p : Place) → well p ≡ true → well (freed p) ≡ true
well-freed p w = let r = (well-parts p w).room in grind (arith, nat_tests)

-- the place of an entry that no other place is held for
pub tidy-replaced : (xs ys : List Place) (p : Place) (k : Key) (v : List ℕ) → tidy (xs ++ p ∷ ys) ≡ true → fits (kept k v) ≡ true
    → some_holds xs k ≡ false → some_holds ys k ≡ false → tidy (xs ++ filled_for p k v ∷ ys) ≡ true
tidy-replaced [] ys p k v t w a b =
    let r = tidy-parts p ys t in
    tidy_from (filled_for p k v) ys (record { first = well-filled p k v r.first w; alone = b; rest = r.rest })
tidy-replaced (x ∷ xs) ys p k v t w a b =
    let r = tidy-parts x (xs ++ p ∷ ys) t in
    let m = or_parts (holds x k) (some_holds xs k) a in
    tidy_from x (xs ++ filled_for p k v ∷ ys) (record {
      first = r.first;
      alone = alone_from x.held (xs ++ p ∷ ys) (xs ++ filled_for p k v ∷ ys) r.alone (λ j h n.
          let e = list_any-append (λ q. holds q j) xs (p ∷ ys) in
          let f = list_any-append (λ q. holds q j) xs (filled_for p k v ∷ ys) in
          let l = holds_like x k j in
          let o = m.0 in
          grind arith);
      rest = tidy-replaced xs ys p k v r.rest w m.1 b;
    })

-- a place that is freed
pub tidy-freed : (xs ys : List Place) (p : Place) → tidy (xs ++ p ∷ ys) ≡ true → tidy (xs ++ freed p ∷ ys) ≡ true
tidy-freed [] ys p t =
    let r = tidy-parts p ys t in
    tidy_from (freed p) ys (record { first = well-freed p r.first; alone = refl; rest = r.rest })
tidy-freed (x ∷ xs) ys p t =
    let r = tidy-parts x (xs ++ p ∷ ys) t in
    tidy_from x (xs ++ freed p ∷ ys) (record {
      first = r.first;
      alone = alone_from x.held (xs ++ p ∷ ys) (xs ++ freed p ∷ ys) r.alone (λ j h n.
          let e = list_any-append (λ q. holds q j) xs (p ∷ ys) in
          let f = list_any-append (λ q. holds q j) xs (freed p ∷ ys) in
          grind arith);
      rest = tidy-freed xs ys p r.rest;
    })

-- a place that is held for one key, or free, is held for no other
only_for : (o : Option Entry) (k j : Key) → option_map_or (λ (e : Entry). same_key e.key k) o true ≡ true → same_key k j ≡ false
    → option_map_or (λ (e : Entry). same_key e.key j) o false ≡ false
only_for None k j f n = refl
only_for (Some e) k j f n = same_key_like e.key k j f ∙ n

-- a key's value written to a place that was free or held for it
pub look-written : (xs ys : List Place) (p : Place) (k : Key) (v : List ℕ) (j : Key) → some_holds xs k ≡ false
    → option_map_or (λ (e : Entry). same_key e.key k) p.held true ≡ true
    → look (map_of (xs ++ filled_for p k v ∷ ys)) j ≡ cond (same_key k j) (Some v) (look (map_of (xs ++ p ∷ ys)) j)
look-written [] ys p k v j n f =
    let lq = look-place (filled_for p k v) ys j in
    let lp = look-place p ys j in
    let e = take_at v (drop (length v) p.value) (length v) refl in
    let o : same_key k j ≡ false → holds p j ≡ false = only_for p.held k j f in grind arith
look-written (x ∷ xs) ys p k v j n f =
    let lq = look-place x (xs ++ filled_for p k v ∷ ys) j in
    let lp = look-place x (xs ++ p ∷ ys) j in
    let m = or_parts (holds x k) (some_holds xs k) n in
    let ih = look-written xs ys p k v j m.1 f in
    let l = holds_like x k j in
    let m0 = m.0 in grind arith

-- a key's place freed
pub look-freed : (xs ys : List Place) (p : Place) (k j : Key) → some_holds xs k ≡ false → some_holds ys k ≡ false
    → option_map_or (λ (e : Entry). same_key e.key k) p.held true ≡ true
    → look (map_of (xs ++ freed p ∷ ys)) j ≡ cond (same_key k j) None (look (map_of (xs ++ p ∷ ys)) j)
look-freed [] ys p k j n b h =
    let lp = look-place p ys j in
    let o : same_key k j ≡ false → holds p j ≡ false = only_for p.held k j h in
    let z : same_key k j ≡ true → look (map_of ys) j ≡ None = λ y. ap (look (map_of ys)) (sym (key-is k j y)) ∙ look_none ys k b in
    grind arith
look-freed (x ∷ xs) ys p k j n b h =
    let lq = look-place x (xs ++ freed p ∷ ys) j in
    let lp = look-place x (xs ++ p ∷ ys) j in
    let m = or_parts (holds x k) (some_holds xs k) n in
    let ih = look-freed xs ys p k j m.1 b h in
    let l = holds_like x k j in
    let m0 = m.0 in grind arith

-- a value put into a fit place
pub tidy-put : (ps : List Place) (k : Key) (v : List ℕ) (i : ℕ) (d : Place) → tidy ps ≡ true → fits (kept k v) ≡ true → Fit ps k i
    → tidy (set ps i (filled_for (get_or ps i d) k v)) ≡ true
tidy-put ps k v i d t w f =
    let p = get_or ps i d in
    rw (replaced ps i (filled_for p k v) f.0)
    (tidy-replaced (take i ps) (drop (i + 1) ps) p k v (ap tidy (sym (around ps i d f.0)) ∙ t) w f.1 f.2)

pub map-put : (ps : List Place) (k : Key) (v : List ℕ) (i : ℕ) (d : Place) → tidy ps ≡ true → fits (kept k v) ≡ true → Fit ps k i
    → map_of (set ps i (filled_for (get_or ps i d) k v)) ≡ put (map_of ps) k v
map-put ps k v i d t w f =
    let p = get_or ps i d in
    let q = filled_for p k v in
    let e = fits-parts (kept k v) w in
    one_map (map_of (set ps i q)) (put (map_of ps) k v)
    (sound-map (set ps i q) (tidy-put ps k v i d t w f)) (sound-put (map_of ps) k v e.key e.len (sound-map ps t))
    (λ j _. ap (λ xs. look (map_of xs) j) (replaced ps i q f.0)
    ∙ look-written (take i ps) (drop (i + 1) ps) p k v j f.1 (f.3 d)
    ∙ ap (λ xs. cond (same_key k j) (Some v) (look (map_of xs) j)) (sym (around ps i d f.0))
    ∙ sym (look-put (map_of ps) k v j))

-- a key's place freed
pub tidy-remove : (ps : List Place) (i : ℕ) (d : Place) → tidy ps ≡ true → i < length ps → tidy (set ps i (freed (get_or ps i d))) ≡ true
tidy-remove ps i d t l =
    let p = get_or ps i d in
    rw (replaced ps i (freed p) l) (tidy-freed (take i ps) (drop (i + 1) ps) p (ap tidy (sym (around ps i d l)) ∙ t))

pub map-remove : (ps : List Place) (k : Key) (i : ℕ) (d : Place) → tidy ps ≡ true → Fit ps k i
    → map_of (set ps i (freed (get_or ps i d))) ≡ remove (map_of ps) k
map-remove ps k i d t f =
    let p = get_or ps i d in
    let q = freed p in
    one_map (map_of (set ps i q)) (remove (map_of ps) k)
    (sound-map (set ps i q) (tidy-remove ps i d t f.0)) (sound-remove (map_of ps) k (sound-map ps t))
    (λ j _. ap (λ xs. look (map_of xs) j) (replaced ps i q f.0)
    ∙ look-freed (take i ps) (drop (i + 1) ps) p k j f.1 f.2 (f.3 d)
    ∙ ap (λ xs. cond (same_key k j) None (look (map_of xs) j)) (sym (around ps i d f.0))
    ∙ sym (look-remove (map_of ps) k j (sound-map ps t)))

-- what a write to a place asks: the value is within the limit, and the place has room for it
pub fits-in : (ps : List Place) (k : Key) (v : List ℕ) (i : ℕ) (d : Place) (e : Entry) (r : Option ℕ) → tidy ps ≡ true → (e ≡ kept k v) × (fits e ≡ true)
    → r ≡ Some i → IfSome r (Fit ps k) → (length v ≤ value_limit) × (length (get_or ps i d).value ≡ value_limit)
fits-in ps k v i d e r t h s f =
    let w = ap fits (sym h.0) ∙ h.1 in
    let g : Fit ps k i = subst (λ o. IfSome o (Fit ps k)) s f in
    ((fits-parts (kept k v) w).len, (well-parts (get_or ps i d) (well_at ps i d t g.0)).room)

-- what a put leaves, where it found room
pub record Written (ps : List Place) (k : Key) (v : List ℕ) (i : ℕ) (q : Place) : Type 0 where
  pub neat : tidy (set ps i q) ≡ true
  pub map : map_of (set ps i q) ≡ put (map_of ps) k v

pub written : (ps : List Place) (k : Key) (v : List ℕ) (i : ℕ) (d q : Place) (e : Entry) (r : Option ℕ) → tidy ps ≡ true → (e ≡ kept k v) × (fits e ≡ true)
    → q ≡ filled (get_or ps i d) e v → r ≡ Some i → IfSome r (Fit ps k) → Written ps k v i q
written ps k v i d q e r t h m s f =
    let w = ap fits (sym h.0) ∙ h.1 in
    let g : Fit ps k i = subst (λ o. IfSome o (Fit ps k)) s f in
    let n = m ∙ ap (λ (a : Entry). filled (get_or ps i d) a v) h.0 in
    record {
      neat = ap (λ a. tidy (set ps i a)) n ∙ tidy-put ps k v i d t w g;
      map = ap (λ a. map_of (set ps i a)) n ∙ map-put ps k v i d t w g;
    }

-- what a put answers: whether it found room
pub put_told : (ps : List Place) (n : ℕ) (k : Key) (v : List ℕ) (e : Entry) (b : Bool) → tidy ps ≡ true → length ps ≡ n → (e ≡ kept k v) × (fits e ≡ true)
    → b ≡ (some_holds ps k || not (all_held ps)) → put_answer (map_of ps) n k v ≡ cond b (Ok tt) (Err StoreFull)
put_told ps n k v e true t l h b =
    let f = fits-parts (kept k v) (ap fits (sym h.0) ∙ h.1) in
    put_answers (map_of ps) n k v f.key f.len (full_for ps n k true t l f.key b)
put_told ps n k v e false t l h b =
    let f = fits-parts (kept k v) (ap fits (sym h.0) ∙ h.1) in
    put_full (map_of ps) n k v f.key f.len (full_for ps n k false t l f.key b)
