-- What a scan of the places finds: the first that passes a test, the place of a key, and a free place.
use Rattle.std.proofs.Common.{◌≡◌, ℕ, ◌+◌, ◌<◌, Bool, true, false, not, ◌||◌, ltb, List, [], ◌∷◌, ◌++◌, length, get_or, take, drop, is_none, is_some, IfSome, Some, None, Option, refl, sym, ap, ◌∙◌, arith}
use Rattle.std.specs.List.{list_any, position, position_or_len}
use Rattle.std.specs.Option.{option_map_or, option_or}
use Rattle.std.proofs.lemmas.Bool.{cond-true, cond-false, ltb-true, ltb-false, or_parts}
use Rattle.std.proofs.lemmas.List.{get_or_default, get_or-take, length-take}
use Rattle.std.proofs.lemmas.List.Folds.{list_any-append, list_any-from_Any, list_any_none}
use Rattle.std.proofs.lemmas.List.Quantifiers.{position-Some}
use Rattle.std.proofs.lemmas.List.Sums.{fails_before_first}
use Rattle.std.proofs.lemmas.Option.{cond_some}
use Rattle.store.specs.declared.key.Key.{Key}
use Rattle.store.specs.Held.{look, same_key}
use Rattle.store.proofs.Maps.{key-is}
use Rattle.table_store.specs.declared.entry.Entry.{Entry}
use Rattle.table_store.specs.declared.place.Place.{Place}
use Rattle.table_store.specs.Laws.{tidy-parts}
use Rattle.table_store.specs.Places.{Fit, all_held, holds, map_of, some_holds, tidy, value_of}
use Rattle.table_store.proofs.Tables.{any_place, around, look-place, look_none}

-- i is the first place that passes
pub record Found {X : Type 0} (p : X → Bool) (xs : List X) (i : ℕ) : Type 0 where
  pub inside : i < length xs
  pub before : list_any p (take i xs) ≡ false
  pub here : (d : X) → p (get_or xs i d) ≡ true

pub found : {X : Type 0} (p : X → Bool) (xs : List X) (i : ℕ) → position p xs ≡ Some i → Found p xs i
found p xs i e =
    let s = cond_some (ltb (position_or_len p xs) (length xs)) (position_or_len p xs) i e in
    let l = ltb-true _ _ s.0 in
    let q = s.1 in
    record {
      inside = omega arith;
      before = list_any_none p (take i xs) (λ k d b.
          let t = length-take i xs in
          let u : k < i = omega arith in
          ap p (get_or-take i xs k d u) ∙ (position-Some p xs i d e).2 k u);
      here = λ d. (position-Some p xs i d e).1;
    }

-- no place passes
pub nowhere : {X : Type 0} (p : X → Bool) (xs : List X) → position p xs ≡ None → list_any p xs ≡ false
nowhere p xs e =
    let b : ltb (position_or_len p xs) (length xs) ≡ false = grind arith in
    let l = ltb-false _ _ b in
    list_any_none p xs (λ k d u. fails_before_first p xs k d (omega arith))

-- every place is held exactly if none is free
pub all_held-is : (ps : List Place) → all_held ps ≡ not (list_any (λ (p : Place). is_none p.held) ps)
all_held-is [] = refl
all_held-is (p ∷ ps) = let ih = all_held-is ps in grind arith

-- no place behind one that is held for a key is held for that key
alone_for : (o : Option Entry) (ps : List Place) (k : Key) → option_map_or (λ (e : Entry). some_holds ps e.key) o false ≡ false
    → option_map_or (λ (e : Entry). same_key e.key k) o false ≡ true → some_holds ps k ≡ false
alone_for None ps k a h = cc
alone_for (Some e) ps k a h = sym (ap (some_holds ps) (key-is e.key k h)) ∙ a

tidy_behind : (xs ys : List Place) (p : Place) (k : Key) → tidy (xs ++ p ∷ ys) ≡ true → holds p k ≡ true → some_holds ys k ≡ false
tidy_behind [] ys p k t h = alone_for p.held ys k (tidy-parts p ys t).alone h
tidy_behind (x ∷ xs) ys p k t h = tidy_behind xs ys p k (tidy-parts x (xs ++ p ∷ ys) t).rest h

pub behind : (ps : List Place) (k : Key) (i : ℕ) → tidy ps ≡ true → Found (λ p. holds p k) ps i → some_holds (drop (i + 1) ps) k ≡ false
behind ps k i t f = tidy_behind (take i ps) (drop (i + 1) ps) (get_or ps i any_place) k (ap tidy (sym (around ps i any_place f.inside)) ∙ t) (f.here any_place)

-- the place of a key is fit for a put
held_for : (o : Option Entry) (k : Key) → option_map_or (λ (e : Entry). same_key e.key k) o false ≡ true → option_map_or (λ (e : Entry). same_key e.key k) o true ≡ true
held_for None k h = refl
held_for (Some e) k h = h

pub fit-found : (ps : List Place) (k : Key) (i : ℕ) → tidy ps ≡ true → Found (λ p. holds p k) ps i → Fit ps k i
fit-found ps k i t f = (f.inside, f.before, behind ps k i t f, λ d. held_for (get_or ps i d).held k (f.here d))

-- a free place is fit for a put of a new key
free_for : (o : Option Entry) (k : Key) → is_none o ≡ true → option_map_or (λ (e : Entry). same_key e.key k) o true ≡ true
free_for None k h = refl
free_for (Some e) k h = cc

pub fit_free : (ps : List Place) (k : Key) (i : ℕ) → some_holds ps k ≡ false → Found (λ (p : Place). is_none p.held) ps i → Fit ps k i
fit_free ps k i n f =
    let p = get_or ps i any_place in
    let e : (some_holds (take i ps) k || some_holds (p ∷ drop (i + 1) ps) k) ≡ false = sym (list_any-append (λ q. holds q k) (take i ps) (p ∷ drop (i + 1) ps)) ∙ ap (λ xs. some_holds xs k) (sym (around ps i any_place f.inside)) ∙ n in
    let q = or_parts (some_holds (take i ps) k) (some_holds (p ∷ drop (i + 1) ps) k) e in
    (f.inside, q.0, (or_parts (holds p k) (some_holds (drop (i + 1) ps) k) q.1).1, λ d. free_for (get_or ps i d).held k (f.here d))

-- some place passes
pub somewhere : {X : Type 0} (p : X → Bool) (xs : List X) (i : ℕ) (d : X) → Found p xs i → list_any p xs ≡ true
somewhere p xs i d f = list_any-from_Any p xs (i, get_or xs i d, f.inside, get_or_default xs i (get_or xs i d) d f.inside, f.here d)

-- the value of a key that has a place
look_at : (xs ys : List Place) (p : Place) (k : Key) → some_holds xs k ≡ false → holds p k ≡ true → look (map_of (xs ++ p ∷ ys)) k ≡ value_of p
look_at [] ys p k n h = look-place p ys k ∙ cond-true _ _ _ h
look_at (x ∷ xs) ys p k n h =
    let m = or_parts (holds x k) (some_holds xs k) n in
    look-place x (xs ++ p ∷ ys) k ∙ cond-false _ _ _ m.0 ∙ look_at xs ys p k m.1 h

pub look_found : (ps : List Place) (k : Key) (i : ℕ) (d : Place) → Found (λ p. holds p k) ps i → look (map_of ps) k ≡ value_of (get_or ps i d)
look_found ps k i d f =
    ap (λ xs. look (map_of xs) k) (around ps i d f.inside)
    ∙ look_at (take i ps) (drop (i + 1) ps) (get_or ps i d) k f.before (f.here d)

-- the place that a put of a key takes: its own, or else a free one
abbrev pub own_or_free : List Place → Key → Option ℕ
own_or_free ps k = option_or (position (λ p. holds p k) ps) (position (λ (p : Place). is_none p.held) ps)

-- some place passes exactly if there is a first one
position-some : {X : Type 0} (p : X → Bool) (xs : List X) (d : X) (o : Option ℕ) → position p xs ≡ o → is_some (position p xs) ≡ list_any p xs
position-some p xs d None e = let n = nowhere p xs e in let s = ap is_some e in s ∙ sym n
position-some p xs d (Some i) e = ap is_some e ∙ sym (somewhere p xs i d (found p xs i e))

some-or : (o q : Option ℕ) → is_some (option_or o q) ≡ (is_some o || is_some q)
some-or None q = refl
some-or (Some i) q = refl

pub own_or_free-some : (ps : List Place) (k : Key) → is_some (own_or_free ps k) ≡ (some_holds ps k || not (all_held ps))
own_or_free-some ps k =
    let a = position-some (λ p. holds p k) ps any_place _ refl in
    let b = position-some (λ (p : Place). is_none p.held) ps any_place _ refl in
    let c = all_held-is ps in
    let e = some-or (position (λ p. holds p k) ps) (position (λ (p : Place). is_none p.held) ps) in
    grind arith

own_or_free-fit : (ps : List Place) (k : Key) (o q : Option ℕ) → tidy ps ≡ true → position (λ p. holds p k) ps ≡ o → position (λ (p : Place). is_none p.held) ps ≡ q
    → IfSome (option_or o q) (Fit ps k)
own_or_free-fit ps k None None t e f = tt
own_or_free-fit ps k None (Some i) t e f = fit_free ps k i (nowhere (λ p. holds p k) ps e) (found (λ (p : Place). is_none p.held) ps i f)
own_or_free-fit ps k (Some i) q t e f = fit-found ps k i t (found (λ p. holds p k) ps i e)

pub fit-own_or_free : (ps : List Place) (k : Key) → tidy ps ≡ true → IfSome (own_or_free ps k) (Fit ps k)
fit-own_or_free ps k t = own_or_free-fit ps k _ _ t refl refl

-- what a find of a key tells of the map
pub look_nowhere : (ps : List Place) (k : Key) → position (λ p. holds p k) ps ≡ None → look (map_of ps) k ≡ None
look_nowhere ps k e = look_none ps k (nowhere (λ p. holds p k) ps e)
