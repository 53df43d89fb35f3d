-- Laws of the places of a table: look-ups in their map, and when it is full.
use Rattle.std.proofs.Common.{◌≡◌, ℕ, ◌+◌, ◌<◌, ◌≤◌, Bool, true, false, cond, not, ◌&&◌, ◌||◌, leb, List, [], ◌∷◌, ◌++◌, length, take, drop, is_some, IfSome, Some, None, Option, refl, sym, ap, ◌∙◌, add-one, arith}
use Rattle.std.specs.List.{All}
use Rattle.std.specs.Option.{option_map, option_map_or}
use Rattle.std.specs.Prelude.{◌==◌, nat_le, slice_index_or}
use Rattle.std.proofs.lemmas.List.{set_split, set-get_or}
use Rattle.std.proofs.lemmas.List.Elements.{All-tail}
use Rattle.std.proofs.lemmas.Bool.{cond-false, or_parts}
use Rattle.std.proofs.lemmas.Bool.Decides.{nat_tests}
use Rattle.store.specs.declared.key.Key.{Key}
use Rattle.store.specs.Held.{Entry as MapEntry, Sound, value_limit, proper, same_key, look, full}
use Rattle.store.proofs.Maps.{look-put, length-put}
use Rattle.table_store.specs.declared.entry.Entry.{Entry}
use Rattle.table_store.specs.declared.place.Place.{Place}
use Rattle.table_store.specs.Places.{all_held, fits, holds, map_of, some_holds, tidy, value_of, well, with_entry}
use Rattle.table_store.specs.Laws.{Tidy, fits-parts, length-map_le, sound-map, tidy-parts, well-parts}

-- some place, for a default
abbrev pub any_place : Place
any_place = record { held = None; value = [] }

-- what an entry, if there is one, adds to a look-up
look-with : (o : Option Entry) (bytes : List ℕ) (es : List MapEntry) (j : Key)
    → look (with_entry o bytes es) j ≡ cond (option_map_or (λ (e : Entry). same_key e.key j) o false) (option_map (λ (e : Entry). take e.len bytes) o) (look es j)
look-with None bytes es j = refl
look-with (Some e) bytes es j = look-put es e.key (take e.len bytes) j

-- what a place in front adds to a look-up
pub look-place : (p : Place) (ps : List Place) (j : Key) → look (map_of (p ∷ ps)) j ≡ cond (holds p j) (value_of p) (look (map_of ps) j)
look-place p ps j = look-with p.held p.value (map_of ps) j

-- a place that is held for a key has a value
holds-some : (o : Option Entry) (bytes : List ℕ) (j : Key) → option_map_or (λ (e : Entry). same_key e.key j) o false ≡ true
    → is_some (option_map (λ (e : Entry). take e.len bytes) o) ≡ true
holds-some None bytes j h = h
holds-some (Some e) bytes j h = refl

-- a key has a value exactly if some place is held for it
pub look_some : (ps : List Place) (j : Key) → is_some (look (map_of ps) j) ≡ some_holds ps j
look_some [] j = refl
look_some (p ∷ ps) j =
    let ih = look_some ps j in
    let l = look-place p ps j in
    let s : holds p j ≡ true → is_some (value_of p) ≡ true = holds-some p.held p.value j in
    grind (arith, nat_tests)

pub look_none : (ps : List Place) (j : Key) → some_holds ps j ≡ false → look (map_of ps) j ≡ None
look_none [] j n = refl
look_none (p ∷ ps) j n = let q = or_parts (holds p j) (some_holds ps j) n in look-place p ps j ∙ cond-false _ _ _ q.0 ∙ look_none ps j q.1

-- one place more is held exactly if one key more has a value
length-with : (o : Option Entry) (bytes : List ℕ) (es : List MapEntry) (ps : List Place) → option_map_or fits o true ≡ true → Sound es
    → option_map_or (λ (e : Entry). some_holds ps e.key) o false ≡ false → ((j : Key) → is_some (look es j) ≡ some_holds ps j)
    → length (with_entry o bytes es) ≡ length es + cond (is_some o) 1 0
length-with None bytes es ps f s a l = omega arith
length-with (Some e) bytes es ps f s a l =
    let n = length-put es e.key (take e.len bytes) (fits-parts e f).key s in
    let m = l e.key in
    grind (arith, nat_tests)

-- the map has as many keys as there are places exactly if every place is held
pub full-map : (ps : List Place) → tidy ps ≡ true → nat_le (length ps) (length (map_of ps)) ≡ all_held ps
full-map [] t = refl
full-map (p ∷ ps) t =
    let q = tidy-parts p ps t in
    let ih = full-map ps q.rest in
    let le = length-map_le ps q.rest in
    let l = length-with p.held p.value (map_of ps) ps (well-parts p q.first).entry (sound-map ps q.rest) q.alone (look_some ps) in
    grind (arith, nat_tests)

-- a table is full for a key exactly if the key has no place and none is free
pub full_for : (ps : List Place) (n : ℕ) (k : Key) (r : Bool) → tidy ps ≡ true → length ps ≡ n → proper k ≡ true → r ≡ (some_holds ps k || not (all_held ps))
    → full (map_of ps) n k ≡ not r
full_for ps n k r t e p h =
    let s = look_some ps k in
    let f = full-map ps t in
    let g = ap (λ m. leb m (length (map_of ps))) e in
    grind arith

-- the list around one of its places
pub around : (ps : List Place) (i : ℕ) (d : Place) → i < length ps → ps ≡ take i ps ++ slice_index_or ps i d ∷ drop (i + 1) ps
around ps i d l = sym (set-get_or ps i d) ∙ set_split ps i (slice_index_or ps i d) l ∙ simp add-one

pub tidy_from : (p : Place) (ps : List Place) → Tidy p ps → tidy (p ∷ ps) ≡ true
tidy_from p ps t = let f = t.first in let a = t.alone in let r = t.rest in grind arith

-- a place of a tidy list is well
well_in : (xs ys : List Place) (p : Place) → tidy (xs ++ p ∷ ys) ≡ true → well p ≡ true
well_in [] ys p t = (tidy-parts p ys t).first
well_in (x ∷ xs) ys p t = well_in xs ys p (tidy-parts x (xs ++ p ∷ ys) t).rest

pub well_at : (ps : List Place) (i : ℕ) (d : Place) → tidy ps ≡ true → i < length ps → well (slice_index_or ps i d) ≡ true
well_at ps i d t l = well_in (take i ps) (drop (i + 1) ps) (slice_index_or ps i d) (ap tidy (sym (around ps i d l)) ∙ t)

-- the length of an entry that fits, where there is one
pub len_fits : (o : Option Entry) → option_map_or fits o true ≡ true → IfSome o (λ (e : Entry). e.len ≤ value_limit)
len_fits None f = tt
len_fits (Some e) f = (fits-parts e f).len

-- a table of free places, whatever bytes lie in them
pub map_empty : (ps : List Place) → All (λ (p : Place). p.held ≡ None) ps → map_of ps ≡ []
map_empty [] a = refl
map_empty (p ∷ ps) a =
    ap (λ o. with_entry o p.value (map_of ps)) (a 0 p (omega arith)) ∙ map_empty ps (All-tail (λ (q : Place). q.held ≡ None) p ps a)

pub tidy_empty : (ps : List Place) → All (λ (p : Place). p.held ≡ None) ps → All (λ (p : Place). length p.value ≡ value_limit) ps → tidy ps ≡ true
tidy_empty [] a r = refl
tidy_empty (p ∷ ps) a r =
    let h : p.held ≡ None = a 0 p (omega arith) in
    let l : length p.value ≡ value_limit = r 0 p (omega arith) in
    let w : well p ≡ true = ap (λ o. length p.value == value_limit && option_map_or fits o true) h ∙ ap (λ m. m == value_limit && true) l in
    tidy_from p ps (record {
      first = w;
      alone = ap (λ o. option_map_or (λ (e : Entry). some_holds ps e.key) o false) h;
      rest = tidy_empty ps (All-tail (λ (q : Place). q.held ≡ None) p ps a) (All-tail (λ (q : Place). length q.value ≡ value_limit) p ps r);
    })
