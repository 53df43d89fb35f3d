-- Why a table is a store: its map is sound and no larger than the table, which has room for two keys.
use Rattle.std.specs.Prelude.{◌≡◌, ℕ, suc, ◌≤◌, true, false, List, [], ◌∷◌, length, take, Some, None, Option}
use Rattle.std.proofs.Common.{arith}
use Rattle.std.proofs.lemmas.List.{length-take}
use Rattle.std.proofs.lemmas.Bool.Decides.{nat_tests}
use Rattle.std.specs.Option.{option_map_or}
use Rattle.store.specs.Held.{Entry as MapEntry, value_limit, proper, Sound}
use Rattle.store.proofs.Maps.{sound-put, length-put}
use Rattle.table_store.specs.declared.entry.Entry.{Entry}
use Rattle.table_store.specs.declared.place.Place.{Place}
use Rattle.table_store.specs.Places.{fits, map_of, some_holds, tidy, well, with_entry}

-- the parts of a tidy list
pub record Tidy (p : Place) (ps : List Place) : Type 0 where
  pub first : well p ≡ true
  pub alone : option_map_or (λ (e : Entry). some_holds ps e.key) p.held false ≡ false
  pub rest : tidy ps ≡ true

pub tidy-parts : (p : Place) (ps : List Place) → tidy (p ∷ ps) ≡ true → Tidy p ps
tidy-parts p ps t = record { first = grind (arith, nat_tests); alone = grind (arith, nat_tests); rest = grind (arith, nat_tests) }

-- the parts of a place that is well
pub record Well (p : Place) : Type 0 where
  pub room : length p.value ≡ value_limit
  pub entry : option_map_or fits p.held true ≡ true

pub well-parts : (p : Place) → well p ≡ true → Well p
well-parts p w = record { room = grind (arith, nat_tests); entry = grind (arith, nat_tests) }

-- the parts of an entry that fits
pub record Fits (e : Entry) : Type 0 where
  pub key : proper e.key ≡ true
  pub len : e.len ≤ value_limit

pub fits-parts : (e : Entry) → fits e ≡ true → Fits e
fits-parts e f = record { key = grind (arith, nat_tests); len = grind (arith, nat_tests) }

-- a sound map with an entry that fits is sound
pub sound-with : (o : Option Entry) (bytes : List ℕ) (es : List MapEntry) → option_map_or fits o true ≡ true → Sound es → Sound (with_entry o bytes es)
sound-with None bytes es f s = s
sound-with (Some e) bytes es f s =
    let p = fits-parts e f in
    sound-put es e.key (take e.len bytes) p.key (let l = p.len in simp length-take (omega arith)) s

-- the map of a tidy table is sound
pub sound-map : (ps : List Place) → tidy ps ≡ true → Sound (map_of ps)
sound-map [] t = tt
sound-map (p ∷ ps) t = let q = tidy-parts p ps t in sound-with p.held p.value (map_of ps) (well-parts p q.first).entry (sound-map ps q.rest)

-- an entry that fits makes a sound map longer by one at most
pub length-with_le : (o : Option Entry) (bytes : List ℕ) (es : List MapEntry) → option_map_or fits o true ≡ true → Sound es
    → length (with_entry o bytes es) ≤ suc (length es)
length-with_le None bytes es f s = omega arith
length-with_le (Some e) bytes es f s =
    let l = length-put es e.key (take e.len bytes) (fits-parts e f).key s in
    grind (arith, nat_tests)

-- it has no more keys than the table has places
pub length-map_le : (ps : List Place) → tidy ps ≡ true → length (map_of ps) ≤ length ps
length-map_le [] t = omega arith
length-map_le (p ∷ ps) t =
    let q = tidy-parts p ps t in
    let ih = length-map_le ps q.rest in
    let l = length-with_le p.held p.value (map_of ps) (well-parts p q.first).entry (sound-map ps q.rest) in
    omega arith

-- a table has room for two keys
pub two_places : 2 ≤ 64
two_places = omega arith
