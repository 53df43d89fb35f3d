-- The lowest topic of a table, as the least of the handles of its places.
use Rattle.std.proofs.Common.{◌≡◌, ℕ, List, [], ◌∷◌, take, Some, None, Option, sym, refl, ap, ◌∙◌, subst}
use Rattle.std.specs.List.{cons_option, filter_map, fold, reduce}
use Rattle.std.specs.Option.{option_and_then, option_map}
use Rattle.protocol.specs.declared.names.Handle.{Handle}
use Rattle.store.specs.Held.{Entry as MapEntry, put}
use Rattle.store.specs.Laws.{Lowest}
use Rattle.store.specs.Scans.{lower, topic_above}
use Rattle.store.proofs.Scans.{lower_assoc, lowest-put, topic_candidate}
use Rattle.table_store.specs.declared.entry.Entry.{Entry}
use Rattle.table_store.specs.declared.place.Place.{Place}
use Rattle.table_store.specs.Places.{map_of, topic_of, with_entry}

-- the number of a handle, if there is one
abbrev number : Option Handle → Option ℕ
number o = option_map (λ (h : Handle). h.0) o

-- the lowest of some handles
abbrev least : List Handle → Option ℕ
least [] = None
least (h ∷ hs) = lower (Some h.0) (least hs)

least-cons : (o : Option Handle) (hs : List Handle) → least (cons_option o hs) ≡ lower (number o) (least hs)
least-cons None hs = refl
least-cons (Some h) hs = refl

-- a function that gives the lower of two handles
abbrev pub PicksLower : (Handle → Handle → Handle) → Type 0
PicksLower f = (a b : Handle) → Some (f a b).0 ≡ lower (Some a.0) (Some b.0)

folded : (f : Handle → Handle → Handle) → PicksLower f → (h : Handle) (hs : List Handle) → Some (fold f h hs).0 ≡ lower (Some h.0) (least hs)
folded f p h [] = refl
folded f p h (i ∷ hs) = folded f p (f h i) hs ∙ ap (λ o. lower o (least hs)) (p h i) ∙ lower_assoc (Some h.0) (Some i.0) (least hs)

reduced : (f : Handle → Handle → Handle) → PicksLower f → (hs : List Handle) → number (reduce f hs) ≡ least hs
reduced f p [] = refl
reduced f p (h ∷ hs) = folded f p h hs

-- the lowest handle of a map, and of one to which an entry is put
lowest-with : (o : Option Entry) (bytes : List ℕ) (es : List MapEntry) (after : Handle) (r : Option ℕ) → Lowest es after.0 r
    → Lowest (with_entry o bytes es) after.0 (lower (number (option_and_then (λ (e : Entry). topic_above e.key after) o)) r)
lowest-with None bytes es after r l = l
lowest-with (Some e) bytes es after r l =
    subst (λ o. Lowest (put es e.key (take e.len bytes)) after.0 (lower o r)) (sym (topic_candidate e.key after)) (lowest-put es e.key (take e.len bytes) after.0 r l)

lowest-least : (ps : List Place) (after : Handle) → Lowest (map_of ps) after.0 (least (filter_map (λ p. topic_of p after) ps))
lowest-least [] after = λ h b. refl
lowest-least (p ∷ ps) after =
    let hs = filter_map (λ q. topic_of q after) ps in
    subst (Lowest (map_of (p ∷ ps)) after.0) (sym (least-cons (topic_of p after) hs)) (lowest-with p.held p.value (map_of ps) after (least hs) (lowest-least ps after))

-- the lower of each two, from the first on
pub lowest-min : (f : Handle → Handle → Handle) → PicksLower f → (ps : List Place) (after : Handle)
    → Lowest (map_of ps) after.0 (number (reduce f (filter_map (λ p. topic_of p after) ps)))
lowest-min f p ps after =
    subst (Lowest (map_of ps) after.0) (sym (reduced f p (filter_map (λ q. topic_of q after) ps))) (lowest-least ps after)
