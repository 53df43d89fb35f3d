-- Who stands subscribed, from the pairs of the code, and when one joins.
use Rattle.std.proofs.Common.{◌≡◌, ℕ, ◌<◌, Bool, true, false, cond, ◌||◌, eqb, leb, List, [], ◌∷◌, ◌++◌, ◌+◌, filter, map, length, take, set, is_some, sym, refl, ap, ◌∙◌, subst, inl, inr, arith, length-append}
use Rattle.std.proofs.lemmas.List.{length-map, length-take-le, take_more_set}
use Rattle.std.proofs.lemmas.List.Elements.{filter-append}
use Rattle.std.proofs.lemmas.List.Folds.{list_any-append}
use Rattle.std.proofs.lemmas.Bool.{cases_eq, eq-eqb, ne_eqb, or_from, or_left, or_parts, or_right}
use Rattle.std.proofs.lemmas.Bool.Decides.{nat_tests}
use Rattle.clients.specs.Subs.{sub_of}
use Rattle.clients.specs.declared.client.Client as client
use Rattle.subscribers.specs.declared.joined.Joined.TheVariants as joined
use Rattle.subscribers.specs.declared.list.Subscribers.{Subscribers}
use Rattle.subscribers.specs.declared.subscription.Subscription.{Subscription}
use Rattle.subscribers.specs.Held.{pairs, room, standings}
use Rattle.subscribers.specs.Pairs.{Few, standing_of, standings_of, subscribers_at}
use Rattle.subscribers.specs.Standing.{Once, Standing, join_answer, limit, place, same_pair, stands, subs_at}
use Rattle.subscribers.proofs.Sameness.{same_pair_refl, same_pair_sym}

module _ {C : Type 0} (id : C → List ℕ) where
  -- a topic's subscribers mean those who stand at its handle
  pub subs_standings : (h : ℕ) (ps : List (Subscription C)) → subs_at h (standings_of id ps) ≡ map (sub_of id) (subscribers_at h ps)
  subs_standings h [] = refl
  subs_standings h (p ∷ ps) = let ih = subs_standings h ps in grind (arith, nat_tests)

  pub count_standings : (h : ℕ) (ps : List (Subscription C)) → length (subs_at h (standings_of id ps)) ≡ length (subscribers_at h ps)
  count_standings h ps = ap length (subs_standings h ps) ∙ length-map (subscribers_at h ps) (sub_of id)

-- one who was added had not stood, and there was a place for it
pub added_facts : (l : List Standing) (room : ℕ) (x : Standing) → joined.Added ≡ join_answer l room x → (stands l x ≡ false) × (length (subs_at x.handle l) < limit) × (length l < room)
added_facts l room x = by (stands l x) (leb limit (length (subs_at x.handle l))) (leb room (length l)) refl refl refl
  where
    by : (b t u : Bool) → stands l x ≡ b → leb limit (length (subs_at x.handle l)) ≡ t → leb room (length l) ≡ u → joined.Added ≡ cond b joined.Standing (cond (t || u) joined.NoPlace joined.Added) → (stands l x ≡ false) × (length (subs_at x.handle l) < limit) × (length l < room)
    by true t u eb et eu e = let z : ◌≡◌ {A = ℕ} 0 1 = cc in absurd (omega arith)
    by false true u eb et eu e = let z : ◌≡◌ {A = ℕ} 0 1 = cc in absurd (omega arith)
    by false false true eb et eu e = let z : ◌≡◌ {A = ℕ} 0 1 = cc in absurd (omega arith)
    by false false false eb et eu e = (eb, grind (arith, nat_tests), grind (arith, nat_tests))

module _ {C : Type 0} {g : client.Ghosts C} (s : Subscribers C g) where
  -- the length that the list keeps
  pub len-standings : s.len ≡ length (standings s)
  len-standings = sym (length-map (pairs s) (standing_of g.identity) ∙ length-take-le s.len s.places.now s.within)

  -- the list once a newcomer lies behind it
  pub pairs_push : (p : Subscription C) → joined.Added ≡ join_answer (standings s) (room s) (standing_of g.identity p) → take (s.len + 1) (set s.places.now s.len p) ≡ pairs s ++ p ∷ []
  pairs_push p told =
      let facts = added_facts (standings s) (room s) (standing_of g.identity p) told in
      let inside : s.len < length s.places.now = omega (arith, facts.2, len-standings) in
      take_more_set s.places.now s.len p inside

-- a pair stands exactly if it has a place
pub place-stands : (l : List Standing) (x : Standing) → is_some (place l x) ≡ stands l x
place-stands [] x = refl
place-stands (y ∷ ys) x = let ih = place-stands ys x in grind (arith, nat_tests)

-- one joins

-- the newcomer stands
pub stands_push : (l : List Standing) (x : Standing) → stands (l ++ x ∷ []) x ≡ true
stands_push l x = list_any-append (λ y. same_pair y x) l (x ∷ []) ∙ or_right _ _ (or_left _ _ (same_pair_refl x))

-- no pair is there twice, once a newcomer has joined
pub once_push : (l : List Standing) (x : Standing) → stands l x ≡ false → Once l → Once (l ++ x ∷ [])
once_push [] x new once = (refl, tt)
once_push (y ∷ ys) x new once =
    let parts = or_parts (same_pair y x) (stands ys x) new in (
      list_any-append (λ z. same_pair z y) ys (x ∷ []) ∙ or_from _ _ once.0 (or_from _ _ (same_pair_sym x y ∙ parts.0) refl),
      once_push ys x parts.1 once.1,
    )

-- no handle has too many, once one has joined of a handle that has less than it may have
pub few_push : {C : Type 0} (ps : List (Subscription C)) (p : Subscription C) → length (subscribers_at p.handle.0 ps) < limit → Few ps → Few (ps ++ p ∷ [])
few_push {C} ps p room few h =
    let those : List (Subscription C) → List (Subscription C) = λ qs. filter (λ q. eqb q.handle.0 h) qs in
    let long = length-map (those (ps ++ p ∷ [])) (λ q. q.subscriber) ∙ ap length (filter-append (λ q. eqb q.handle.0 h) ps (p ∷ [])) ∙ length-append (those ps) (those (p ∷ [])) in
    let before = length-map (those ps) (λ q. q.subscriber) in
    let old = few h in
    elim (cases_eq p.handle.0 h) [
      | inl e ↦ (
          let here : length (subscribers_at h ps) < limit = subst (λ k. length (subscribers_at k ps) < limit) e room in
          let one : length (those (p ∷ [])) ≡ 1 = ap (λ b. length (cond b (p ∷ []) [])) (eq-eqb _ _ e) in
          omega arith)
      | inr ne ↦ (
          let none : length (those (p ∷ [])) ≡ 0 = ap (λ b. length (cond b (p ∷ []) [])) (ne_eqb _ _ ne) in
          omega arith)
    ]
