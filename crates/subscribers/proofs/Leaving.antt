-- What is left of a list when pairs leave it.
use Rattle.std.proofs.Common.{◌≡◌, ℕ, suc, ◌+◌, ◌≤◌, Bool, true, false, cond, not, ◌||◌, ltb, List, [], ◌∷◌, length, sym, refl, ap, ◌∙◌, subst, arith}
use Rattle.std.proofs.lemmas.Bool.{or_from, or_parts}
use Rattle.std.proofs.lemmas.Bool.Decides.{nat_tests}
use Rattle.std.proofs.lemmas.Map.Views.{any-filter_same}
use Rattle.subscribers.specs.declared.subscription.Subscription.{Subscription}
use Rattle.subscribers.specs.Kept.{Keeps}
use Rattle.subscribers.specs.Pairs.{Few, standing_of, standings_of, subscribers_at}
use Rattle.subscribers.specs.Standing.{Once, Standing, same_pair, stands, without}
use Rattle.subscribers.proofs.Sameness.{same_pair-means}

-- one pair leaves

module _ (x : Standing) where
  -- it does not stand any more
  pub without_gone : (l : List Standing) → stands (without x l) x ≡ false
  without_gone l = any-filter_same (λ y. same_pair y x) (λ y. not (same_pair y x)) false (λ y e. ap not e) l

  -- every other pair stands as before
  pub without-rest : (l : List Standing) (z : Standing) → same_pair z x ≡ false → stands (without x l) z ≡ stands l z
  without-rest l z ne =
      any-filter_same (λ y. same_pair y z) (λ y. not (same_pair y x)) true (λ y e. ap not (ap (λ w. same_pair w x) (same_pair-means y z e) ∙ ne)) l

  without_none : (l : List Standing) → stands l x ≡ false → without x l ≡ l
  without_none [] e = refl
  without_none (y ∷ ys) e =
      let parts = or_parts (same_pair y x) (stands ys x) e in
      ap (λ b. cond (not b) (y ∷ without x ys) (without x ys)) parts.0 ∙ ap (λ l. y ∷ l) (without_none ys parts.1)

  -- where no pair is there twice, one leaves at most
  pub without_one : (l : List Standing) → Once l → length (without x l) + cond (stands l x) 1 0 ≡ length l
  without_one [] once = refl
  without_one (y ∷ ys) once = by (same_pair y x) refl (without_one ys once.1)
    where
      by : (b : Bool) → same_pair y x ≡ b → length (without x ys) + cond (stands ys x) 1 0 ≡ length ys → length (cond (not b) (y ∷ without x ys) (without x ys)) + cond (b || stands ys x) 1 0 ≡ suc (length ys)
      by true e ih =
          let new : stands ys x ≡ false = subst (λ w. stands ys w ≡ false) (same_pair-means y x e) once.0 in
          omega (arith, ap length (without_none ys new))
      by false e ih = omega arith

  -- so the list is shorter exactly if the pair stood
  pub without_tells : (l : List Standing) → Once l → ltb (length (without x l)) (length l) ≡ stands l x
  without_tells l once = by (stands l x) (without_one l once)
    where
      by : (b : Bool) → length (without x l) + cond b 1 0 ≡ length l → ltb (length (without x l)) (length l) ≡ b
      by true e = grind (arith, nat_tests)
      by false e = grind (arith, nat_tests)

-- a test keeps some

module _ {C : Type 0} (R : Subscription C → Bool → Type 0) where
  -- no handle has more subscribers than before
  fewer : (h : ℕ) (ps qs : List (Subscription C)) → Keeps R ps qs → length (subscribers_at h qs) ≤ length (subscribers_at h ps)
  fewer h [] qs e = omega (arith, ap (λ l. length (subscribers_at h l)) e)
  fewer h (p ∷ ps) qs (b, told, zs, kept, e) =
      subst (λ l. length (subscribers_at h l) ≤ length (subscribers_at h (p ∷ ps))) (sym e) (by b (fewer h ps zs kept))
    where
      by : (b : Bool) → length (subscribers_at h zs) ≤ length (subscribers_at h ps) → length (subscribers_at h (cond b (p ∷ zs) zs)) ≤ length (subscribers_at h (p ∷ ps))
      by true ih = grind (arith, nat_tests)
      by false ih = grind (arith, nat_tests)

  pub few_kept : (ps qs : List (Subscription C)) → Keeps R ps qs → Few ps → Few qs
  few_kept ps qs kept few h = omega (arith, fewer h ps qs kept, few h)

  module _ (id : C → List ℕ) where
    stands_kept : (x : Standing) (ps qs : List (Subscription C)) → Keeps R ps qs → stands (standings_of id ps) x ≡ false → stands (standings_of id qs) x ≡ false
    stands_kept x [] qs e none = ap (λ l. stands (standings_of id l) x) e
    stands_kept x (p ∷ ps) qs (b, told, zs, kept, e) none =
        let parts = or_parts (same_pair (standing_of id p) x) (stands (standings_of id ps) x) none in
        subst (λ l. stands (standings_of id l) x ≡ false) (sym e) (by b parts.0 (stands_kept x ps zs kept parts.1))
      where
        by : (b : Bool) → same_pair (standing_of id p) x ≡ false → stands (standings_of id zs) x ≡ false → stands (standings_of id (cond b (p ∷ zs) zs)) x ≡ false
        by true ne ih = or_from _ _ ne ih
        by false ne ih = ih

    -- no pair is there twice, as before
    pub once_kept : (ps qs : List (Subscription C)) → Keeps R ps qs → Once (standings_of id ps) → Once (standings_of id qs)
    once_kept [] qs e once = subst (λ l. Once (standings_of id l)) (sym e) tt
    once_kept (p ∷ ps) qs (b, told, zs, kept, e) once =
        subst (λ l. Once (standings_of id l)) (sym e) (by b (stands_kept (standing_of id p) ps zs kept once.0) (once_kept ps zs kept once.1))
      where
        by : (b : Bool) → stands (standings_of id zs) (standing_of id p) ≡ false → Once (standings_of id zs) → Once (standings_of id (cond b (p ∷ zs) zs))
        by true new ih = (new, ih)
        by false new ih = ih
