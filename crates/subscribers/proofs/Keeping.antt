-- A loop that moves to the front what a test keeps, and what it leaves.
use Rattle.std.proofs.Common.{◌≡◌, ℕ, ◌+◌, ◌<◌, ◌≤◌, Bool, true, false, cond, List, [], ◌∷◌, ◌++◌, filter, length, get_or, take, drop, set, sym, refl, ap, ◌∙◌, subst, append_assoc, arith, length-set}
use Rattle.std.proofs.lemmas.List.{append-nil, drop_all, drop_more, drop-set-lt, take_more_set}
use Rattle.subscribers.specs.Kept.{Keeps}

module _ {X : Type 0} (R : X → Bool → Type 0) where
  -- in a row that began as xs, the first k places have what is kept of the first i elements, and from i on it is as it was
  pub record Keeping (xs ys : List X) (k i : ℕ) : Type 0 where
    pub so_far : (zs : List X) → Keeps R (drop i xs) zs → Keeps R xs (take k ys ++ zs)
    pub rest : drop i ys ≡ drop i xs
    pub behind : k ≤ i
    pub long : length ys ≡ length xs

  module _ {xs ys : List X} {k i : ℕ} {x : X} (kept : Keeping xs ys k i) (inside : i < length ys) (at : x ≡ get_or ys i x) where
    later : drop (i + 1) ys ≡ drop (i + 1) xs
    later =
        sym (ap (drop 1) (drop_more ys i x inside))
        ∙ ap (drop 1) kept.rest
        ∙ ap (drop 1) (drop_more xs i x (omega (arith, kept.long)))

    here : drop i xs ≡ x ∷ drop (i + 1) xs
    here =
        sym kept.rest
        ∙ drop_more ys i x inside
        ∙ ap (λ d. get_or ys i x ∷ d) later
        ∙ ap (λ y. y ∷ drop (i + 1) xs) (sym at)

    pub Keeping-more_yes : R x true → Keeping xs (set ys k x) (k + 1) (i + 1)
    Keeping-more_yes r =
        let within : k < length ys = omega (arith, kept.behind) in
        record {
          so_far = (λ zs h.
              subst (λ l. Keeps R xs l)
              (sym (append_assoc (take k ys) (x ∷ []) zs) ∙ ap (λ l. l ++ zs) (sym (take_more_set ys k x within)))
              (kept.so_far (x ∷ zs) (subst (λ l. Keeps R l (x ∷ zs)) (sym here) (true, r, zs, h, refl))));
          rest = drop-set-lt (i + 1) ys k x (omega (arith, kept.behind)) ∙ later;
          behind = omega (arith, kept.behind);
          long = length-set ys k x ∙ kept.long;
        }

    pub Keeping-more_no : R x false → Keeping xs ys k (i + 1)
    Keeping-more_no r =
        record {
          so_far = (λ zs h. kept.so_far zs (subst (λ l. Keeps R l zs) (sym here) (false, r, zs, h, refl)));
          rest = later;
          behind = omega (arith, kept.behind);
          long = kept.long;
        }

  pub Keeping-all : {xs ys : List X} {k i : ℕ} → Keeping xs ys k i → length xs ≤ i → Keeps R xs (take k ys)
  Keeping-all {xs} {ys} {k} {i} kept end =
      subst (λ l. Keeps R xs l) (append-nil (take k ys)) (kept.so_far [] (subst (λ l. Keeps R l []) (sym (drop_all i xs end)) refl))

  -- where the test answers by p, what it keeps is what p passes
  pub Keeps-filter : (p : X → Bool) → ((x : X) (b : Bool) → R x b → b ≡ p x) → (xs ys : List X) → Keeps R xs ys → ys ≡ filter p xs
  Keeps-filter p says [] ys h = h
  Keeps-filter p says (x ∷ xs) ys h =
      h.4
      ∙ ap (λ b. cond b (x ∷ h.2) h.2) (says x h.0 h.1)
      ∙ ap (λ zs. cond (p x) (x ∷ zs) zs) (Keeps-filter p says xs h.2 h.3)
