-- The subscribers of a handle among the first pairs, and a work list that takes one more.
use Rattle.std.proofs.Common.{◌≡◌, ℕ, ◌+◌, ◌<◌, ◌≤◌, cond, eqb, List, [], ◌∷◌, ◌++◌, filter, map, length, get_or, take, drop, set, sym, ap, ◌∙◌, append_assoc, arith, length-append}
use Rattle.std.proofs.lemmas.Bool.{eq-eqb, ne_eqb}
use Rattle.std.proofs.lemmas.List.{append-nil, drop_more, length_push, map-append, set_at, take-append-drop, take_more}
use Rattle.std.proofs.lemmas.List.Elements.{filter-append}
use Rattle.subscribers.specs.declared.subscription.Subscription.{Subscription}
use Rattle.protocol.specs.Buffers.{laid}
use Rattle.subscribers.specs.Pairs.{subscribers_at}

module _ {C : Type 0} (h : ℕ) where
  at_append : (ps qs : List (Subscription C)) → subscribers_at h (ps ++ qs) ≡ subscribers_at h ps ++ subscribers_at h qs
  at_append ps qs =
      ap (map (λ p. p.subscriber)) (filter-append (λ p. eqb p.handle.0 h) ps qs)
      ∙ map-append (λ p. p.subscriber) (filter (λ p. eqb p.handle.0 h) ps) (filter (λ p. eqb p.handle.0 h) qs)

  -- a part has at most as many
  at_part : (n : ℕ) (ps : List (Subscription C)) → length (subscribers_at h (take n ps)) ≤ length (subscribers_at h ps)
  at_part n ps =
      let whole = ap (λ l. length (subscribers_at h l)) (take-append-drop n ps) in
      let parts = ap length (at_append (take n ps) (drop n ps)) ∙ length-append (subscribers_at h (take n ps)) (subscribers_at h (drop n ps)) in
      omega (arith, whole, parts)

  module _ (ps : List (Subscription C)) (i : ℕ) (p : Subscription C) (l : i < length ps) (e : p ≡ get_or ps i p) where
    at_more : subscribers_at h (take (i + 1) ps) ≡ subscribers_at h (take i ps) ++ subscribers_at h (p ∷ [])
    at_more =
        ap (subscribers_at h) (take_more ps i p l ∙ ap (λ q. take i ps ++ q ∷ []) (sym e)) ∙ at_append (take i ps) (p ∷ [])

    -- one more, if the pair is of the handle
    pub at_more_yes : p.handle.0 ≡ h → subscribers_at h (take (i + 1) ps) ≡ subscribers_at h (take i ps) ++ p.subscriber ∷ []
    at_more_yes y =
        at_more ∙ ap (λ b. subscribers_at h (take i ps) ++ map (λ q. q.subscriber) (cond b (p ∷ []) [])) (eq-eqb _ _ y)

    -- and else those that there were
    pub at_more_no : (p.handle.0 ≡ h → ⊥) → subscribers_at h (take (i + 1) ps) ≡ subscribers_at h (take i ps)
    at_more_no n =
        at_more
        ∙ ap (λ b. subscribers_at h (take i ps) ++ map (λ q. q.subscriber) (cond b (p ∷ []) [])) (ne_eqb _ _ n)
        ∙ append-nil (subscribers_at h (take i ps))

    -- a pair of the handle stands at i, so fewer stand before it than in all
    pub at_below : p.handle.0 ≡ h → length (subscribers_at h (take i ps)) < length (subscribers_at h ps)
    at_below y =
        let long = ap length (at_more_yes y) ∙ length_push (subscribers_at h (take i ps)) p.subscriber in
        omega (arith, long, at_part (i + 1) ps)

-- one element more over the front of a list
pub laid_more : {X : Type 0} (xs buf : List X) (n : ℕ) (x : X) → n ≡ length xs → n < length buf → set (laid xs buf) n x ≡ laid (xs ++ x ∷ []) buf
laid_more xs buf n x e l =
    let k : length xs < length buf = omega arith in
    ap (λ d. set (xs ++ d) n x) (drop_more buf (length xs) x k)
    ∙ set_at xs (get_or buf (length xs) x) (drop (length xs + 1) buf) x n (sym e)
    ∙ sym (append_assoc xs (x ∷ []) (drop (length xs + 1) buf))
    ∙ ap (λ m. (xs ++ x ∷ []) ++ drop m buf) (sym (length_push xs x))
