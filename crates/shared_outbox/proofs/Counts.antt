-- Entries and the places that they name: what is counted, which places are free, and what a write to a free place leaves.
use Rattle.std.proofs.Common.{◌≡◌, ℕ, zero, suc, ◌+◌, ◌<◌, true, false, cond, eqb, List, [], ◌∷◌, map, length, get_or, set, sym, refl, ap, ◌∙◌, inl, inr, arith}
use Rattle.std.proofs.lemmas.List.{get_or_past, get_or-set_other}
use Rattle.std.proofs.lemmas.List.Sums.{sum_by-cons}
use Rattle.std.proofs.lemmas.Bool.{cases_eq, cases_lt, eq-eqb, ne_eqb, or_from, or_left, or_right}
use Rattle.clients.specs.Subs.{sub_of}
use Rattle.shared_outbox.specs.declared.entry.Entry.{Entry}
use Rattle.shared_outbox.specs.Entries.{note_at, some_free, uses}
use Rattle.shared_outbox.specs.Places.{Body, blank}

one_if : (i p : ℕ) → i ≡ p → ◌≡◌ {A = ℕ} (cond (eqb i p) 1 0) 1
one_if i p e = ap {B = ℕ} (λ b. cond b 1 0) (eq-eqb i p e)

module _ {C : Type 0} where
  -- the first entry, and those behind it
  uses_first : (p : ℕ) (e : Entry C) (es : List (Entry C)) → uses p (e ∷ es) ≡ cond (eqb e.place p) 1 0 + uses p es
  uses_first p e es = sum_by-cons _ e es

  module _ (es : List (Entry C)) (e : Entry C) (ns : List ℕ) (counted : (p : ℕ) → uses p (e ∷ es) ≡ get_or ns p 0) where
    -- the place that the first entry names has a user, and so is a place
    named : 0 < get_or ns e.place 0
    named = omega (arith, counted e.place, uses_first e.place e es, one_if e.place e.place refl)

    pub named_within : e.place < length ns
    named_within =
        elim (cases_lt e.place (length ns)) [
          | inl lt ↦ lt
          | inr le ↦ absurd (omega (arith, named, get_or_past ns e.place 0 le))
        ]

  -- whether a place is free, by a place that is, or by none
  pub free_some : (k p : ℕ) (es : List (Entry C)) → p < k → uses p es ≡ 0 → some_free k es ≡ true
  free_some zero p es h e = absurd (omega arith)
  free_some (suc k) p es h e =
      elim (cases_eq p k) [
        | inl q ↦ or_left (eqb (uses k es) 0) (some_free k es) (eq-eqb (uses k es) 0 (ap (λ j. uses j es) (sym q) ∙ e))
        | inr ne ↦ or_right (eqb (uses k es) 0) (some_free k es) (free_some k p es (omega arith) e)
      ]

  pub free_none : (k : ℕ) (es : List (Entry C)) → ((p : ℕ) → p < k → uses p es ≡ 0 → ⊥) → some_free k es ≡ false
  free_none zero es none = refl
  free_none (suc k) es none = or_from (eqb (uses k es) 0) (some_free k es) (ne_eqb (uses k es) 0 (none k (omega arith))) (free_none k es (λ p h. none p (omega arith)))

  -- what waits says the same after a write to a place that no entry names
  pub notes-kept : (id : C → List ℕ) (bs : List Body) (p : ℕ) (b : Body) (es : List (Entry C)) → uses p es ≡ 0
      → map (note_at id (set bs p b)) es ≡ map (note_at id bs) es
  notes-kept id bs p b [] free = refl
  notes-kept id bs p b (e ∷ es) free =
      let other : e.place ≡ p → ⊥ = λ q. omega (arith, free, uses_first p e es, one_if e.place p q) in
      ap (λ (x : Body). record { to = sub_of id e.subscriber; content = x.content; payload = x.payload } ∷ map (note_at id (set bs p b)) es) (get_or-set_other bs p e.place b blank other)
      ∙ ap (λ l. note_at id bs e ∷ l) (notes-kept id bs p b es (omega (arith, free, uses_first p e es)))
