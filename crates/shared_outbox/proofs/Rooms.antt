-- Room in a shared outbox: what the search for a free place tells, where the other tests are passed.
use Rattle.std.proofs.Common.{◌≡◌, ℕ, ◌+◌, ◌<◌, ◌≤◌, Bool, true, false, not, eqb, leb, List, [], ◌∷◌, length, Ok, Err, sym, ◌∙◌, inl, inr, arith, MatchResult}
use Rattle.std.specs.List.{position, position_or_len}
use Rattle.std.specs.Option.{ok_or}
use Rattle.std.proofs.lemmas.Bool.{and_from, and_right, cases_lt, le-leb, lt-ltb, le-ltb}
use Rattle.std.proofs.lemmas.Bool.Decides.{nat_tests}
use Rattle.std.proofs.lemmas.List.Sums.{prefix_len_passes, prefix_len_stops}
use Rattle.protocol.specs.declared.refusal.Refusal.TheVariants.{OutboxFull}
use Rattle.outbox.proofs.Posts.{answer_full, answer_ok}
use Rattle.outbox.specs.Answers.{post_answer}
use Rattle.outbox.specs.Notes.{proper_batch}
use Rattle.shared_outbox.specs.declared.place.Place.{Place}
use Rattle.shared_outbox.specs.declared.shared.Shared.{Shared}
use Rattle.shared_outbox.proofs.Contents.{users_of}
use Rattle.shared_outbox.proofs.Counts.{free_none, free_some}
use Rattle.shared_outbox.specs.Entries.{some_free, uses}
use Rattle.shared_outbox.specs.Held.{capacity_of, held, places_of, room_in}
use Rattle.shared_outbox.specs.Places.{users_at}

-- a place that no entry names
abbrev unused : Place → Bool
unused p = eqb p.users 0

zero_if : (n : ℕ) → not (eqb n 0) ≡ false → n ≡ 0
zero_if n e = grind (arith, nat_tests)

some_if : (n : ℕ) → not (eqb n 0) ≡ true → n ≡ 0 → ⊥
some_if n e z = grind (arith, nat_tests)

-- the place that was found has no users
found : (ps : List Place) → position_or_len unused ps < length ps → users_at ps (position_or_len unused ps) ≡ 0
found [] h = absurd (omega arith)
found (p ∷ ps) h = users_of (p ∷ ps) _ p h ∙ zero_if _ (prefix_len_stops (λ (x : Place). not (unused x)) (p ∷ ps) p h)

-- where none was found, every place has users
unfound : (ps : List Place) → length ps ≤ position_or_len unused ps → (i : ℕ) → i < length ps → users_at ps i ≡ 0 → ⊥
unfound [] none i h e = absurd (omega arith)
unfound (p ∷ ps) none i h e = some_if _ (prefix_len_passes (λ (x : Place). not (unused x)) (p ∷ ps) i p (omega arith)) (sym (users_of (p ∷ ps) i p h) ∙ e)

module _ {C : Type 0} (q : Shared C) (n l : ℕ) (proper : true ≡ proper_batch n l) (fits : length (held q) + n ≤ capacity_of q) where
  room_free : some_free (places_of q) (held q) ≡ true → room_in q n l ≡ true
  room_free some = and_from _ _ (sym proper) (and_from _ _ (le-leb (length (held q) + n) (capacity_of q) fits) some)

  room-full : some_free (places_of q) (held q) ≡ false → room_in q n l ≡ false
  room-full none = and_right (proper_batch n l) _ (and_right (leb (length (held q) + n) (capacity_of q)) _ none)

  pub place_found : MatchResult (ok_or (position unused q.places) OutboxFull)
      (λ p. (p < places_of q) × (uses p (held q) ≡ 0) × (post_answer (room_in q) n l ≡ Ok tt))
      (λ e. post_answer (room_in q) n l ≡ Err e)
  place_found =
      let at = position_or_len unused q.places in
      elim (cases_lt at (places_of q)) [
        | inl lt ↦
            let free : uses at (held q) ≡ 0 = q.counted at ∙ found q.places lt in
            rw (lt-ltb at (places_of q) lt) (lt, free, sym (answer_ok (room_in q) n l proper (sym (room_free (free_some (places_of q) at (held q) lt free)))))
        | inr le ↦
            let none = free_none (places_of q) (held q) (λ i h e. unfound q.places le i h (sym (q.counted i) ∙ e)) in
            rw (le-ltb at (places_of q) le) (sym (answer_full (room_in q) n l proper (sym (room-full none))))
      ]
