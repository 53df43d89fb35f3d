-- The oldest entry of a shared outbox, and those behind it.
use Rattle.std.proofs.Common.{◌≡◌, ℕ, ◌<◌, List, [], ◌∷◌, drop, Some, sym, ap, ◌∙◌, arith}
use Rattle.std.specs.List.{slice_get}
use Rattle.shared_outbox.specs.declared.entry.Entry.{Entry}
use Rattle.shared_outbox.specs.declared.shared.Shared.{Shared}
use Rattle.shared_outbox.proofs.Contents.{counts-length}
use Rattle.shared_outbox.proofs.Counts.{named_within}
use Rattle.shared_outbox.specs.Entries.{uses}
use Rattle.shared_outbox.specs.Held.{held, places_of}
use Rattle.shared_outbox.specs.Places.{counts, users_at}

-- a list whose first element is known
first-split : {X : Type 0} (xs : List X) (x : X) → Some x ≡ slice_get xs 0 → xs ≡ x ∷ drop 1 xs
first-split [] x e = absurd (cc)
first-split (y ∷ ys) x e = cc

module _ {C : Type 0} (q : Shared C) (e : Entry C) (first : Some e ≡ slice_get (held q) 0) where
  held-split : held q ≡ e ∷ drop 1 (held q)
  held-split = first-split (held q) e first

  counted-first : (i : ℕ) → uses i (e ∷ drop 1 (held q)) ≡ users_at q.places i
  counted-first i = sym (ap (uses i) held-split) ∙ q.counted i

  -- the place that it names is one
  pub first-within : e.place < places_of q
  first-within = omega (arith, named_within (drop 1 (held q)) e (counts q.places) counted-first, counts-length q.places)
