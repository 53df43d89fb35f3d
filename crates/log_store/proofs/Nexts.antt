-- The lowest handle of a walk over entries is the next one of the map that they mean.
use Rattle.std.proofs.Common.{◌≡◌, ℕ, true, List, [], ◌∷◌, Some, None, Option, sym, refl, ap, ◌∙◌}
use Rattle.std.specs.List.{fold}
use Rattle.std.specs.Option.{option_map}
use Rattle.protocol.specs.declared.names.Handle.{Handle}
use Rattle.store.specs.Held.{Entry, next}
use Rattle.store.specs.Laws.{Lowest}
use Rattle.store.specs.Scans.{candidate, lower}
use Rattle.store.proofs.Maps.{lowest-next, lowest_one}
use Rattle.store.proofs.Scans.{lower_assoc, lower_none, lowest-put}
use Rattle.log_store.specs.Format.{all_fit}
use Rattle.log_store.specs.Logs.{meaning}
use Rattle.log_store.specs.Laws.{sound-meaning}

-- the lowest handle of entries of properties above a handle
abbrev lowest : List Entry → ℕ → Option ℕ
lowest [] after = None
lowest (e ∷ es) after = lower (candidate e.key after) (lowest es after)

lowest-entries : (es : List Entry) (after : ℕ) → Lowest (meaning es) after (lowest es after)
lowest-entries [] after = λ h b. refl
lowest-entries (e ∷ es) after = lowest-put (meaning es) e.key e.value after (lowest es after) (lowest-entries es after)

lowest-is : (es : List Entry) (after : ℕ) → all_fit es ≡ true → lowest es after ≡ next (meaning es) after
lowest-is es after a = lowest_one (meaning es) after (lowest es after) (next (meaning es) after) (lowest-entries es after) (lowest-next (meaning es) after (sound-meaning es a))

-- handles as numbers, and back
abbrev numbers : Option Handle → Option ℕ
numbers o = option_map (λ h. h.0) o

abbrev handles : Option ℕ → Option Handle
handles o = option_map (λ n. record { 0 = n }) o

pub handles-numbers : (o : Option Handle) → handles (numbers o) ≡ o
handles-numbers None = refl
handles-numbers (Some h) = refl

numbers-handles : (o : Option ℕ) → numbers (handles o) ≡ o
numbers-handles None = refl
numbers-handles (Some n) = refl

-- a step of the walk
abbrev pub lower_at : ℕ → Option Handle → Entry → Option Handle
lower_at after best e = handles (lower (numbers best) (candidate e.key after))

lower-fold : (after : ℕ) (es : List Entry) (best : Option Handle) → numbers (fold (lower_at after) best es) ≡ lower (numbers best) (lowest es after)
lower-fold after [] best = sym (lower_none (numbers best))
lower-fold after (e ∷ es) best =
    lower-fold after es (lower_at after best e)
    ∙ ap (λ o. lower o (lowest es after)) (numbers-handles (lower (numbers best) (candidate e.key after)))
    ∙ lower_assoc (numbers best) (candidate e.key after) (lowest es after)

pub next-fold : (after : ℕ) (es : List Entry) → all_fit es ≡ true → option_map (λ h. h.0) (fold (lower_at after) None es) ≡ next (meaning es) after
next-fold after es a = lower-fold after es None ∙ lowest-is es after a
