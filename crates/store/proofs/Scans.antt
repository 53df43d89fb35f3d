-- Laws of a scan over keys for the next topic.
use Rattle.std.proofs.Common.{◌≡◌, ℕ, ◌<◌, false, ◌&&◌, ◌||◌, eqb, ltb, List, Some, None, Option, refl, ap, arith}
use Rattle.std.proofs.lemmas.Bool.{cond_both}
use Rattle.std.proofs.lemmas.Bool.Decides.{nat_tests}
use Rattle.std.specs.Option.{option_map}
use Rattle.protocol.specs.declared.names.Handle.{Handle}
use Rattle.store.specs.declared.key.Key.{Key}
use Rattle.store.specs.Held.{Entry, put, same_key}
use Rattle.store.specs.Laws.{Lowest, has_properties}
use Rattle.store.specs.Scans.{candidate, lower, topic_above}
use Rattle.store.proofs.Maps.{look-put}

pub lower_none : (a : Option ℕ) → lower a None ≡ a
lower_none None = refl
lower_none (Some a) = refl

pub lower_assoc : (a b c : Option ℕ) → lower (lower a b) c ≡ lower a (lower b c)
lower_assoc None b c = refl
lower_assoc (Some a) None c = refl
lower_assoc (Some a) (Some b) None = refl
lower_assoc (Some a) (Some b) (Some c) = ap Some (grind (arith, nat_tests))

-- a topic above a handle, as a number
pub topic_candidate : (k : Key) (after : Handle) → option_map (λ (h : Handle). h.0) (topic_above k after) ≡ candidate k after.0
topic_candidate k after = grind (arith, nat_tests)

-- the map fs has the properties of the map es, and those of the key
abbrev pub OneMore : List Entry → Key → List Entry → Type 0
OneMore es k fs = (h : ℕ) → has_properties fs h ≡ (same_key k (record { handle = record { 0 = h }; part = 0 }) || has_properties es h)

-- a key that counts
lowest_with : (es fs : List Entry) (k : Key) (after : ℕ) (r : Option ℕ) → OneMore es k fs → after < k.handle.0 → k.part ≡ 0
    → Lowest es after r → Lowest fs after (lower (Some k.handle.0) r)
lowest_with es fs k after None m a z l =
    (a, (let e = m k.handle.0 in grind (arith, nat_tests)), λ h b i. (let e = m h in let x = l h b in grind (arith, nat_tests)))
lowest_with es fs k after (Some n) m a z l =
    let x = l.0 in
    let y = l.1 in
    let e = m n in
    let f = m k.handle.0 in
    cond_both (ltb n k.handle.0) n k.handle.0 (λ o. Lowest fs after (Some o))
    (λ t. (x, grind (arith, nat_tests), λ h b i. (let u = l.2 h b in let g = m h in grind (arith, nat_tests))))
    (λ t. (a, grind (arith, nat_tests), λ h b i. (let u = l.2 h b in let g = m h in grind (arith, nat_tests))))

-- a key that does not count
lowest-without : (es fs : List Entry) (k : Key) (after : ℕ) (r : Option ℕ) → OneMore es k fs → (eqb k.part 0 && ltb after k.handle.0) ≡ false
    → Lowest es after r → Lowest fs after r
lowest-without es fs k after None m c l = λ h b. (let e = m h in let x = l h b in grind (arith, nat_tests))
lowest-without es fs k after (Some n) m c l =
    let x = l.0 in
    let y = l.1 in
    (x, (let e = m n in grind (arith, nat_tests)), λ h b i. l.2 h b (let e = m h in grind (arith, nat_tests)))

-- the lowest handle with one key more
pub lowest_more : (es fs : List Entry) (k : Key) (after : ℕ) (r : Option ℕ) → OneMore es k fs → Lowest es after r → Lowest fs after (lower (candidate k after) r)
lowest_more es fs k after r m l =
    cond_both (eqb k.part 0 && ltb after k.handle.0) (Some k.handle.0) None (λ o. Lowest fs after (lower o r))
    (λ y. lowest_with es fs k after r m (grind (arith, nat_tests)) (grind (arith, nat_tests)) l)
    (λ n. lowest-without es fs k after r m n l)

-- the lowest handle after a put
pub lowest-put : (es : List Entry) (k : Key) (v : List ℕ) (after : ℕ) (r : Option ℕ) → Lowest es after r → Lowest (put es k v) after (lower (candidate k after) r)
lowest-put es k v after r =
    lowest_more es (put es k v) k after r (λ h. (let l = look-put es k v (record { handle = record { 0 = h }; part = 0 }) in grind arith))
