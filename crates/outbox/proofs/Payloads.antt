-- Fronts of lists, as a payload is copied in.
use Rattle.std.proofs.Common.{◌≡◌, ℕ, min, List, ◌++◌, length, take, sym, ap, ◌∙◌, inl, inr, arith}
use Rattle.std.proofs.lemmas.List.{take_all, take_at, length-take-le}
use Rattle.std.proofs.lemmas.Bool.{cases_lt}

-- the front that was written is what was copied, as far as there is room
pub written : {X : Type 0} (front bs old : List X) (n k : ℕ) → n ≡ min (length bs) k → front ≡ take n bs → take n (front ++ old) ≡ take k bs
written front bs old n k e f =
    let l : length (take n bs) ≡ n = length-take-le n bs (omega arith) in
    ap (λ t. take n (t ++ old)) f ∙ take_at (take n bs) old n l
    ∙ elim (cases_lt k (length bs)) [
      | inl lt ↦ (let m : n ≡ k = omega arith in ap (λ j. take j bs) m)
      | inr le ↦ take_all n bs (omega arith) ∙ sym (take_all k bs (omega arith))
    ]
