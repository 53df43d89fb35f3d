-- What a test keeps of a list.
use Rattle.std.specs.Prelude.{◌≡◌, Bool, List, [], ◌∷◌, if◌then◌else◌}

-- ys has the elements of xs of which the test said `true`, in their order; R x b: the test may say b of x
abbrev pub Keeps : {X : Type 0} → (X → Bool → Type 0) → List X → List X → Type 0
Keeps R [] ys = ys ≡ []
Keeps {X} R (x ∷ xs) ys = (b : Bool) × R x b × (zs : List X) × Keeps R xs zs × (ys ≡ (if b then x ∷ zs else zs))
