-- Where the bytes of a map go: what holds of every kind of sink.
use Rattle.std.specs.Prelude.{ℕ, List, [], ◌++◌}

-- putting nothing changes nothing, and bytes that fit together may be put one part behind the other
pub record SinkLaws {S : Type 0} (Fits : S → List ℕ → Type 0) (Takes : S → List ℕ → S → Type 0) : Type 0 where
  pub nothing : (s : S) → Fits s [] → Takes s [] s
  pub front : (s : S) (xs ys : List ℕ) → Fits s (xs ++ ys) → Fits s xs
  pub behind : (s t : S) (xs ys : List ℕ) → Fits s (xs ++ ys) → Takes s xs t → Fits t ys
  pub both : (s t u : S) (xs ys : List ℕ) → Fits s (xs ++ ys) → Takes s xs t → Takes t ys u → Takes s (xs ++ ys) u
