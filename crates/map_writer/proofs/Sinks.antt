-- Bytes put into a sink part by part.
use Rattle.std.proofs.Common.{ℕ, List, ◌++◌}
use Rattle.map_writer.specs.Sinks.{SinkLaws}

module _ {S : Type 0} {Fits : S → List ℕ → Type 0} {Takes : S → List ℕ → S → Type 0} (laws : SinkLaws Fits Takes) where
  -- what fits begins with what fits
  pub front : {s : S} {xs : List ℕ} (ys : List ℕ) → Fits s (xs ++ ys) → Fits s xs
  front {s} {xs} ys h = laws.front s xs ys h

  -- once a part is put, the rest fits
  pub rest : {s t : S} {xs ys : List ℕ} → Fits s (xs ++ ys) → Takes s xs t → Fits t ys
  rest {s} {t} {xs} {ys} h p = laws.behind s t xs ys h p

  -- a part, and the rest behind it
  pub both : {s t u : S} {xs ys : List ℕ} → Fits s (xs ++ ys) → Takes s xs t → Takes t ys u → Takes s (xs ++ ys) u
  both {s} {t} {u} {xs} {ys} h p q = laws.both s t u xs ys h p q
