-- Laws of writing into a buffer from its front, and what fits it.
use Rattle.std.proofs.Common.{◌≡◌, ℕ, ◌≤◌, leb, List, ◌++◌, length, drop, Some, None, sym, ap, ◌∙◌, zero-add}
use Rattle.std.proofs.lemmas.Bool.{cond-true, le-leb}
use Rattle.map_writer.specs.Buffers.{overlaid, len_if_fits, placed_if_fits}

-- from the front of the buffer
pub overlaid-front : (buffer xs : List ℕ) → overlaid buffer 0 xs ≡ xs ++ drop (length xs) buffer
overlaid-front buffer xs = ap (λ k. xs ++ drop k buffer) (zero-add (length xs))

-- bytes that fit a buffer, and were placed at its front
module _ (bytes buffer : List ℕ) where
  pub fits-len : (n : ℕ) → length bytes ≤ length buffer → n ≡ length bytes → Some n ≡ len_if_fits bytes buffer
  fits-len n fits e = ap Some e ∙ sym (cond-true (leb (length bytes) (length buffer)) (Some (length bytes)) None (le-leb (length bytes) (length buffer) fits))

  pub fits_placed : (next : List ℕ) → length bytes ≤ length buffer → next ≡ bytes ++ drop (length bytes) buffer → next ≡ placed_if_fits bytes buffer
  fits_placed next fits e = e ∙ sym (cond-true (leb (length bytes) (length buffer)) (bytes ++ drop (length bytes) buffer) buffer (le-leb (length bytes) (length buffer) fits))
