use Rattle.std.proofs.Common.{ℕ, [], ◌∷◌, get_or, refl, ap, ◌∙◌}
use Rattle.protocol.proofs.Bytes.{number2, number4}
use Rattle.log_store.specs.Format.{key_at, len_at}
use Rattle.log_store.proofs.trailer.read.Goals as goal

pub returns : goal.returns
unfolding key_at len_at
returns c =
    let at : ℕ → ℕ = λ k. get_or c.args.trailer.now k 0 in
    record {
      key = ap (λ h. record { handle = record { 0 = h }; part = at 4 }) (c.from_be_bytes.ensures ∙ number4 (at 0 ∷ at 1 ∷ at 2 ∷ at 3 ∷ []) refl);
      len = c.from.ensures ∙ c.from_be_bytes-2.ensures ∙ number2 (at 5 ∷ at 6 ∷ []) refl;
    }
