use Rattle.std.proofs.Common.{◌≡◌, ◌-◌, ◌≤◌, ◌++◌, length, take, replicate, ap, ◌∙◌, arith, rules}
use Rattle.protocol.specs.Bytes.{be_bytes, be_number}
use Rattle.protocol.proofs.Bytes.{number8, all_from_places}
use Rattle.std.proofs.lemmas.Bool.Decides.{nat_tests}
use Rattle.clients.proofs.Tokens.{length_padded, padded_token}
use Rattle.clients.proofs.token.Token.new.Goals as goal

pub returns : goal.returns
returns c =
    let bs = c.args.bytes.now in
    let short : length bs ≤ 8 = omega arith in
    let bits : c.from_be_bytes-bits.result ≡ be_number (bs ++ replicate (8 - length bs) 0) =
    c.from_be_bytes-bits.ensures ∙ number8 c.padded.result (ap length c.padded.ensures ∙ length_padded bs short) ∙ ap be_number c.padded.ensures in
    record {
      test = grind (arith, nat_tests);
      value = ap (λ b. take (length bs) (be_bytes 8 b)) bits ∙ padded_token bs short (all_from_places bs (λ i. let f = c.type_inv.bytes i in search rules));
    }
