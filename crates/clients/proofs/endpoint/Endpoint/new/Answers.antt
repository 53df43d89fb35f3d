use Rattle.std.proofs.Common.{◌≡◌, length, sym, refl, ap, ◌∙◌, rules}
use Rattle.protocol.specs.Bytes.{be_bytes, be_number}
use Rattle.protocol.proofs.Bytes.{number16, be_of_number, all_from_places}
use Rattle.clients.proofs.endpoint.Endpoint.new.Goals as goal

pub returns : goal.returns
returns c =
    let bs = c.args.address in
    let n : length bs ≡ 16 = search rules in
    record {
      address = ap (be_bytes 16) (c.from_be_bytes.ensures ∙ number16 bs n) ∙ ap (λ k. be_bytes k (be_number bs)) (sym n) ∙ be_of_number bs (all_from_places bs (λ i. search rules));
      port = refl;
    }
