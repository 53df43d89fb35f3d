use Rattle.std.proofs.Common.{◌∙◌, arith, rules}
use Rattle.std.proofs.lemmas.Iterator.{YieldsList-from_slice}
use Rattle.std.proofs.lemmas.Iterator.Consumers.{fold_from_yields_List}
use Rattle.protocol.proofs.Bytes.{all_from_places}
use Rattle.maps.proofs.Numbers.{shifted, number_from}
use Rattle.maps.proofs.reader.number.Goals as goal

pub returns : goal.returns
returns c =
    fold_from_yields_List _ shifted 0 c.fold.result c.fold.ensures.ran (YieldsList-from_slice c.args.bytes.now cc) (λ a x b q k. search rules)
    ∙ number_from 0 0 c.args.bytes.now (all_from_places c.args.bytes.now (λ i. search rules)) (omega arith) (omega arith)
    ∙ omega arith
