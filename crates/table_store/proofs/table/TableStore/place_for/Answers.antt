use Rattle.std.proofs.Common.{rules, ◌≡◌, IfSome, sym, ap, ◌∙◌, is_some, subst}
use Rattle.table_store.specs.Places.{Fit}
use Rattle.table_store.proofs.Finds.{fit-own_or_free, own_or_free, own_or_free-some}
use Rattle.table_store.proofs.table.TableStore.place_for.Goals as goal

pub returns : goal.returns
returns c =
    let s = c.args.self.now in
    let ps = s.places in
    let k = c.args.key in
    let e : c.or_else.result ≡ own_or_free ps k = search rules in
    record {
      answer = ap is_some e ∙ own_or_free-some ps k;
      place = subst (λ r. IfSome r (Fit ps k)) (sym e) (fit-own_or_free ps k s.tidy);
    }
