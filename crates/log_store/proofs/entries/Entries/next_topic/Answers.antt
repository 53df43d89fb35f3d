use Rattle.std.proofs.Common.{◌≡◌, refl, sym, ap, ◌∙◌, None, rules}
use Rattle.std.proofs.lemmas.Iterator.Consumers.{YieldsList-from_first, fold_from_yields_List}
use Rattle.std.specs.Option.{option_map}
use Rattle.store.specs.Scans.{candidate, lower}
use Rattle.log_store.specs.Entries.{entry_of, to_come}
use Rattle.log_store.specs.Format.{entries}
use Rattle.log_store.proofs.Nexts.{handles-numbers, lower_at, next-fold}
use Rattle.log_store.proofs.entries.Entries.next_topic.Goals as goal

pub returns : goal.returns
returns c =
    let es = entries c.args.self.rest.now in
    let f = fold_from_yields_List _ (lower_at c.args.after.0) None c.fold.result c.fold.ensures.ran (YieldsList-from_first entry_of to_come es refl)
    (λ a x b q k. let e : option_map (λ h. h.0) b ≡ lower (option_map (λ h. h.0) a) (candidate x.key c.args.after.0) = search rules in (search rules, sym (handles-numbers b) ∙ ap (option_map (λ n. record { 0 = n })) e)) in
    ap (option_map (λ h. h.0)) f ∙ next-fold c.args.after.0 es c.args.self.log.fits
