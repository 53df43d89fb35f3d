use Rattle.std.proofs.Common.{refl, sym, ap, ◌∙◌, rules}
use Rattle.std.proofs.lemmas.Iterator.Consumers.{YieldsList-from_first}
use Rattle.std.proofs.lemmas.Iterator.Search.{find_from_yields_List}
use Rattle.std.specs.Option.{option_map}
use borrow.Author.Tests.{tests}
use Rattle.store.specs.Held.{same_key}
use Rattle.log_store.specs.Entries.{entry_of, to_come}
use Rattle.log_store.specs.Format.{entries}
use Rattle.log_store.proofs.Meanings.{look-meaning}
use Rattle.log_store.proofs.Walks.{look-find, value_found}
use Rattle.log_store.proofs.entries.Entries.value_of.Goals as goal

pub returns-clause-value : goal.returns-clause-value
returns-clause-value c =
    let es = entries c.args.self.rest.now in
    let f = find_from_yields_List (λ e. same_key e.key c.args.key) c.find.new.self _ c.find.result c.find.ensures.ran (YieldsList-from_first entry_of to_come es refl) (λ x b q k. search (rules, tests)) in
    value_found c.find.result c.map.result c.map.ensures.cases (λ x v k. search rules) ∙ ap (option_map (λ e. e.value)) f ∙ sym (look-meaning es c.args.key ∙ look-find es c.args.key)
