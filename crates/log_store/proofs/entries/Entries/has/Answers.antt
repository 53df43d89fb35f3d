use Rattle.std.proofs.Common.{is_some, refl, sym, ap, ◌∙◌, rules}
use Rattle.std.proofs.lemmas.Iterator.Consumers.{YieldsList-from_first}
use Rattle.std.proofs.lemmas.Iterator.Search.{any_from_yields_List}
use borrow.Author.Tests.{tests}
use Rattle.store.specs.Held.{same_key}
use Rattle.log_store.specs.Entries.{entry_of, to_come}
use Rattle.log_store.specs.Format.{entries}
use Rattle.log_store.proofs.Meanings.{look-meaning}
use Rattle.log_store.proofs.Walks.{look-any}
use Rattle.log_store.proofs.entries.Entries.has.Goals as goal

pub returns-clause-log : goal.returns-clause-log
returns-clause-log c =
    let es = entries c.args.self.rest.now in
    any_from_yields_List (λ e. same_key e.key c.args.key) c.any.new.self _ c.any.result c.any.ensures.ran (YieldsList-from_first entry_of to_come es refl) (λ x b q k. search (rules, tests))
    ∙ sym (look-any es c.args.key)

pub returns-clause-map : goal.returns-clause-map
returns-clause-map c = returns-clause-log c ∙ ap is_some (sym (look-meaning (entries c.args.self.rest.now) c.args.key))
