use Rattle.std.proofs.Common.{rules, tests, arith, ap, ◌∙◌}
use Rattle.std.specs.Option.{option_map}
use Rattle.std.proofs.lemmas.Bool.Decides.{nat_tests}
use Rattle.std.proofs.lemmas.Iterator.{YieldsList-from_slice}
use Rattle.std.proofs.lemmas.Iterator.Consumers.{YieldsList-from_filter_map, reduce_from_yields_List}
use Rattle.protocol.specs.declared.names.Handle.{Handle}
use Rattle.store.proofs.Maps.{lowest-next, lowest_one}
use Rattle.table_store.specs.Laws.{sound-map}
use Rattle.table_store.specs.Places.{map_of, topic_of}
use Rattle.table_store.proofs.Lowest.{lowest-min}
use Rattle.table_store.proofs.as_store.TableStoreStore.next.Goals as goal

pub returns : goal.returns
returns c =
    let s = c.args.self.now in
    let after = c.args.after in
    let e = reduce_from_yields_List _ _ c.min.result c.min.ensures.ran
    (YieldsList-from_filter_map _ (λ p. topic_of p after) (YieldsList-from_slice s.places cc) c.filter_map.ensures.closure (λ x r q k. search (rules, tests))) in
    ap (option_map (λ (h : Handle). h.0)) e
    ∙ lowest_one (map_of s.places) after.0 _ _ (lowest-min _ (λ a b. grind (arith, nat_tests)) s.places after) (lowest-next (map_of s.places) after.0 (sound-map s.places s.tidy))
