use Rattle.std.proofs.Common.{◌≡◌, is_some, sym, ap, ◌∙◌, rules}
use Rattle.std.proofs.lemmas.Iterator.{YieldsList-from_slice}
use Rattle.std.proofs.lemmas.Iterator.Search.{position_from_yields_List}
use Rattle.subscribers.specs.Held.{pairs, standings}
use Rattle.subscribers.specs.Pairs.{standing_of}
use Rattle.subscribers.specs.Standing.{place, same_pair}
use Rattle.subscribers.proofs.Lists.{position-map}
use Rattle.subscribers.proofs.Standings.{place-stands}
use Rattle.subscribers.proofs.list.Subscribers.find.Goals as goal

pub returns : goal.returns
returns g c =
    let id = g.C.Client.identity in
    let x = standing_of id c.args.pair.now in
    let s = c.args.self.now in
    let found : c.position.result ≡ place (standings s) x =
    position_from_yields_List (λ p. same_pair (standing_of id p) x) _ _ c.position.result c.position.ensures.ran (YieldsList-from_slice (pairs s) cc) (λ x b q k. search rules)
    ∙ sym (position-map (standing_of id) (λ y. same_pair y x) (pairs s)) in
    record { answer = found; stands = ap is_some found ∙ place-stands (standings s) x }
