use Rattle.std.proofs.Common.{◌≡◌, sym, ap, ◌∙◌, subst, arith, length-set, rules}
use Rattle.std.proofs.lemmas.List.{map_push}
use Rattle.subscribers.specs.declared.joined.Joined.TheVariants as joined
use Rattle.subscribers.specs.Held.{pairs, room, standings}
use Rattle.subscribers.specs.Pairs.{Few, standing_of, standings_of}
use Rattle.subscribers.specs.Standing.{Once, has_place, stands}
use Rattle.subscribers.proofs.Standings.{added_facts, count_standings, few_push, len-standings, once_push, pairs_push, stands_push}
use Rattle.subscribers.proofs.list.Subscribers.add.Goals as goal

pub invariant_of-self : goal.invariant_of-self
invariant_of-self g c =
    let id = g.C.Client.identity in
    let s = c.args.self.now in
    let p = c.args.pair in
    let told : c.joining-told.result ≡ joined.Added = search rules in
    let facts = added_facts (standings s) (room s) (standing_of id p) (sym told ∙ c.joining-told.ensures) in
    let after = pairs_push s p (sym told ∙ c.joining-told.ensures) in
    record {
      within = omega (arith, facts.2, len-standings s, length-set s.places.now s.len p);
      few = subst Few (sym after) (few_push (pairs s) p (omega (arith, facts.1, count_standings id p.handle.0 (pairs s))) s.few);
      once = subst Once (sym (ap (standings_of id) after ∙ map_push (standing_of id) (pairs s) p)) (once_push (standings s) (standing_of id p) facts.0 s.once);
    }

pub returns-then-eq-clause-stands : goal.returns-then-eq-clause-stands
returns-then-eq-clause-stands g c =
    let id = g.C.Client.identity in
    let s = c.args.self.now in
    let p = c.args.pair in
    let told : c.joining-told.result ≡ joined.Added = search rules in
    ap (λ ps. stands (standings_of id ps) (standing_of id p)) (pairs_push s p (sym told ∙ c.joining-told.ensures))
    ∙ ap (λ l. stands l (standing_of id p)) (map_push (standing_of id) (pairs s) p)
    ∙ stands_push (standings s) (standing_of id p)
    ∙ ap has_place (sym told)
