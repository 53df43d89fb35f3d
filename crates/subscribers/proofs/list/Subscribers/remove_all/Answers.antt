use Rattle.std.proofs.Common.{◌≡◌, eqb, filter, map, not, length, sym, refl, ap, ◌∙◌, arith, rules}
use Rattle.std.proofs.lemmas.Bool.{eqb-true, ne_eqb, not-false, not-true}
use Rattle.std.proofs.lemmas.List.{length-map, length-take-le}
use Rattle.std.proofs.lemmas.List.Filters.{length-filter_both}
use Rattle.subscribers.specs.Held.{pairs}
use Rattle.subscribers.specs.Pairs.{elsewhere, standing_of, standings_of}
use Rattle.subscribers.proofs.Keeping.{Keeps-filter}
use Rattle.subscribers.proofs.Lists.{filter-filter_none, filter-filter_same, filter-map}
use Rattle.subscribers.proofs.list.Subscribers.remove_all.Goals as goal

pub returns : goal.returns
returns g c =
    let id = g.C.Client.identity in
    let h = c.args.handle.0 in
    let s = c.args.self.now in
    let t = c.retain.new.self in
    let ps = pairs s in
    let after : pairs t ≡ elsewhere h ps = Keeps-filter _ (λ p. not (eqb p.handle.0 h)) (λ p b k. search rules) ps (pairs t) c.retain.ensures.kept in
    let short = sym (length-take-le t.len t.places.now t.within) ∙ ap length after in
    let both = length-filter_both (λ p. eqb p.handle.0 h) (λ p. not (eqb p.handle.0 h)) (λ p. refl) ps in
    let those = length-map (filter (λ p. eqb p.handle.0 h) ps) (λ p. p.subscriber) in
    record {
      answer = omega (arith, short, both, those, length-take-le s.len s.places.now s.within);
      after = after;
      standing = ap (standings_of id) after ∙ sym (filter-map (standing_of id) (λ y. not (eqb y.handle h)) ps);
      gone = ap (λ l. map (λ p. p.subscriber) (filter (λ p. eqb p.handle.0 h) l)) after
          ∙ ap (map (λ p. p.subscriber)) (filter-filter_none (λ p. not (eqb p.handle.0 h)) (λ p. eqb p.handle.0 h) (λ p e. not-true _ e) ps);
      rest = (λ k ne. ap (λ l. map (λ p. p.subscriber) (filter (λ p. eqb p.handle.0 k) l)) after
          ∙ ap (map (λ p. p.subscriber)) (filter-filter_same (λ p. not (eqb p.handle.0 h)) (λ p. eqb p.handle.0 k) (λ p e. ne_eqb _ _ (λ i. ne (sym i ∙ eqb-true _ _ (not-false _ e)))) ps));
      once = t.once;
      capacity = c.retain.ensures.capacity;
    }
