use Rattle.std.proofs.Common.{◌≡◌, ℕ, List, ◌<◌, ◌^◌, cond, eqb, filter, length, sum_by, sym, ◌∙◌, arith, of_calls, rules, tests}
use Rattle.std.proofs.lemmas.Iterator.{YieldsList-from_map, YieldsList-from_slice}
use Rattle.std.proofs.lemmas.Iterator.Consumers.{fits_by_from_yields_list, sum_by_from_yields_List}
use Rattle.std.proofs.lemmas.List.{length-map}
use Rattle.std.proofs.lemmas.List.Sums.{length-filter}
use Rattle.subscribers.specs.Held.{pairs}
use Rattle.subscribers.specs.Pairs.{subscribers_at}
use Rattle.subscribers.specs.declared.subscription.Subscription.{Subscription}
use Rattle.subscribers.proofs.Standings.{count_standings}
use Rattle.subscribers.proofs.list.Subscribers.count.Goals as goal

-- 1 for each pair of the handle makes as many as its subscribers are
counted : {C : Type 0} (h : ℕ) (ps : List (Subscription C)) → sum_by (λ p. cond (eqb p.handle.0 h) 1 0) ps ≡ length (subscribers_at h ps)
counted h ps = sym (length-map (filter (λ p. eqb p.handle.0 h) ps) (λ p. p.subscriber) ∙ length-filter (λ p. eqb p.handle.0 h) ps)

-- at most 100
pub sum-requires : goal.sum-requires
sum-requires g c =
    let h = c.args.handle.0 in
    let ps = pairs c.args.self.now in
    let fits : sum_by (λ p. cond (eqb p.handle.0 h) 1 0) ps < 2 ^ 32 = omega (arith, counted h ps, c.args.self.now.few h) in
    record {
      can = search of_calls;
      finite = search of_calls;
      fits = fits_by_from_yields_list _ ps c.map.result _ (YieldsList-from_map _ (λ p. cond (eqb p.handle.0 h) 1 0) (YieldsList-from_slice ps cc) c.map.ensures.closure (λ x r q k. search (rules, tests))) fits;
    }

pub returns : goal.returns
returns g c =
    let h = c.args.handle.0 in
    let ps = pairs c.args.self.now in
    let answer : c.sum.result ≡ length (subscribers_at h ps) =
    sum_by_from_yields_List (λ p. cond (eqb p.handle.0 h) 1 0) ps c.map.result c.sum.result c.sum.ensures.ran (YieldsList-from_map _ (λ p. cond (eqb p.handle.0 h) 1 0) (YieldsList-from_slice ps cc) c.map.ensures.closure (λ x r q k. search (rules, tests)))
    ∙ counted h ps in
    record { answer = answer; standing = answer ∙ sym (count_standings g.C.Client.identity h ps); few = omega (arith, c.args.self.now.few h) }
