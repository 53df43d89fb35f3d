use Rattle.std.proofs.Common.{◌≤◌, length, take, drop, sym, subst, arith, length-append}
use Rattle.std.specs.Fn.{FnReturnsAt}
use Rattle.std.proofs.lemmas.List.{take-append-le}
use Rattle.subscribers.specs.Held.{pairs}
use Rattle.subscribers.specs.Kept.{Keeps}
use Rattle.subscribers.specs.Pairs.{Few, standings_of}
use Rattle.subscribers.specs.Standing.{Once}
use Rattle.subscribers.proofs.Leaving.{few_kept, once_kept}
use Rattle.subscribers.proofs.list.Subscribers.retain.Goals as goal

pub invariant_of-self-2 : goal.invariant_of-self-2
invariant_of-self-2 g c =
    let id = g.C.Client.identity in
    let R = FnReturnsAt g.F.Fn c.args.keep in
    let s = c.args.self.now in
    let row = c.retain-self.new.row in
    let kept = c.retain-self.ensures.kept in
    let inside : c.retain-self.result ≤ length row = omega (arith, c.retain-self.ensures.within, c.retain-self.auto.row) in
    let front = take-append-le c.retain-self.result row (drop s.len s.places.now) inside in
    record {
      within = omega (arith, length-append row (drop s.len s.places.now));
      few = subst Few (sym front) (few_kept R (pairs s) (take c.retain-self.result row) kept s.few);
      once = subst (λ ps. Once (standings_of id ps)) (sym front) (once_kept R id (pairs s) (take c.retain-self.result row) kept s.once);
    }

pub returns-clause-kept : goal.returns-clause-kept
returns-clause-kept g c =
    let s = c.args.self.now in
    let row = c.retain-self.new.row in
    let inside : c.retain-self.result ≤ length row = omega (arith, c.retain-self.ensures.within, c.retain-self.auto.row) in
    let front = take-append-le c.retain-self.result row (drop s.len s.places.now) inside in
    subst (λ ps. Keeps (FnReturnsAt g.F.Fn c.args.keep) (pairs s) ps) (sym front) c.retain-self.ensures.kept
