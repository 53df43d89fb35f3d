use Rattle.std.proofs.Common.{◌≡◌, ℕ, cond, ltb, not, length, sym, ap, ◌∙◌, arith, rules}
use Rattle.std.proofs.lemmas.List.{length-take-le}
use Rattle.subscribers.specs.Held.{pairs, standings}
use Rattle.subscribers.specs.Pairs.{others, standing_of, standings_of}
use Rattle.subscribers.specs.Standing.{same_pair, stands, without}
use Rattle.subscribers.proofs.Keeping.{Keeps-filter}
use Rattle.subscribers.proofs.Leaving.{without_gone, without_one, without-rest, without_tells}
use Rattle.subscribers.proofs.Lists.{filter-map}
use Rattle.subscribers.proofs.Standings.{len-standings}
use Rattle.subscribers.proofs.list.Subscribers.remove.Goals as goal

pub returns : goal.returns
returns g c =
    let id = g.C.Client.identity in
    let x = standing_of id c.args.pair.now in
    let s = c.args.self.now in
    let t = c.retain.new.self in
    let l = standings s in
    let after : pairs t ≡ others id x (pairs s) = Keeps-filter _ (λ p. not (same_pair (standing_of id p) x)) (λ p b k. search rules) (pairs s) (pairs t) c.retain.ensures.kept in
    let standing : standings t ≡ without x l = ap (standings_of id) after ∙ sym (filter-map (standing_of id) (λ y. not (same_pair y x)) (pairs s)) in
    let short : t.len ≡ length (without x l) = len-standings t ∙ ap length standing in
    let long : s.len ≡ length l = len-standings s in
    let answer : ltb t.len s.len ≡ stands l x = ap (λ m. ltb m s.len) short ∙ ap (λ m. ltb (length (without x l)) m) long ∙ without_tells x l s.once in
    let left : cond {A = ℕ} (ltb t.len s.len) 1 0 ≡ cond {A = ℕ} (stands l x) 1 0 = ap (λ b. cond {A = ℕ} b 1 0) answer in
    record {
      answer = answer;
      after = after;
      standing = standing;
      gone = ap (λ m. stands m x) standing ∙ without_gone x l;
      rest = (λ z ne. ap (λ m. stands m z) standing ∙ without-rest x l z ne);
      one = omega (arith, left, short, long, without_one x l s.once, length-take-le t.len t.places.now t.within, length-take-le s.len s.places.now s.within);
      once = t.once;
      capacity = c.retain.ensures.capacity;
    }
