use Rattle.std.proofs.Common.{◌<◌, [], ◌∷◌, ◌++◌, length, sym, refl, ap, ◌∙◌, arith}
use Rattle.outbox.specs.Rings.{place}
use Rattle.outbox.proofs.Rings.{ring_in}
use Rattle.outbox.proofs.ring.Ring.push.Goals as goal

pub returns-clause-items : goal.returns-clause-items
returns-clause-items g c =
    let r = c.self.inside in
    let after = c.fill.new.place in
    let capacity = c.capacity-2.ensures ∙ sym (ap (λ q. q.capacity) c.self.view_is) in
    let at = c.place_of-at.ensures ∙ ap (place r.start r.len) capacity in
    let free : r.len < length r.places.now = omega arith in λ _. (
      _,
      after,
      c.fill.ensures,
      ring_in r.start r.len _ r.places.now _ after c.self.invariant.0 free at refl
          ∙ ap (λ q. q.items ++ after ∷ []) c.self.view_is,
    )
