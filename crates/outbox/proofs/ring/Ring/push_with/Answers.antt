use Rattle.std.proofs.Common.{◌<◌, [], ◌∷◌, ◌++◌, length, sym, refl, ap, ◌∙◌, subst, arith}
use Rattle.outbox.specs.Rings.{place}
use Rattle.outbox.proofs.Rings.{length-ring, ring_in}
use Rattle.outbox.proofs.ring.Ring.push_with.Goals as goal

pub returns-clause-items : goal.returns-clause-items
returns-clause-items g c =
    let r = c.self.inside in
    let after = c.write.new.arg2 in
    let capacity = c.capacity-capacity.ensures ∙ sym (ap (λ q. q.capacity) c.self.view_is) in
    let at = c.place_of-at.ensures ∙ ap (place r.start r.len) capacity in
    let room = subst (λ q. length q.items < q.capacity) (sym c.self.view_is) c.requires.room in
    let free : r.len < length r.places.now = omega (arith, room, length-ring r.start r.len r.places.now (omega arith) c.self.invariant.1) in (
      _,
      after,
      record { shown = _; shows = refl; left = _; met = c.write.ensures; leaves = refl },
      ring_in r.start r.len _ r.places.now _ after c.self.invariant.0 free at refl
          ∙ ap (λ q. q.items ++ after ∷ []) c.self.view_is,
    )
