use Rattle.std.proofs.Common.{drop, sym, ap, ◌∙◌, arith}
use Rattle.outbox.specs.Rings.{place}
use Rattle.outbox.proofs.Rings.{ring_out}
use Rattle.outbox.proofs.ring.Ring.drop_first.Goals as goal

pub returns-then-self-gt0-clause-items : goal.returns-then-self-gt0-clause-items
returns-then-self-gt0-clause-items g c =
    let r = c.self.inside in
    let capacity = c.capacity.ensures ∙ sym (ap (λ q. q.capacity) c.self.view_is) in
    let next = c.place_of-self-inside.ensures ∙ ap (place r.start 1) capacity in
    ring_out r.start r.len _ r.places.now c.self.invariant.0 (omega arith) c.self.invariant.1 next
    ∙ ap (λ q. drop 1 q.items) c.self.view_is
