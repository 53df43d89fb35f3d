use Rattle.std.proofs.Common.{◌<◌, ◌++◌, map, length, get_or, ap, ◌∙◌, arith}
use Rattle.std.proofs.lemmas.List.{get_or-set_same, length-map}
use Rattle.outbox.proofs.Posts.{posted_all}
use Rattle.outbox.specs.Notes.{notes_of}
use Rattle.shared_outbox.proofs.Counts.{notes-kept}
use Rattle.shared_outbox.specs.Entries.{note_at}
use Rattle.shared_outbox.specs.Held.{bodies_in, held, waiting_in}
use Rattle.shared_outbox.specs.Places.{Body, blank, bodies, body_of}
use Rattle.shared_outbox.proofs.shared.queue.SharedOutbox.post.Goals as goal

pub returns-clause-after : goal.returns-clause-after
returns-clause-after g c =
    let id = g.C.Client.identity in
    let q = c.args.self.now in
    let place = c.in_ok-place.place in
    let to = c.args.to.now in
    let body = get_or (bodies c.write.new.self) place blank in
    let found = c.in_ok-place.ensures in
    let within : place < length (bodies_in q) = omega (arith, found.0, length-map q.places body_of) in
    let brought = ap (λ bs. get_or bs place blank) c.write.ensures.bodies ∙ get_or-set_same (bodies_in q) place _ blank within in
    let kept = ap (λ bs. map (note_at id bs) (held q)) c.write.ensures.bodies ∙ notes-kept id (bodies_in q) place _ (held q) found.1 in
    posted_all id body.content body.payload to c.loop-subscriber.subscriber-index (waiting_in id c.loop-subscriber.self) _ c.loop-subscriber-test.false c.loop-subscriber.invariant.after
    ∙ ap (λ ws. ws ++ notes_of id body.content body.payload to) kept
    ∙ ap (λ (b : Body). waiting_in id q ++ notes_of id b.content b.payload to) brought
