use Rattle.std.proofs.Common.{◌≡◌, ◌+◌, ◌<◌, ◌≤◌, ◌++◌, length, get_or, drop}
use Rattle.outbox.specs.Notes.{notes_of}
use Rattle.shared_outbox.specs.Held.{bodies_in, capacity_of, held, places_of, waiting_in}
use Rattle.shared_outbox.specs.Places.{blank}
use Rattle.shared_outbox.proofs.shared.queue.SharedOutbox.post.Given as goal

abbrev pub invariant-loop-subscriber : goal.invariant-loop-subscriber
invariant-loop-subscriber g l =
    let id = g.C.Client.identity in
    let body = get_or (bodies_in l.initial.self) l.place blank in
    record {
      after : waiting_in id l.self ++ notes_of id body.content body.payload (drop l.subscriber-index l.to) ≡ waiting_in id l.initial.self ++ notes_of id body.content body.payload l.to;
      capacity : capacity_of l.self ≡ capacity_of l.initial.self;
      len : length (held l.self) ≡ length (held l.initial.self) + l.subscriber-index;
      fits : length (held l.initial.self) + length l.to ≤ capacity_of l.initial.self;
      bodies : bodies_in l.self ≡ bodies_in l.initial.self;
      within : l.place < places_of l.initial.self;
    }
