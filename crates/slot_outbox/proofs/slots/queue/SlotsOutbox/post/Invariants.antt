use Rattle.std.proofs.Common.{◌≡◌, ◌+◌, ◌≤◌, ◌++◌, length, drop}
use Rattle.outbox.specs.Notes.{notes_of}
use Rattle.slot_outbox.specs.Held.{capacity_of, held, waiting_in}
use Rattle.slot_outbox.proofs.slots.queue.SlotsOutbox.post.Given as goal

abbrev pub invariant-loop-subscriber : goal.invariant-loop-subscriber
invariant-loop-subscriber g l =
    let id = g.C.Client.identity in
    record {
      after : waiting_in id l.self ++ notes_of id l.content l.payload (drop l.subscriber-index l.to) ≡ waiting_in id l.initial.self ++ notes_of id l.content l.payload l.to;
      capacity : capacity_of l.self ≡ capacity_of l.initial.self;
      len : length (held l.self) ≡ length (held l.initial.self) + l.subscriber-index;
      fits : length (held l.initial.self) + length l.to ≤ capacity_of l.initial.self;
      short : length l.payload ≤ 256;
    }
