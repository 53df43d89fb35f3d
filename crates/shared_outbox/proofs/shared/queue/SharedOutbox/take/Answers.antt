use Rattle.shared_outbox.proofs.Firsts.{first-within}
use Rattle.shared_outbox.proofs.shared.queue.SharedOutbox.take.Goals as goal

pub read-len-requires-clause-within : goal.read-len-requires-clause-within
read-len-requires-clause-within g c = first-within c.args.self.now c.in-Some.entry.now c.in-Some.ensures

pub release-requires-clause-within : goal.release-requires-clause-within
release-requires-clause-within g c = first-within c.args.self.now c.in-Some.entry.now c.in-Some.ensures
