use Rattle.std.proofs.Common.{true, rules}
use Rattle.std.proofs.lemmas.List.{places}
use Rattle.log_store.proofs.Stores.{squeezed}
use Rattle.log_store.proofs.memory.Memory.make_room.Goals as goal

pub invariant_of-self : goal.invariant_of-self
invariant_of-self c = record { within = search (rules, places); log = (squeezed c.args.key true c.sift-self.result _ c.sift-self.new.bytes _ c.args.self.now.log c.sift-self.ensures.len c.sift-self.ensures.after).log }

pub returns-clause-log : goal.returns-clause-log
returns-clause-log c = (squeezed c.args.key true c.sift-self.result _ c.sift-self.new.bytes _ c.args.self.now.log c.sift-self.ensures.len c.sift-self.ensures.after).are
