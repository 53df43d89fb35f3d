use Rattle.std.proofs.Common.{ap, rules}
use Rattle.log_store.specs.Logs.{meaning}
use Rattle.log_store.proofs.Format.{entries_none, log_none}
use Rattle.log_store.proofs.memory.Memory.new.Goals as goal

pub invariant_of-result : goal.invariant_of-result
invariant_of-result c = record { within = search rules; log = log_none }

pub returns-clause-after : goal.returns-clause-after
returns-clause-after c = ap meaning entries_none
