use Rattle.std.proofs.Common.{false}
use Rattle.log_store.specs.Logs.{stays}
use Rattle.log_store.proofs.memory.Memory.remove.Given as goal

abbrev pub ghost-sift : goal.ghost-sift
ghost-sift a = stays a.stays.0.now false
