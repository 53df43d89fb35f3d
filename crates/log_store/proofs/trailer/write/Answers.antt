use Rattle.std.proofs.Common.{rules}
use Rattle.log_store.specs.Format.{trailer}
use Rattle.log_store.proofs.trailer.write.Goals as goal

pub returns : goal.returns
unfolding trailer
returns c = search rules
