use Rattle.std.proofs.Common.{false, ap, ◌∙◌, rules}
use Rattle.std.proofs.lemmas.List.{places}
use Rattle.log_store.specs.Format.{entries}
use Rattle.log_store.specs.Logs.{meaning}
use Rattle.log_store.specs.Memories.{contents}
use Rattle.log_store.proofs.Meanings.{meaning-sifted}
use Rattle.log_store.proofs.Stores.{squeezed}
use Rattle.log_store.proofs.memory.Memory.remove.Goals as goal

pub invariant_of-self : goal.invariant_of-self
invariant_of-self c = record { within = search (rules, places); log = (squeezed c.args.key false c.sift-self.result _ c.sift-self.new.bytes _ c.args.self.now.log c.sift-self.ensures.len c.sift-self.ensures.after).log }

pub returns-clause-log : goal.returns-clause-log
returns-clause-log c = (squeezed c.args.key false c.sift-self.result _ c.sift-self.new.bytes _ c.args.self.now.log c.sift-self.ensures.len c.sift-self.ensures.after).are

pub returns-clause-after : goal.returns-clause-after
returns-clause-after c =
    let m = c.args.self.now in
    ap meaning (returns-clause-log c) ∙ meaning-sifted c.args.key false (entries (contents m)) m.log.fits
