use Rattle.std.proofs.Common.{subst}
use Rattle.std.specs.Fmt.{HasWritten}
use Rattle.protocol.proofs.Texts.{code_shown}
use Rattle.protocol.proofs.code.CodeDisplay.fmt.Goals as goal

pub returns-clause-writes : goal.returns-clause-writes
returns-clause-writes g c = λ p ok. subst (λ bs. HasWritten g.W.Write.write_str_gives c.args.f.now bs c.write.new.self)
    (code_shown c.args.self.now _ _ _ c.class-class.ensures c.detail-detail.ensures c.laid_out.ensures) (c.write.ensures.writes p ok)
