use Rattle.std.proofs.Common.{◌-◌, take, ap, ◌∙◌, arith}
use Rattle.outbox.proofs.Payloads.{written}
use Rattle.outbox.proofs.payload.Payload.set.Goals as goal

pub returns : goal.returns
returns c =
    let from = ap (λ k. take k c.args.bytes.now) {x = c.min-n.result - 0} {y = c.min-n.result} (omega arith) in
    written c.copy_from_slice.new.self c.args.bytes.now _ c.min-n.result 256 c.min-n.ensures (c.copy_from_slice.ensures.after ∙ from)
