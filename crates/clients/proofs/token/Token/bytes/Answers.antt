use Rattle.std.proofs.Common.{◌-◌, ◌++◌, take, replicate, sym, ap, ◌∙◌}
use Rattle.protocol.specs.Bytes.{be_bytes}
use Rattle.protocol.proofs.Bytes.{be8}
use Rattle.clients.proofs.Tokens.{length-token, whole}
use Rattle.clients.proofs.token.Token.bytes.Goals as goal

pub returns : goal.returns
returns c =
    let t = c.args.self.now in
    c.to_be_bytes.ensures ∙ be8 t.bits ∙ whole t.len t.bits t.short t.zeros
    ∙ ap (λ n. take t.len (be_bytes 8 t.bits) ++ replicate (8 - n) 0) (sym (length-token t.len t.bits t.short))
