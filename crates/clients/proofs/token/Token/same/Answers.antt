use Rattle.std.proofs.Common.{◌≡◌, ◌-◌, ◌%◌, ◌^◌, ◌<◌, length, take, sym, ap, ◌∙◌, arith, rules, eq-eqb}
use Rattle.std.proofs.lemmas.Bool.Decides.{nat_tests}
use Rattle.protocol.specs.Bytes.{be_bytes}
use Rattle.clients.proofs.Tokens.{length-token, same_bits}
use Rattle.clients.proofs.token.Token.same.Goals as goal

pub returns-then-self-other : goal.returns-then-self-other
returns-then-self-other c =
    let a = c.args.self.now in
    let b = c.args.other.now in
    let n : a.len ≡ b.len = c.if-self-other.true in
    let fa : a.bits < 256 ^ 8 = search rules in
    let fb : b.bits < 256 ^ 8 = search rules in
    let zb : b.bits % 256 ^ (8 - a.len) ≡ 0 = ap (λ k. b.bits % 256 ^ (8 - k)) n ∙ b.zeros in (
      (λ e. let q : a.bits ≡ b.bits = grind (arith, nat_tests) in ap (λ k. take k (be_bytes 8 a.bits)) n ∙ ap (λ k. take b.len (be_bytes 8 k)) q),
      (λ e. eq-eqb _ _ (same_bits a.len a.bits b.bits a.short fa fb a.zeros zb (e ∙ ap (λ k. take k (be_bytes 8 b.bits)) (sym n)))),
    )

pub returns-else-self-other : goal.returns-else-self-other
returns-else-self-other c =
    let a = c.args.self.now in
    let b = c.args.other.now in (
      (λ e. absurd (grind (arith, nat_tests))),
      (λ e. absurd (c.if-self-other.false (sym (length-token a.len a.bits a.short) ∙ ap length e ∙ length-token b.len b.bits b.short))),
    )
