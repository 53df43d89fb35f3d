use Rattle.std.proofs.Common.{◌-◌, ◌∷◌, length, take, sym, ap, ◌∙◌, subst, arith}
use Rattle.log_store.specs.Format.{Log, entries}
use Rattle.log_store.proofs.Walks.{no-entries, split}
use Rattle.log_store.proofs.entries.EntriesIterator.next.Goals as goal

pub returns-in_err-front-clause-steps : goal.returns-in_err-front-clause-steps
returns-in_err-front-clause-steps c =
    let z = no-entries c.args.self.now.rest.now c.args.self.now.log c.in_err-front.ensures.cases in rw c.from_residual.ensures (z, z)

pub overflow_sub-front : goal.overflow_sub-front
overflow_sub-front c = (split c.args.self.now.log c.in_ok-front.ensures.cases c.read-len.ensures.key c.read-len.ensures.len).room

pub invariant_of-self : goal.invariant_of-self
invariant_of-self c =
    let s = split c.args.self.now.log c.in_ok-front.ensures.cases c.read-len.ensures.key c.read-len.ensures.len in record { log = subst Log (sym c.split_at.ensures.front) s.log }

pub returns-clause-steps : goal.returns-clause-steps
returns-clause-steps c =
    let s = split c.args.self.now.log c.in_ok-front.ensures.cases c.read-len.ensures.key c.read-len.ensures.len in
    s.is
    ∙ ap (λ v. record { key = c.read-len.result.key; value = v } ∷ entries (take (length c.in_ok-front.front.now - c.read-len.result.len) c.in_ok-front.front.now)) (sym c.split_at.ensures.back)
    ∙ ap (λ bs. record { key = c.read-len.result.key; value = c.split_at.result.1.now } ∷ entries bs) (sym c.split_at.ensures.front)

pub returns-clause-goes : goal.returns-clause-goes
returns-clause-goes c = let e = returns-clause-steps c in record { on = λ _. (tt, tt, omega (arith, ap length e)); keeps = tt; rests = λ _. tt }
