use Rattle.std.proofs.Common.{◌≡◌, ◌+◌, ◌≤◌, true, [], ◌∷◌, length, sym, ap, ◌∙◌, subst, arith, rules}
use Rattle.std.proofs.lemmas.List.{length-take-le}
use Rattle.store.specs.Held.{Entry}
use Rattle.log_store.specs.declared.memory.Memory.{Memory}
use Rattle.log_store.specs.Format.{encoded, entries}
use Rattle.log_store.specs.Logs.{meaning, sifted}
use Rattle.log_store.specs.Memories.{contents, size}
use Rattle.log_store.proofs.Meanings.{meaning_with, room-sifted, with_room, with_squeeze}
use Rattle.log_store.proofs.Stores.{entry-fits}
use Rattle.log_store.proofs.memory.Memory.put.Goals as goal
use Rattle.log_store.proofs.memory.Memory.put.Goals.{then-value-self, else-value-self}

pub append-requires : goal.append-requires
append-requires c =
    let m = c.args.self.now in
    let es = entries (contents m) in
    let k = c.args.key in
    let l = c.requires.entry.1 in
    let P : Memory → Type 0 = λ s. s.used + length c.args.value.now + 7 ≤ size s in (
      c.requires.entry.0,
      l,
      elim c.if-value-self.branch [
        | then-value-self w ↦ (
            let n = w.make_room.new.self in
            let u : n.used ≡ length (encoded (sifted k true [] es)) = sym (length-take-le n.used n.bytes.now n.within) ∙ ap length (sym n.log.bytes) ∙ ap (λ es. length (encoded es)) w.make_room.ensures.log in
            let r = room-sifted es k (size m) m.log.fits c.requires.entry.0 c.requires.room.0 c.requires.room.1 in
            let z = w.make_room.ensures.len in
            subst P (sym w.self-is) (omega arith))
        | else-value-self w ↦ subst P (sym w.self-is) (let t = w.if-value-self.false in let i = m.within in omega arith)
      ],
    )

pub returns-clause-log : goal.returns-clause-log
returns-clause-log c =
    let m = c.args.self.now in
    let e : Entry = record { key = c.args.key; value = c.args.value.now } in
    let u : length (encoded (entries (contents m))) ≡ m.used = ap length m.log.bytes ∙ length-take-le m.used m.bytes.now m.within in
    let l = m.within in
    elim c.if-value-self.branch [
      | then-value-self w ↦ c.append.ensures.log ∙ ap (λ s. e ∷ entries (contents s)) w.self-is ∙ ap (λ es. e ∷ es) w.make_room.ensures.log
          ∙ with_squeeze (size m) (entries (contents m)) e (let t = w.if-value-self.true in omega arith)
      | else-value-self w ↦ c.append.ensures.log ∙ ap (λ s. e ∷ entries (contents s)) w.self-is
          ∙ with_room (size m) (entries (contents m)) e (let t = w.if-value-self.false in omega arith)
    ]

pub returns-clause-after : goal.returns-clause-after
returns-clause-after c =
    let m = c.args.self.now in
    let e : Entry = record { key = c.args.key; value = c.args.value.now } in
    ap meaning (returns-clause-log c)
    ∙ meaning_with (size m) (entries (contents m)) e m.log.fits (entry-fits c.args.key c.args.value.now c.requires.entry.0 (search rules) c.requires.entry.1)
