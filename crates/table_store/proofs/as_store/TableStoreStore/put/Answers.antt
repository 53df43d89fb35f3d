use Rattle.std.proofs.Common.{rules, ◌≡◌, Err, true, false, sym, ◌∙◌}
use Rattle.std.proofs.lemmas.List.{length-set}
use Rattle.protocol.specs.declared.refusal.Refusal.TheVariants.{StoreFull}
use Rattle.table_store.proofs.Writes.{fits-in, put_told, written}
use Rattle.table_store.proofs.as_store.TableStoreStore.put.Goals as goal

pub returns-in_err-place-clause-answer : goal.returns-in_err-place-clause-answer
returns-in_err-place-clause-answer c =
    let s = c.args.self.now in
    let e : c.from_residual-in_err-place.result ≡ Err StoreFull = search rules in
    e ∙ sym (put_told s.places 64 c.args.key c.args.value.now _ false s.tidy s.count c.in_ok-entry.ensures.ok (c.in_err-place.ensures.variant ∙ c.place_for.ensures.answer))

pub hold-requires : goal.hold-requires
hold-requires c =
    let s = c.args.self.now in
    fits-in s.places c.args.key c.args.value.now c.in_ok-place.place _ _ _ s.tidy c.in_ok-entry.ensures.ok c.in_ok-place.ensures.ok_part c.place_for.ensures.place

pub invariant_of-self : goal.invariant_of-self
invariant_of-self c =
    let s = c.args.self.now in
    let w = written s.places c.args.key c.args.value.now c.in_ok-place.place _ _ _ _ s.tidy c.in_ok-entry.ensures.ok c.hold.ensures c.in_ok-place.ensures.ok_part c.place_for.ensures.place in
    record { count = length-set s.places c.in_ok-place.place _ ∙ s.count; tidy = w.neat }

pub returns-clause-answer : goal.returns-clause-answer
returns-clause-answer c =
    let s = c.args.self.now in
    sym (put_told s.places 64 c.args.key c.args.value.now _ true s.tidy s.count c.in_ok-entry.ensures.ok (c.in_ok-place.ensures.variant ∙ c.place_for.ensures.answer))

pub returns-clause-after : goal.returns-clause-after
returns-clause-after c =
    let s = c.args.self.now in
    (written s.places c.args.key c.args.value.now c.in_ok-place.place _ _ _ _ s.tidy c.in_ok-entry.ensures.ok c.hold.ensures c.in_ok-place.ensures.ok_part c.place_for.ensures.place).map
