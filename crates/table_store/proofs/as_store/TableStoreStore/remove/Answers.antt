use Rattle.std.proofs.Common.{true, false, is_some, sym, refl, ap, ◌∙◌}
use Rattle.std.proofs.lemmas.List.{length-set}
use Rattle.store.proofs.Maps.{remove_absent}
use Rattle.store.proofs.Replies.{remove_answers}
use Rattle.table_store.specs.Places.{holds, map_of}
use Rattle.table_store.proofs.Finds.{fit-found, found, look_nowhere, somewhere}
use Rattle.table_store.proofs.Tables.{any_place, look_some}
use Rattle.table_store.proofs.Writes.{map-remove, tidy-remove}
use Rattle.table_store.proofs.as_store.TableStoreStore.remove.Goals as goal

pub invariant_of-self : goal.invariant_of-self
invariant_of-self c =
    let s = c.args.self.now in
    let f = found (λ p. holds p c.args.key) s.places c.in-Some.i (sym c.in-Some.ensures) in
    record {
      count = length-set s.places c.in-Some.i _ ∙ s.count;
      tidy = tidy-remove s.places c.in-Some.i _ s.tidy f.inside;
    }

pub returns-in-Some : goal.returns-in-Some
returns-in-Some c =
    let s = c.args.self.now in
    let f = found (λ p. holds p c.args.key) s.places c.in-Some.i (sym c.in-Some.ensures) in
    record {
      answer = sym (remove_answers (map_of s.places) c.args.key true (sym c.in_ok-check.ensures.ok) (look_some s.places c.args.key ∙ somewhere _ s.places c.in-Some.i any_place f));
      after = map-remove s.places c.args.key c.in-Some.i _ s.tidy (fit-found s.places c.args.key c.in-Some.i s.tidy f);
      capacity = refl;
    }

pub returns-in-None : goal.returns-in-None
returns-in-None c =
    let s = c.args.self.now in
    let e = look_nowhere s.places c.args.key (sym c.in-None.ensures) in
    record {
      answer = sym (remove_answers (map_of s.places) c.args.key false (sym c.in_ok-check.ensures.ok) (ap is_some e));
      after = sym (remove_absent (map_of s.places) c.args.key e);
      capacity = refl;
    }
