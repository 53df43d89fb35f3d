use Rattle.std.proofs.Common.{Ok, get_or, sym, ap, ◌∙◌}
use Rattle.store.proofs.Replies.{get_answers, get_fills}
use Rattle.table_store.specs.Laws.{well-parts}
use Rattle.table_store.specs.Places.{holds, map_of}
use Rattle.table_store.proofs.Finds.{found, look_found, look_nowhere}
use Rattle.table_store.proofs.Tables.{any_place, len_fits, well_at}
use Rattle.table_store.proofs.as_store.TableStoreStore.get.Goals as goal

pub copy_to-requires : goal.copy_to-requires
copy_to-requires c =
    let s = c.args.self.now in
    let f = found (λ q. holds q c.args.key) s.places c.in-Some.i (sym c.in-Some.ensures) in
    let p = get_or s.places c.in-Some.i any_place in
    let w = well-parts p (well_at s.places c.in-Some.i any_place s.tidy f.inside) in
    (len_fits p.held w.entry, w.room, c.if-out-lt-VALUE_LIMIT.false)

pub returns-in-Some : goal.returns-in-Some
returns-in-Some c =
    let s = c.args.self.now in
    let k = c.args.key in
    let p = sym c.in_ok-check.ensures.ok in
    let l = c.if-out-lt-VALUE_LIMIT.false in
    let e = look_found s.places k c.in-Some.i _ (found (λ q. holds q k) s.places c.in-Some.i (sym c.in-Some.ensures)) in
    record {
      answer = ap Ok c.copy_to.ensures.answer ∙ sym (get_answers (map_of s.places) k _ _ p l e);
      buffer = c.copy_to.ensures.buffer ∙ sym (get_fills (map_of s.places) k _ _ p l e);
    }

pub returns-in-None : goal.returns-in-None
returns-in-None c =
    let s = c.args.self.now in
    let k = c.args.key in
    let p = sym c.in_ok-check.ensures.ok in
    let l = c.if-out-lt-VALUE_LIMIT.false in
    let e = look_nowhere s.places k (sym c.in-None.ensures) in
    record { answer = sym (get_answers (map_of s.places) k _ _ p l e); buffer = sym (get_fills (map_of s.places) k _ _ p l e) }
