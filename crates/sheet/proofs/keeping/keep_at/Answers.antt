use Rattle.std.proofs.Common.{ℕ, ◌≤◌, Err, ap, ◌∙◌, arith, rules}
use lib.ListN.{length-replicate}
use Rattle.std.proofs.lemmas.Result.{err_from_is_err_and}
use Rattle.maps.specs.Maps.{meant}
use Rattle.map_writer.proofs.Largest.{largest}
use Rattle.store.specs.Held.{properties_key}
use Rattle.sheet.proofs.Keeps.{never_none, len_is, value-is, refused, stored}
use Rattle.sheet.proofs.keeping.keep_at.Goals as goal

pub returns-in_err-topic : goal.returns-in_err-topic
returns-in_err-topic g c =
    let x = err_from_is_err_and c.from_residual.result c.from_residual.ensures.1 in
    let r = refused (g.S.Store.held c.args.store.now) (g.S.Store.capacity c.args.store.now) (properties_key c.args.handle.0) _ _ c.in_err-topic.ensures.answer in
    record { answer = x.1 ∙ ap Err x.2 ∙ r.0; after = r.1 }

pub returns-in_default : goal.returns-in_default
returns-in_default g c =
    never_none (meant c.in_ok-topic.topic) _ (c.in_ok-topic.ensures.topical c.requires) (length-replicate {A = ℕ} 576 0) c.in_default.ensures.answer

pub slice_bounds-put-end : goal.slice_bounds-put-end
slice_bounds-put-end g c =
    let p = meant c.in_ok-topic.topic in
    let t = c.in_ok-topic.ensures.topical c.requires in
    let n = len_is p _ t (length-replicate {A = ℕ} 576 0) c.in-Some.len c.in-Some.ensures.answer in
    let b = largest.bound p t in
    let l : c.in-Some.len ≤ 576 = omega arith in
    search rules

pub returns : goal.returns
returns g c =
    let p = meant c.in_ok-topic.topic in
    let t = c.in_ok-topic.ensures.topical c.requires in
    let n = len_is p _ t (length-replicate {A = ℕ} 576 0) c.in-Some.len c.in-Some.ensures.answer in
    let s = stored (g.S.Store.held c.args.store.now) (g.S.Store.capacity c.args.store.now) (properties_key c.args.handle.0) _ p _ c.put.result _
    c.in_ok-topic.ensures.answer
    (value-is p _ t (length-replicate {A = ℕ} 576 0) c.in-Some.len _ _ n c.in-Some.ensures.buffer)
    c.put.ensures.answer c.put.ensures.after in
    record { answer = s.0; after = s.1 }
