use Rattle.std.proofs.Common.{leb, arith}
use Rattle.std.proofs.lemmas.Bool.Decides.{nat_tests}
use Rattle.outbox.proofs.Posts.{ok_answer}
use Rattle.shared_outbox.proofs.Rooms.{place_found}
use Rattle.shared_outbox.proofs.shared.Shared.place_for.Goals as goal

pub returns : goal.returns
returns g c =
    let q = c.args.self.now in
    let taken = ok_answer (λ n l. leb n c.free.result) c.args.count c.args.len c.in_ok-check_batch.ensures in
    let f = c.free.ensures in
    rw (c.ok_or.ensures.value, c.free-2.ensures) (place_found q c.args.count c.args.len taken.0 (let t = taken.1 in grind (arith, nat_tests)))
