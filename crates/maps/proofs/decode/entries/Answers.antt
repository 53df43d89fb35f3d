use Rattle.std.proofs.Common.{◌+◌, ◌-◌, arith}
use Rattle.std.proofs.lemmas.Result.{err_from_is_err_and}
use Rattle.maps.specs.Maps.{meant}
use Rattle.maps.proofs.Entries.{read_on, stopped}
use Rattle.maps.proofs.decode.entries.Goals as goal

pub loop-preserved : goal.loop-preserved
loop-preserved c =
    read_on (c.args.count - c.loop.counter) (c.args.count - (c.loop.counter + 1)) (meant c.loop.all) (meant c.in_ok-all.all) c.loop.reader.now c.entry.new.reader.now
    (omega arith) c.in_ok-all.ensures c.loop.invariant

pub returns-in_err-all : goal.returns-in_err-all
returns-in_err-all c =
    let p = err_from_is_err_and c.from_residual.result c.from_residual.ensures.1 in
    rw (p.1, p.2)
    (stopped (c.args.count - c.loop.counter) (c.args.count - (c.loop.counter + 1)) (meant c.loop.all) c.loop.reader.now _ (omega arith) c.in_err-all.ensures c.loop.invariant)
