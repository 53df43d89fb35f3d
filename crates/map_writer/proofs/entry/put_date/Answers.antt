use Rattle.std.proofs.Common.{◌++◌}
use Rattle.maps.specs.Heads.{head_bytes}
use Rattle.map_writer.proofs.Sinks.{front, rest, both}
use Rattle.map_writer.proofs.entry.put_date.Goals as goal

pub put_head-requires-in-Some : goal.put_head-requires-in-Some
put_head-requires-in-Some g c =
    let laws = g.met.S.Sink.laws in
    let number = head_bytes 0 c.in-Some.n in
    let fits : g.S.Sink.Fits c.args.sink.now (head_bytes 0 c.from.result ++ (head_bytes 6 1 ++ number)) = rw c.from.ensures (rw c.in-Some.is at c.requires) in
    front laws number (rest laws fits c.put_head.ensures)

pub put_head-requires-in-Some-2 : goal.put_head-requires-in-Some-2
put_head-requires-in-Some-2 g c =
    let laws = g.met.S.Sink.laws in
    let fits : g.S.Sink.Fits c.args.sink.now (head_bytes 0 c.from.result ++ (head_bytes 6 1 ++ head_bytes 0 c.in-Some.n)) = rw c.from.ensures (rw c.in-Some.is at c.requires) in
    rest laws (rest laws fits c.put_head.ensures) c.put_head-in-Some.ensures

pub returns-in-Some-clause-entry : goal.returns-in-Some-clause-entry
returns-in-Some-clause-entry g c =
    let laws = g.met.S.Sink.laws in
    let fits : g.S.Sink.Fits c.args.sink.now (head_bytes 0 c.from.result ++ (head_bytes 6 1 ++ head_bytes 0 c.in-Some.n)) = rw c.from.ensures (rw c.in-Some.is at c.requires) in
    let put = both laws fits c.put_head.ensures (both laws (rest laws fits c.put_head.ensures) c.put_head-in-Some.ensures c.put_head-in-Some-2.ensures) in
    rw c.in-Some.is (rw c.from.ensures at put)
