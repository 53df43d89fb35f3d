use Rattle.std.proofs.Common.{◌++◌, length}
use Rattle.maps.specs.Heads.{head_bytes}
use Rattle.map_writer.proofs.Sinks.{front, rest}
use Rattle.map_writer.proofs.entry.put_text.Goals as goal

pub put_head-requires-in-Some : goal.put_head-requires-in-Some
put_head-requires-in-Some g c =
    let laws = g.met.S.Sink.laws in
    let text = c.in-Some.bytes.now in
    let fits : g.S.Sink.Fits c.args.sink.now (head_bytes 0 c.from.result ++ (head_bytes 3 (length text) ++ text)) = rw c.from.ensures (rw c.in-Some.is at c.requires) in
    front laws text (rest laws fits c.put_head.ensures)
