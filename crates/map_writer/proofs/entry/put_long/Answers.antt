use Rattle.std.proofs.Common.{[], ◌∷◌}
use Rattle.map_writer.proofs.entry.put_long.Goals as goal

pub put-requires : goal.put-requires
put-requires g c = g.met.S.Sink.laws.front c.args.sink.now (c.args.first ∷ []) c.args.argument.now c.requires

pub put-requires-2 : goal.put-requires-2
put-requires-2 g c = g.met.S.Sink.laws.behind c.args.sink.now c.put.new.self (c.args.first ∷ []) c.args.argument.now c.requires c.put.ensures

pub returns : goal.returns
returns g c = g.met.S.Sink.laws.both c.args.sink.now c.put.new.self c.put-2.new.self (c.args.first ∷ []) c.args.argument.now c.requires c.put.ensures c.put-2.ensures
