use Rattle.std.proofs.Common.{sym, arith}
use Rattle.table_store.proofs.Tables.{full_for}
use Rattle.table_store.proofs.as_store.TableStoreStore.is_full_for.Goals as goal

pub returns-then-is_proper : goal.returns-then-is_proper
returns-then-is_proper c =
    let s = c.args.self.now in
    let f = full_for s.places 64 c.args.key _ s.tidy s.count (sym c.if-is_proper.ensures) c.place_for.ensures.answer in grind arith
