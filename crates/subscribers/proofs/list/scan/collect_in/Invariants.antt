use Rattle.std.proofs.Common.{◌≡◌, length, take}
use Rattle.protocol.specs.Buffers.{laid}
use Rattle.subscribers.specs.Pairs.{subscribers_at}
use Rattle.subscribers.proofs.list.scan.collect_in.Given as goal

-- those of the pairs so far lie in front
abbrev pub invariant-loop-pair : goal.invariant-loop-pair
invariant-loop-pair g l =
    let those = subscribers_at l.handle.0 (take l.pair-index l.pairs) in
    (l.n ≡ length those) × (l.work ≡ laid those l.initial.work)
