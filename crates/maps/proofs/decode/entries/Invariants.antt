use Rattle.std.proofs.Common.{◌≡◌, ◌-◌}
use Rattle.maps.specs.Maps.{entries_of, meant}
use Rattle.maps.proofs.decode.entries.Given as goal

abbrev pub invariant-loop : goal.invariant-loop
invariant-loop l = entries_of (l.count - l.counter) (meant l.all) l.reader.now ≡ entries_of l.count (meant l.fn.before) l.initial.reader.now
