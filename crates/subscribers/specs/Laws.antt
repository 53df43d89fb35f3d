-- Why each eviction policy names a place of the list, and none exactly if the list is empty.
use Rattle.std.specs.Prelude.{List, [], ◌∷◌, refl}
use Rattle.std.proofs.Common.{arith}
use Rattle.clients.specs.Subs.{Sub}
use Rattle.subscribers.specs.Choice.{Names, newest, oldest}

pub newest_named : (l : List Sub) → Names l (newest l)
newest_named [] = refl
newest_named (s ∷ l) = omega arith

pub oldest_named : (l : List Sub) → Names l (oldest l)
oldest_named [] = refl
oldest_named (s ∷ l) = omega arith
