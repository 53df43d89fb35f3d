use Rattle.std.proofs.Common.{refl}
use Rattle.store.proofs.Maps.{lowest-next, look-put, look-remove, one_map}
use Rattle.store.proofs.laws.laws_stand.Goals as goal

pub returns : goal.returns
returns c = record { equal = λ a b. refl; next = lowest-next; put = look-put; remove = look-remove; same = one_map }
