use Rattle.std.proofs.Common.{◌≡◌, None, length, replicate, refl}
use Rattle.std.proofs.lemmas.List.Elements.{All-replicate}
use Rattle.store.specs.Held.{value_limit}
use Rattle.table_store.specs.declared.place.Place.{Place}
use Rattle.table_store.proofs.Tables.{map_empty, tidy_empty}
use Rattle.table_store.proofs.table.TableStore.new.Goals as goal

pub invariant_of-result : goal.invariant_of-result
invariant_of-result c =
    let p = c.free.result in
    let a = All-replicate (λ (q : Place). q.held ≡ None) 64 p c.free.ensures.answer in
    let r = All-replicate (λ (q : Place). length q.value ≡ value_limit) 64 p c.free.ensures.room in
    record { count = refl; tidy = tidy_empty (replicate 64 p) a r }

pub returns : goal.returns
returns c =
    let p = c.free.result in
    map_empty (replicate 64 p) (All-replicate (λ (q : Place). q.held ≡ None) 64 p c.free.ensures.answer)
