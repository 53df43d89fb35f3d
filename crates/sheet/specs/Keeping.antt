-- What becomes of a map of the sheet: a topic under its handle in the store, or a refusal that leaves the store.
use Rattle.std.specs.Prelude.{ℕ, cond, List, is_ok, Ok, Err, Result}
use Rattle.protocol.specs.declared.refusal.Refusal.{Refusal}
use Rattle.maps.specs.Maps.{Props, written}
use Rattle.store.specs.Held.{Entry, put, put_answer}
use Rattle.store.specs.declared.key.Key.{Key}

-- what is answered of a map: why it makes no topic, or what the store says of its written form
abbrev pub answer_to : Result Props Refusal → List Entry → ℕ → Key → Result (Unit {0}) Refusal
answer_to (Err e) es n k = Err e
answer_to (Ok p) es n k = put_answer es n k (written p)

-- the store after it
abbrev pub held_after : Result Props Refusal → List Entry → ℕ → Key → List Entry
held_after (Err e) es n k = es
held_after (Ok p) es n k = cond (is_ok (put_answer es n k (written p))) (put es k (written p)) es
