use Rattle.std.proofs.Common.{◌≡◌, ℕ, ◌<◌}
use Rattle.shared_outbox.specs.Places.{users_at}
use Rattle.shared_outbox.proofs.places.Places.new.Given as goal

abbrev pub invariant-loop-place : goal.invariant-loop-place
invariant-loop-place l = (p : ℕ) → p < l.place-index → users_at l.contents p ≡ 0
