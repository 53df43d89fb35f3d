use Rattle.std.proofs.Common.{refl, arith}
use Rattle.shared_outbox.proofs.Contents.{freed_more}
use Rattle.shared_outbox.proofs.places.Places.new.Goals as goal

pub loop-place-preserved : goal.loop-place-preserved
loop-place-preserved c = freed_more c.loop-place.contents c.loop-place.place-index _ (omega (arith, c.loop-place-test.true, c.loop-place.auto.contents)) refl c.loop-place.invariant
