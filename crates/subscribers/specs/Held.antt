-- What a subscriber list holds.
use Rattle.std.specs.Prelude.{ℕ, List, length, take}
use Rattle.clients.specs.declared.client.Client as client
use Rattle.subscribers.specs.declared.list.Subscribers.{Subscribers}
use Rattle.subscribers.specs.declared.subscription.Subscription.{Subscription}
use Rattle.subscribers.specs.Pairs.{standings_of}
use Rattle.subscribers.specs.Standing.{Standing}

module _ {C : Type 0} {g : client.Ghosts C} where
  -- the pairs, in order of subscription
  abbrev pub pairs : Subscribers C g → List (Subscription C)
  pairs s = take s.len s.places.now

  -- how many places there are for pairs
  abbrev pub room : Subscribers C g → ℕ
  room s = length s.places.now

  -- who stands subscribed
  abbrev pub standings : Subscribers C g → List Standing
  standings s = standings_of g.identity (pairs s)
