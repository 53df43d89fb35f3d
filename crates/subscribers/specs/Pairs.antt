-- What the pairs of the code mean: who is subscribed, by an identity of clients, and whose subscribers they are.
use Rattle.protocol.specs.Buffers.{laid}
use Rattle.std.specs.Prelude.{ℕ, ◌≤◌, not, List, ◌++◌, map, length, drop, Ok, Err, filter, Result, ◌==◌, nat_le, if◌then◌else◌}
use Rattle.clients.specs.Subs.{sub_of}
use Rattle.clients.specs.declared.subscriber.Subscriber.{Subscriber}
use Rattle.protocol.specs.declared.refusal.Refusal.{Refusal}
use Rattle.protocol.specs.declared.refusal.Refusal.TheVariants.{ShortBuffers}
use Rattle.subscribers.specs.declared.subscription.Subscription.{Subscription}
use Rattle.subscribers.specs.Standing.{Standing, same_pair, limit}

module _ {C : Type 0} (id : C → List ℕ) where
  -- what a pair of the code means
  abbrev pub standing_of : Subscription C → Standing
  standing_of p = record { handle = p.handle.0; sub = sub_of id p.subscriber }

  -- what a list of pairs means
  abbrev pub standings_of : List (Subscription C) → List Standing
  standings_of ps = map standing_of ps

  -- the pairs other than x
  abbrev pub others : Standing → List (Subscription C) → List (Subscription C)
  others x ps = filter (λ p. not (same_pair (standing_of p) x)) ps

module _ {C : Type 0} where
  -- the subscribers of a handle, in their order
  abbrev pub subscribers_at : ℕ → List (Subscription C) → List (Subscriber C)
  subscribers_at h ps = map (λ p. p.subscriber) (filter (λ p. p.handle.0 == h) ps)

  -- the pairs of other handles, in their order
  abbrev pub elsewhere : ℕ → List (Subscription C) → List (Subscription C)
  elsewhere h ps = filter (λ p. not (p.handle.0 == h)) ps

  -- no handle has more subscribers than a topic may have
  abbrev pub Few : List (Subscription C) → Type 0
  Few ps = (h : ℕ) → length (subscribers_at h ps) ≤ limit

module _ {C : Type 0} where
  -- what a collect answers: refused at a short work list, or how many subscribers the handle has
  abbrev pub collect_answer : ℕ → List (Subscription C) → ℕ → Result ℕ Refusal
  collect_answer h ps space = if nat_le limit space then Ok (length (subscribers_at h ps)) else Err ShortBuffers

  -- a work list after a collect: the handle's subscribers in front, the rest as it was
  abbrev pub collect_buffer : ℕ → List (Subscription C) → List (Subscriber C) → List (Subscriber C)
  collect_buffer h ps work = if nat_le limit (length work) then laid (subscribers_at h ps) work else work
