-- Messages by what they mean, and batches of them.
use Rattle.std.specs.Prelude.{◌≡◌, ℕ, Bool, true, ◌&&◌, List, [], ◌∷◌, nat_le}
use Rattle.clients.specs.Subs.{Sub, sub_of}
use Rattle.clients.specs.declared.subscriber.Subscriber.{Subscriber}
use Rattle.outbox.specs.declared.message.Content.{Content}

-- a message: for whom, what it says, and its payload
pub record Note : Type 0 where
  pub to : Sub
  pub content : Content
  pub payload : List ℕ

-- the notes of a batch: one for each subscriber, in their order
abbrev pub notes_of : {C : Type 0} → (C → List ℕ) → Content → List ℕ → List (Subscriber C) → List Note
notes_of id c p [] = []
notes_of id c p (s ∷ ss) = record { to = sub_of id s; content = c; payload = p } ∷ notes_of id c p ss

-- a batch of n subscribers with l bytes of payload is of a size that an outbox takes
abbrev pub proper_batch : ℕ → ℕ → Bool
proper_batch n l = nat_le 1 n && nat_le n 100 && nat_le l 256

-- what fits, where these notes wait: only batches of a proper size, and with nothing waiting every one of them
pub record Sound (waiting : List Note) (fits : ℕ → ℕ → Bool) : Type 0 where
  pub proper : (n l : ℕ) → fits n l ≡ true → proper_batch n l ≡ true
  pub roomy : waiting ≡ [] → (n l : ℕ) → proper_batch n l ≡ true → fits n l ≡ true
