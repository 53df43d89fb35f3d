-- Subscribers by what they mean: the client's identity and the token's bytes.
use Rattle.std.specs.Prelude.{ℕ, List, take}
use Rattle.protocol.specs.Bytes.{be_bytes}
use Rattle.clients.specs.declared.subscriber.Subscriber.{Subscriber}
use Rattle.clients.specs.declared.token.Token.{Token}

-- a subscriber: who it is, and the token that it chose
pub record Sub : Type 0 where
  pub who : List ℕ
  pub token : List ℕ

-- the bytes of a token
abbrev pub token_bytes : Token → List ℕ
token_bytes t = take t.len (be_bytes 8 t.bits)

-- what a subscriber means, where `id` tells what identifies a client
abbrev pub sub_of : {C : Type 0} → (C → List ℕ) → Subscriber C → Sub
sub_of id s = record { who = id s.client; token = token_bytes s.token }
