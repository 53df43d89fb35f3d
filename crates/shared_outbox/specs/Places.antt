-- What a content place holds.
use Rattle.std.specs.Prelude.{ℕ, List, [], map, slice_index}
use Rattle.protocol.specs.declared.code.Code.TheVariants.{NotFound}
use Rattle.outbox.specs.Payloads.{bytes_of}
use Rattle.outbox.specs.declared.message.Content.{Content}
use Rattle.shared_outbox.specs.declared.place.Place.{Place}

-- a content and its payload
pub record Body : Type 0 where
  pub content : Content
  pub payload : List ℕ

-- what a place holds
abbrev pub body_of : Place → Body
body_of p = record { content = p.content; payload = bytes_of p.payload }

-- what the places hold
abbrev pub bodies : List Place → List Body
bodies = map body_of

-- what stands for the body where there is no place
abbrev pub blank : Body
blank = record { content = record { handle = record { 0 = 0 }; code = NotFound; number = record { 0 = 0 }; format = 0 }; payload = [] }

-- how many entries name each place, as the places count them
abbrev pub counts : List Place → List ℕ
counts = map (λ (p : Place). p.users)

-- how many entries name a place, as it counts them; none where there is no place
abbrev pub users_at : List Place → ℕ → ℕ
users_at ps i = slice_index (counts ps) i
