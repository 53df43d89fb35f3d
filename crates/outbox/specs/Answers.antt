-- What an outbox answers, by the list of notes that wait.
use Rattle.std.specs.Prelude.{◌≡◌, ℕ, Bool, true, false, List, [], ◌∷◌, length, take, Some, None, Ok, Err, Option, Result, nat_le, if◌then◌else◌}
use Rattle.protocol.specs.Buffers as buffers
use Rattle.protocol.specs.declared.refusal.Refusal.{Refusal}
use Rattle.protocol.specs.declared.refusal.Refusal.TheVariants.{BadBatch, OutboxFull}
use Rattle.clients.specs.Subs.{sub_of}
use Rattle.outbox.specs.declared.message.Message.{Message}
use Rattle.outbox.specs.Notes.{Note, proper_batch}

-- what a post answers: a batch of a bad size is refused before one that does not fit
abbrev pub post_answer : (ℕ → ℕ → Bool) → ℕ → ℕ → Result (Unit {0}) Refusal
post_answer fits n l = if proper_batch n l then (if fits n l then Ok tt else Err OutboxFull) else Err BadBatch

-- the oldest note, if one waits
abbrev pub first : List Note → Option Note
first [] = None
first (n ∷ ns) = Some n

-- the notes that wait behind the oldest
abbrev pub rest : List Note → List Note
rest [] = []
rest (n ∷ ns) = ns

-- the length of the oldest note's payload; 0 if none waits
abbrev pub first_len : List Note → ℕ
first_len [] = 0
first_len (n ∷ ns) = length n.payload

-- a buffer with the oldest note's payload in front, and the rest as it was
abbrev pub laid : List Note → List ℕ → List ℕ
laid [] buf = buf
laid (n ∷ ns) buf = buffers.laid n.payload buf

-- what a take answers at a buffer of so many bytes: refused, or the oldest note
abbrev pub take_answer : List Note → ℕ → Result (Option Note) Refusal
take_answer ws room = if nat_le 256 room then Ok (first ws) else Err BadBatch

-- the length that a take tells
abbrev pub take_len : List Note → ℕ → ℕ
take_len ws room = if nat_le 256 room then first_len ws else 0

-- the buffer after a take
abbrev pub take_buffer : List Note → List ℕ → List ℕ
take_buffer ws buf = if nat_le 256 (length buf) then laid ws buf else buf

module _ {C : Type 0} where
  -- what a message and the buffer with its payload say
  abbrev pub said : (C → List ℕ) → Result (Option (Message C)) Refusal → List ℕ → Result (Option Note) Refusal
  said id (Ok None) buf = Ok None
  said id (Ok (Some m)) buf = Ok (Some (record { to = sub_of id m.subscriber; content = m.content; payload = take m.len buf }))
  said id (Err e) buf = Err e

  -- the length that a message tells; 0 without a message
  abbrev pub said_len : Result (Option (Message C)) Refusal → ℕ
  said_len (Ok None) = 0
  said_len (Ok (Some m)) = m.len
  said_len (Err e) = 0

  -- a message was taken
  abbrev pub taken : Result (Option (Message C)) Refusal → Bool
  taken (Ok None) = false
  taken (Ok (Some m)) = true
  taken (Err e) = false

  -- a message and the buffer with its payload, before and after, give a note whole
  pub record Gives (id : C → List ℕ) (n : Note) (m : Message C) (before after : List ℕ) : Type 0 where
    pub note : said id (Ok (Some m)) after ≡ Ok (Some n)
    pub len : m.len ≡ length n.payload
    pub buffer : after ≡ buffers.laid n.payload before
