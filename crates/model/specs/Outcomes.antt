-- What a call answers, and what it leaves.
use Rattle.std.specs.Prelude.{ℕ, Bool, false, ◌&&◌, List, [], ◌++◌, length, take, drop, Ok, Err, Option, Result, ◌==◌}
use Rattle.std.specs.Option.{option_map}
use Rattle.protocol.specs.Codes.{class_of, detail_of}
use Rattle.protocol.specs.declared.code.Code.{Code}
use Rattle.protocol.specs.declared.names.Handle.{Handle}
use Rattle.protocol.specs.declared.refusal.Refusal.{Refusal}
use Rattle.outbox.specs.Notes.{Note}
use Rattle.model.specs.declared.reply.Reply as code
use Rattle.model.specs.State.{State}

-- a response: its code, the handle that it tells, its Observe number, its content format and its payload
pub record Reply : Type 0 where
  pub code : Code
  pub handle : Option ℕ
  pub observe : Option ℕ
  pub format : Option ℕ
  pub payload : List ℕ

-- what comes of a call: a response, the topic that expired, the message that was taken, or a refusal
pub data Outcome : Type 0 where
  replied : Reply → Outcome
  expired : Option ℕ → Outcome
  took : Option Note → Outcome
  refused : Refusal → Outcome

-- the whole effect of a call: what came of it, which messages it posted, and what is held then
pub record Step : Type 0 where
  pub outcome : Outcome
  pub posted : List Note
  pub next : State

-- a call that is carried out, or else is refused and leaves all as it was
abbrev pub settled : State → Result Step Refusal → Step
settled s (Ok d) = d
settled s (Err r) = record { outcome = refused r; posted = []; next = s }

-- the outcome is a response with this code, class and detail
abbrev pub answered : Outcome → ℕ → ℕ → Bool
answered (replied r) class detail = class_of r.code == class && detail_of r.code == detail
answered (expired h) class detail = false
answered (took n) class detail = false
answered (refused r) class detail = false

-- the bytes of a response; none of another outcome
abbrev pub payload_of : Outcome → List ℕ
payload_of (replied r) = r.payload
payload_of (expired h) = []
payload_of (took n) = []
payload_of (refused r) = []

-- what the code's reply and the answer buffer say
abbrev pub reply_of : code.Reply → List ℕ → Reply
reply_of r buf = record {
  code = r.code;
  handle = option_map (λ h. h.0) r.handle;
  observe = option_map (λ n. n.0) r.observe;
  format = r.format;
  payload = take r.len buf;
}

-- what the code's result and the answer buffer say
abbrev pub told : Result code.Reply Refusal → List ℕ → Outcome
told (Ok r) buf = replied (reply_of r buf)
told (Err e) buf = refused e

-- the length that the code's result tells; 0 of a refusal
abbrev pub told_len : Result code.Reply Refusal → ℕ
told_len (Ok r) = r.len
told_len (Err e) = 0

-- what the code's result of an expire says
abbrev pub told_expired : Result (Option Handle) Refusal → Outcome
told_expired (Ok h) = expired (option_map (λ x. x.0) h)
told_expired (Err e) = refused e

-- what the result of a take says, once the message is known by its meaning
abbrev pub told_taken : Result (Option Note) Refusal → Outcome
told_taken (Ok n) = took n
told_taken (Err e) = refused e
