-- A batch put behind what waits, one note after another.
use Rattle.std.proofs.Common.{◌≡◌, ℕ, ◌≤◌, Bool, true, false, cond, if◌then◌else◌, List, ◌++◌, length, drop, Ok, Err, Result, sym, refl, ap, ◌∙◌, arith}
use Rattle.std.proofs.lemmas.List.{append-nil, at_drop_all}
use Rattle.protocol.specs.declared.refusal.Refusal.{Refusal}
use Rattle.protocol.specs.declared.refusal.Refusal.TheVariants.{BadBatch, OutboxFull}
use Rattle.clients.specs.declared.subscriber.Subscriber.{Subscriber}
use Rattle.outbox.specs.declared.message.Content.{Content}
use Rattle.outbox.specs.Answers.{post_answer}
use Rattle.outbox.specs.Notes.{Note, notes_of, proper_batch}

-- a batch of a proper size that fits is taken
pub answer_ok : (fits : ℕ → ℕ → Bool) (n l : ℕ) → true ≡ proper_batch n l → true ≡ fits n l → Ok tt ≡ post_answer fits n l
answer_ok fits n l p f = ap (λ b. cond b (Ok tt) (Err OutboxFull)) f ∙ ap (λ b. cond b (cond (fits n l) (Ok tt) (Err OutboxFull)) (Err BadBatch)) p

-- a batch that is taken is of a proper size, and fits
pub ok_answer : (fits : ℕ → ℕ → Bool) (n l : ℕ) → Ok tt ≡ post_answer fits n l → (true ≡ proper_batch n l) × (true ≡ fits n l)
ok_answer fits n l e = cases (proper_batch n l) (fits n l) e
  where
    cases : (p f : Bool) → ◌≡◌ {A = Result (Unit {0}) Refusal} (Ok tt) (if p then (if f then Ok tt else Err OutboxFull) else Err BadBatch) → (true ≡ p) × (true ≡ f)
    cases true true e = (refl, refl)
    cases true false e = let z : ◌≡◌ {A = ℕ} 0 1 = cc in absurd (omega arith)
    cases false f e = let z : ◌≡◌ {A = ℕ} 0 1 = cc in absurd (omega arith)

-- a batch of a proper size that does not fit is refused
pub answer_full : (fits : ℕ → ℕ → Bool) (n l : ℕ) → true ≡ proper_batch n l → false ≡ fits n l → Err OutboxFull ≡ post_answer fits n l
answer_full fits n l p f = ap (λ b. cond b (Ok tt) (Err OutboxFull)) f ∙ ap (λ b. cond b (cond (fits n l) (Ok tt) (Err OutboxFull)) (Err BadBatch)) p

module _ {C : Type 0} (id : C → List ℕ) (content : Content) (payload : List ℕ) (to : List (Subscriber C)) where
  -- the whole batch is posted
  pub posted_all : (i : ℕ) (new all : List Note) → length to ≤ i
      → new ++ notes_of id content payload (drop i to) ≡ all → new ≡ all
  posted_all i new all h known =
      sym (append-nil new)
      ∙ ap (λ l. new ++ l) (sym (at_drop_all (notes_of id content payload) to i h))
      ∙ known
