-- What fits an outbox is sound where it is a test of the batch's size and a test of the number of its subscribers.
use Rattle.std.specs.Prelude.{◌≡◌, ℕ, ◌≤◌, Bool, true, ◌&&◌, List, []}
use Rattle.std.proofs.Common.{arith}
use Rattle.std.proofs.lemmas.Bool.{and_from, and_parts}
use Rattle.std.proofs.lemmas.Bool.Decides.{nat_tests}
use Rattle.outbox.specs.Notes.{Note, Sound, proper_batch}

-- a batch of a proper size has at most a hundred subscribers
few : (n l : ℕ) → proper_batch n l ≡ true → n ≤ 100
few n l p = grind (arith, nat_tests)

-- with nothing waiting there is enough for a hundred subscribers
pub sound_by : (waiting : List Note) (enough : ℕ → Bool) → (waiting ≡ [] → (n : ℕ) → n ≤ 100 → enough n ≡ true)
    → Sound waiting (λ n l. proper_batch n l && enough n)
sound_by waiting enough all = record {
  proper = λ n l r. (and_parts (proper_batch n l) (enough n) r).0;
  roomy = λ e n l p. and_from (proper_batch n l) (enough n) p (all e n (few n l p));
}
