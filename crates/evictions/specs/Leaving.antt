-- Who leaves a topic that has more subscribers than it may, and who stands subscribed then.
use Rattle.std.specs.Prelude.{ℕ, zero, suc, List, [], ◌∷◌, ◌++◌, take, drop, Some, None, Option}
use Rattle.clients.specs.Subs.{Sub}
use Rattle.subscribers.specs.Standing.{Standing, without}

-- the first of the back leaves, and the others go on; nobody leaves from an empty back
abbrev pub first_leaves : List Sub → List Sub → (List Sub → List Sub) → List Sub
first_leaves front [] others = []
first_leaves front (s ∷ back) others = s ∷ others (front ++ back)

-- the one at the chosen place leaves, and the others go on
abbrev pub one_leaves : Option ℕ → List Sub → (List Sub → List Sub) → List Sub
one_leaves None subs others = []
one_leaves (Some i) subs others = first_leaves (take i subs) (drop i subs) others

-- those who leave where so many must, in the order in which the policy chooses them, each among those who are left
abbrev pub leaving : (List Sub → Option ℕ) → ℕ → List Sub → List Sub
leaving choice zero subs = []
leaving choice (suc k) subs = one_leaves (choice subs) subs (λ rest. leaving choice k rest)

-- who stands subscribed once each of these has left the topic
abbrev pub without_each : ℕ → List Sub → List Standing → List Standing
without_each h [] l = l
without_each h (s ∷ ss) l = without_each h ss (without (record { handle = h; sub = s }) l)
