-- Which of a topic's subscribers leaves, as a place in their list.
use Rattle.std.specs.Prelude.{◌≡◌, ℕ, ◌<◌, List, [], ◌∷◌, length, Some, None, Option}
use Rattle.clients.specs.Subs.{Sub}

-- a place of the list, or none exactly if the list is empty
abbrev pub Names : List Sub → Option ℕ → Type 0
Names l None = l ≡ []
Names l (Some i) = i < length l

-- the place of the one who subscribed last
abbrev pub newest : List Sub → Option ℕ
newest [] = None
newest (s ∷ l) = Some (length l)

-- the place of the one who subscribed first
abbrev pub oldest : List Sub → Option ℕ
oldest [] = None
oldest (s ∷ l) = Some 0
