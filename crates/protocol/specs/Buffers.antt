-- Lent buffers and work lists: what is written to their front.
use Rattle.std.specs.Prelude.{List, ◌++◌, length, drop}

-- a list written over the front of another, whose rest stays
abbrev pub laid : {X : Type 0} → List X → List X → List X
laid xs buf = xs ++ drop (length xs) buf
