-- Lists of topics as links: each address in angle brackets, joined by commas (RFC 6690).
use Rattle.std.specs.Prelude.{ℕ, cond, List, [], ◌∷◌, ◌++◌, map, codes, filter, ◌==◌}
use Rattle.protocol.specs.Addresses.{data_address, hex_digits}
use Rattle.store.specs.Held.{Entry}
use Rattle.catalog.specs.Catalog.{has_data}

-- a topic's own address
abbrev pub address : ℕ → List ℕ
address h = codes "/ps/" ++ hex_digits 8 h

-- one address as a link
abbrev pub link : List ℕ → List ℕ
link a = codes "<" ++ (a ++ codes ">")

-- links behind a first one
abbrev pub more_links : List (List ℕ) → List ℕ
more_links [] = []
more_links (a ∷ more) = codes "," ++ (link a ++ more_links more)

-- addresses as links, joined by commas
abbrev pub links : List (List ℕ) → List ℕ
links [] = []
links (a ∷ more) = link a ++ more_links more

-- the handles of all topics, rising
abbrev pub handles_in : List Entry → List ℕ
handles_in [] = []
handles_in (e ∷ es) = cond (e.key.part == 0) (e.key.handle.0 ∷ handles_in es) (handles_in es)

-- the list of all topics
abbrev pub topic_links : List Entry → List ℕ
topic_links es = links (map address (handles_in es))

-- the list of the data of all topics that have data
abbrev pub data_links : List Entry → List ℕ
data_links es = links (map data_address (filter (has_data es) (handles_in es)))
