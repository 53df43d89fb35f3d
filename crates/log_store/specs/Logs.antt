-- What a log means, and what is left of it where entries are squeezed out.
use Rattle.std.specs.Prelude.{Bool, not, ◌&&◌, List, [], ◌∷◌, ◌++◌, is_some, if◌then◌else◌}
use Rattle.store.specs.declared.key.Key.{Key}
use Rattle.store.specs.Held.{Entry, look, put, same_key}

-- the map that entries mean, the newest of a key counts
abbrev pub meaning : List Entry → List Entry
meaning [] = []
meaning (e ∷ es) = put (meaning es) e.key e.value

-- an entry stays if its key is another than the one that goes and, where dead entries go too, no newer entry of its key stays
abbrev pub stays : Key → Bool → List Entry → Key → Bool
stays gone dead newer k = not (same_key k gone) && not (dead && is_some (look newer k))

-- the entries that stay, newest first: the newer ones that were found to stay, and those of the rest
abbrev pub kept : (List Entry → Key → Bool) → List Entry → List Entry → List Entry
kept stays newer [] = newer
kept stays newer (e ∷ es) = kept stays (if stays newer e.key then newer ++ e ∷ [] else newer) es

-- the entries that are left where those of a key are squeezed out and, where they go too, dead entries
abbrev pub sifted : Key → Bool → List Entry → List Entry → List Entry
sifted gone dead newer es = kept (stays gone dead) newer es
