-- What the methods of a store answer, from what is known of the key, the sizes and the look-up.
use Rattle.std.proofs.Common.{◌≡◌, ℕ, ◌≤◌, Bool, true, false, List, length, is_some, Ok, Err, Option, ap, ◌∙◌}
use Rattle.std.proofs.lemmas.Bool.{and_from, cond-true, cond-false, le-leb}
use Rattle.std.specs.Option.{option_map}
use Rattle.protocol.specs.declared.refusal.Refusal.TheVariants.{StoreFull}
use Rattle.store.specs.declared.key.Key.{Key}
use Rattle.store.specs.Held.{Entry, value_limit, proper, look, full, laid, get_answer, get_buffer, put_answer, remove_answer}

-- a get that is not refused
pub get_answers : (es : List Entry) (k : Key) (room : ℕ) (o : Option (List ℕ)) → proper k ≡ true → value_limit ≤ room → look es k ≡ o
    → get_answer es k room ≡ Ok (option_map length o)
get_answers es k room o p l e = cond-true _ _ _ (and_from _ _ p (le-leb _ _ l)) ∙ ap (λ x. Ok (option_map length x)) e

pub get_fills : (es : List Entry) (k : Key) (buf : List ℕ) (o : Option (List ℕ)) → proper k ≡ true → value_limit ≤ length buf → look es k ≡ o
    → get_buffer es k buf ≡ laid o buf
get_fills es k buf o p l e = cond-true _ _ _ (and_from _ _ p (le-leb _ _ l)) ∙ ap (λ x. laid x buf) e

-- a put that is not refused, and one of a new key at a full store
pub put_answers : (es : List Entry) (n : ℕ) (k : Key) (v : List ℕ) → proper k ≡ true → length v ≤ value_limit → full es n k ≡ false → put_answer es n k v ≡ Ok tt
put_answers es n k v p l f = cond-true _ _ _ (and_from _ _ p (le-leb _ _ l)) ∙ cond-false _ _ _ f

pub put_full : (es : List Entry) (n : ℕ) (k : Key) (v : List ℕ) → proper k ≡ true → length v ≤ value_limit → full es n k ≡ true → put_answer es n k v ≡ Err StoreFull
put_full es n k v p l f = cond-true _ _ _ (and_from _ _ p (le-leb _ _ l)) ∙ cond-true _ _ _ f

-- a remove that is not refused
pub remove_answers : (es : List Entry) (k : Key) (b : Bool) → proper k ≡ true → is_some (look es k) ≡ b → remove_answer es k ≡ Ok b
remove_answers es k b p e = cond-true _ _ _ p ∙ ap (λ x. Ok x) e
