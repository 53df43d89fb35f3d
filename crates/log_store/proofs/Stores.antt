-- A log store after a put or a remove: its log, its count and its map.
use Rattle.std.proofs.Common.{◌≡◌, ℕ, ◌+◌, ◌<◌, ◌≤◌, Bool, true, false, cond, not, ◌&&◌, ltb, leb, List, [], ◌∷◌, ◌++◌, length, take, is_some, sym, refl, ap, ◌∙◌, arith}
use Rattle.std.specs.Int.{from_bool}
use Rattle.std.proofs.lemmas.List.{take-append-le}
use Rattle.std.proofs.lemmas.Bool.{and_from, le-leb, leb-false, lt-ltb}
use Rattle.store.specs.declared.key.Key.{Key}
use Rattle.store.specs.Held.{Entry, Sound, look, proper, put, remove, value_limit}
use Rattle.store.proofs.Maps.{length-put, length-remove}
use Rattle.log_store.specs.Format.{Log, Holds, all_fit, encoded, entries, entry_bytes, fit}
use Rattle.log_store.specs.Logs.{sifted}
use Rattle.log_store.proofs.Format.{entries_are, log_from}
use Rattle.log_store.proofs.Meanings.{sifted-fit}

pub entry-fits : (k : Key) (v : List ℕ) → proper k ≡ true → k.handle.0 < 4294967296 → length v ≤ 576 → fit (record { key = k; value = v }) ≡ true
entry-fits k v p h l = and_from (proper k && ltb k.handle.0 4294967296) (leb (length v) value_limit) (and_from (proper k) (ltb k.handle.0 4294967296) p (lt-ltb _ _ h)) (le-leb _ _ l)

-- bytes that are a log of these entries
pub record Written (bs : List ℕ) (es : List Entry) : Type 0 where
  pub log : Log bs
  pub are : entries bs ≡ es

written : (bs : List ℕ) (es : List Entry) → Holds bs es → Written bs es
written bs es h = record { log = log_from bs es h; are = entries_are bs es h }

-- an entry behind a log
pub appended : (was bs : List ℕ) (e : Entry) → Log was → fit e ≡ true → bs ≡ was ++ entry_bytes e → Written bs (e ∷ entries was)
appended was bs e h f q =
    written bs (e ∷ entries was) (record { bytes = ap (λ x. x ++ entry_bytes e) h.bytes ∙ sym q; fits = and_from (fit e) (all_fit (entries was)) f h.fits })

-- a log after a squeeze of the bytes that it had, with the memory behind them
pub squeezed : (gone : Key) (dead : Bool) (n : ℕ) (was xs rest : List ℕ) → Log was → n ≤ length xs → take n xs ≡ encoded (sifted gone dead [] (entries was))
    → Written (take n (xs ++ rest)) (sifted gone dead [] (entries was))
squeezed gone dead n was xs rest h l q =
    written (take n (xs ++ rest)) (sifted gone dead [] (entries was)) (record { bytes = sym (take-append-le n xs rest l ∙ q); fits = sifted-fit gone dead (entries was) h.fits })

-- a key that is not held is one more
pub one_more : (held : Bool) → from_bool (not held) ≡ cond held 0 1
one_more true = refl
one_more false = refl

-- how many keys there are after a put
pub put_counts : (m : List Entry) (k : Key) (v : List ℕ) (held : Bool) → Sound m → proper k ≡ true → held ≡ is_some (look m k) → length m + from_bool (not held) ≡ length (put m k v)
put_counts m k v held s p h = ap (λ n. length m + n) (one_more held) ∙ ap (λ b. length m + cond b 0 1) h ∙ sym (length-put m k v p s)

-- how many are left where a key that is held is cleared
pub remove_counts : (m : List Entry) (k : Key) → is_some (look m k) ≡ true → length (remove m k) + 1 ≡ length m
remove_counts m k h = ap (λ b. length (remove m k) + cond b 1 0) (sym h) ∙ length-remove m k

-- a key that finds a place is within what can be held
pub place_for : (keys n : ℕ) (held : Bool) → keys ≤ n → (not held && leb n keys) ≡ false → keys + from_bool (not held) ≤ n
place_for keys n true l f = omega arith
place_for keys n false l f = let t = leb-false _ _ f in omega arith
