-- Entries of a map, one after the other.
use Rattle.std.proofs.Common.{◌≡◌, ℕ, suc, List, Ok, Err, Result, sym, ap, ◌∙◌}
use Rattle.protocol.specs.declared.fault.Fault.{Fault}
use Rattle.maps.specs.Heads.{Got}
use Rattle.maps.specs.Maps.{Props, then, entry_of, entries_of}

-- where entries are missing, the next one is read, and one less is missing
entries_next : (n m : ℕ) (p : Props) (bs : List ℕ) → n ≡ suc m → entries_of n p bs ≡ then (entry_of p bs) (λ q rest. entries_of m q rest)
entries_next n m p bs h = ap (λ k. entries_of k p bs) h

-- what is read in all is what is read behind the next entry
pub read_on : (n m : ℕ) (p q : Props) (bs rest : List ℕ) {all : Result (Got Props) Fault} → n ≡ suc m → Ok (record { item = q; rest = rest }) ≡ entry_of p bs → entries_of n p bs ≡ all → entries_of m q rest ≡ all
read_on n m p q bs rest h ok e = ap (λ r. then r (λ o bytes. entries_of m o bytes)) ok ∙ (sym (entries_next n m p bs h) ∙ e)

-- a fault of the next entry is the fault of all
pub stopped : (n m : ℕ) (p : Props) (bs : List ℕ) (f : Fault) {all : Result (Got Props) Fault} → n ≡ suc m → Err f ≡ entry_of p bs → entries_of n p bs ≡ all → Err f ≡ all
stopped n m p bs f h err e = ap (λ r. then r (λ o bytes. entries_of m o bytes)) err ∙ (sym (entries_next n m p bs h) ∙ e)
