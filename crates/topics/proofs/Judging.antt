-- The ways that a new topic's map can go.
use Rattle.std.proofs.Common.{◌≡◌, ℕ, ◌≤◌, Bool, true, false, cond, ◌&&◌, leb, List, length, Ok, Err, Result, sym, refl, ap, ◌∙◌, arith}
use Rattle.std.proofs.lemmas.Bool.Decides.{nat_tests}
use Rattle.protocol.specs.declared.fault.Fault.{Fault}
use Rattle.protocol.specs.declared.refusal.Refusal.{Refusal}
use Rattle.protocol.specs.declared.refusal.Refusal.TheVariants.{TooLarge, BadValue}
use Rattle.maps.specs.Maps.{Props, read_map, in_range, with_defaults, with_data_address}
use Rattle.topics.specs.Admission.{admitted, fit, judged}

module _ (address bs : List ℕ) (short : length bs ≤ 576) where
  -- a map that is short enough is judged by what is read
  pub looked_at : (r : Result Props Fault) → r ≡ read_map bs → judged address r ≡ admitted address bs
  looked_at r e =
      let t : leb (length bs) 576 ≡ true = grind (arith, nat_tests) in
      ap (judged address) e ∙ ap (λ b. cond b (judged address (read_map bs)) (Err TooLarge)) (sym t)

  module _ (p : Props) (read : Ok p ≡ read_map bs) where
    abbrev verdict : Bool → Bool → Result Props Refusal
    verdict a b = cond (a && b) (Ok (with_defaults (with_data_address p address))) (Err BadValue)

    at : (a b : Bool) → in_range p ≡ a → fit p ≡ b → verdict a b ≡ admitted address bs
    at a b e f = sym (ap (λ x. verdict x (fit p)) e ∙ ap (λ x. verdict a x) f) ∙ looked_at (Ok p) read

    -- out of range
    pub ranged_out : in_range p ≡ false → Err BadValue ≡ admitted address bs
    ranged_out e = at false (fit p) e refl

    -- a topic
    pub fitting : in_range p ≡ true → fit p ≡ true → Ok (with_defaults (with_data_address p address)) ≡ admitted address bs
    fitting e f = at true true e f

-- the answer of a check: nothing, or a bad value
abbrev pub Verdict : Type 0
Verdict = Result (Unit {0}) Refusal

pub passed : (b : Bool) → ◌≡◌ {A = Verdict} (Ok tt) (cond b (Ok tt) (Err BadValue)) → b ≡ true
passed true e = refl
passed false e = cc

pub failed : (b : Bool) (r : Refusal) → ◌≡◌ {A = Verdict} (Err r) (cond b (Ok tt) (Err BadValue)) → (b ≡ false) × (r ≡ BadValue)
failed true r e = ((cc), (cc))
failed false r e = (refl, cc)
