-- What is true of every topic that the broker keeps.
use Rattle.std.specs.Prelude.{◌≡◌, ℕ, ◌≤◌, true, List, length, Some, Ok}
use Rattle.protocol.specs.Addresses.{data_address}
use Rattle.maps.specs.Maps.{Props, written}
use Rattle.topics.specs.declared.amendment.Amendment.{Amendment}
use Rattle.topics.specs.Admission.{admitted}
use Rattle.topics.specs.Amendment.{amended}
use Rattle.topics.specs.Stored.{kept_for, stored}

-- a stored value is recognised exactly if it is the written form of properties kept for the handle; what create admits
-- and what replace and patch make is kept; and its written form is short enough for a store
pub record Kept : Type 0 where
  pub exactly : (h : ℕ) (v : List ℕ) (p : Props) → stored h v ≡ Some p → (kept_for h p ≡ true) × (v ≡ written p)
  pub recognised : (h : ℕ) (p : Props) → kept_for h p ≡ true → stored h (written p) ≡ Some p
  pub created : (h : ℕ) (bs : List ℕ) (p : Props) → admitted (data_address h) bs ≡ Ok p → kept_for h p ≡ true
  pub changed : (a : Amendment) (h : ℕ) (p q : Props) (bs : List ℕ) → kept_for h p ≡ true → amended a p bs ≡ Ok q → kept_for h q ≡ true
  pub short : (h : ℕ) (p : Props) → kept_for h p ≡ true → length (written p) ≤ 574
