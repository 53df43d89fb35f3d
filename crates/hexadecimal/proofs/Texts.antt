-- One step of writing and of reading hexadecimal text.
use Rattle.std.proofs.Common.{◌≡◌, ℕ, ◌+◌, ◌*◌, ◌<◌, cond, List, [], ◌∷◌, ◌++◌, length, get_or, drop, IfSome, Some, None, Option, sym, refl, ap, ◌∙◌, subst, arith, eq-eqb, ne_eqb}
use Rattle.hexadecimal.specs.Digits.{decoded, decoded_from, digit_value, if_some}
use Rattle.std.proofs.lemmas.List.{append_assoc, drop_more}
use Rattle.std.specs.Option.{option_map}

-- the bytes read so far and those that the rest writes are what the whole text writes
abbrev pub Goes : List ℕ → List ℕ → Option ℕ → ℕ → Type 0
Goes cs read high i = option_map (λ bs. read ++ bs) (decoded_from high (drop i cs)) ≡ decoded cs

module _ (cs read : List ℕ) (i : ℕ) (l : i < length cs) where
  here : (high : Option ℕ) → Goes cs read high i → option_map (λ bs. read ++ bs) (decoded_from high (get_or cs i 0 ∷ drop (i + 1) cs)) ≡ decoded cs
  here high g = sym (ap (λ x. option_map (λ bs. read ++ bs) (decoded_from high x)) (drop_more cs i 0 l)) ∙ g

  pub space : get_or cs i 0 ≡ 32 → Goes cs read None i → Goes cs read None (i + 1)
  space e g =
      sym (ap (λ b. option_map (λ bs. read ++ bs) (cond b (decoded_from None (drop (i + 1) cs)) (if_some (digit_value (get_or cs i 0)) (λ d. decoded_from (Some d) (drop (i + 1) cs))))) (eq-eqb _ _ e))
      ∙ here None g

  digits : (get_or cs i 0 ≡ 32 → ⊥) → Goes cs read None i
      → option_map (λ bs. read ++ bs) (if_some (digit_value (get_or cs i 0)) (λ d. decoded_from (Some d) (drop (i + 1) cs))) ≡ decoded cs
  digits n g =
      sym (ap (λ b. option_map (λ bs. read ++ bs) (cond b (decoded_from None (drop (i + 1) cs)) (if_some (digit_value (get_or cs i 0)) (λ d. decoded_from (Some d) (drop (i + 1) cs))))) (ne_eqb _ _ n))
      ∙ here None g

  pub first : (d : ℕ) → (get_or cs i 0 ≡ 32 → ⊥) → digit_value (get_or cs i 0) ≡ Some d → Goes cs read None i → Goes cs read (Some d) (i + 1)
  first d n e g = sym (ap (λ o. option_map (λ bs. read ++ bs) (if_some o (λ d. decoded_from (Some d) (drop (i + 1) cs)))) e) ∙ digits n g

  pub second : (h d : ℕ) → digit_value (get_or cs i 0) ≡ Some d → Goes cs read (Some h) i → Goes cs (read ++ (h * 16 + d) ∷ []) None (i + 1)
  second h d e g =
      joins (decoded_from None (drop (i + 1) cs))
      ∙ sym (ap (λ o. option_map (λ bs. read ++ bs) (if_some o (λ d. option_map (λ bs. (h * 16 + d) ∷ bs) (decoded_from None (drop (i + 1) cs))))) e) ∙ here (Some h) g
    where
      joins : (o : Option (List ℕ)) → option_map (λ bs. (read ++ (h * 16 + d) ∷ []) ++ bs) o ≡ option_map (λ bs. read ++ bs) (option_map (λ bs. (h * 16 + d) ∷ bs) o)
      joins None = refl
      joins (Some bs) = ap Some (append_assoc read ((h * 16 + d) ∷ []) bs)

-- the state of a turn, where its parts are known by equations
pub goes_at : (cs r read : List ℕ) (h high : Option ℕ) (i : ℕ) → r ≡ read → h ≡ high → IfSome high (λ d. d < 16) → Goes cs read high i → Goes cs r h i × IfSome h (λ d. d < 16)
goes_at cs r read h high i e f b g = (
  ap (λ x. option_map (λ bs. x ++ bs) (decoded_from h (drop i cs))) e ∙ ap (λ x. option_map (λ bs. read ++ bs) (decoded_from x (drop i cs))) f ∙ g,
  subst (λ x. IfSome x (λ d. d < 16)) (sym f) b,
)

-- a digit is no space
pub spaceless : (c d : ℕ) → digit_value c ≡ Some d → c ≡ 32 → ⊥
spaceless c d e s = let z : ◌≡◌ {A = Option ℕ} None (Some d) = ap digit_value (sym s) ∙ e in let y : ◌≡◌ {A = ℕ} 0 1 = cc in absurd_01 y
  where
    absurd_01 : ◌≡◌ {A = ℕ} 0 1 → ⊥
    absurd_01 q = omega arith
