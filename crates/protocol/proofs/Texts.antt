-- How codes are written.
use Rattle.std.proofs.Common.{◌≡◌, ℕ, ◌∷◌, ◌++◌, refl, ap, ◌∙◌}
use Rattle.std.specs.Fmt.{char_count, decimal, digits, format_spec, padded_integral, styled_decimal}
use Rattle.protocol.specs.declared.code.Code.{Code}
use Rattle.protocol.specs.declared.code.Code.TheVariants.{Created, Deleted, Changed, Content, BadRequest, Forbidden, NotFound, TooLarge, UnsupportedFormat, InternalError, Unavailable}
use Rattle.protocol.specs.Codes.{class_of, code_text, detail_of}

-- class, point, and detail in two digits are the code's text
pub code_written : (c : Code) → decimal (class_of c) ++ (46 ∷ styled_decimal (format_spec 32 0 4 2 18446744073709551615) (detail_of c)) ≡ code_text c
unfolding digits padded_integral char_count
code_written Created = refl
code_written Deleted = refl
code_written Changed = refl
code_written Content = refl
code_written BadRequest = refl
code_written Forbidden = refl
code_written NotFound = refl
code_written TooLarge = refl
code_written UnsupportedFormat = refl
code_written InternalError = refl
code_written Unavailable = refl

-- the same of numbers and options that are equal to these
pub code_shown : (c : Code) (class detail : ℕ) (s : _) → class ≡ class_of c → detail ≡ detail_of c → s ≡ format_spec 32 0 4 2 18446744073709551615
    → decimal class ++ (46 ∷ styled_decimal s detail) ≡ code_text c
code_shown c class detail s ec ed es =
    ap (λ n. decimal n ++ (46 ∷ styled_decimal s detail)) ec
    ∙ ap (λ n. decimal (class_of c) ++ (46 ∷ styled_decimal s n)) ed
    ∙ ap (λ o. decimal (class_of c) ++ (46 ∷ styled_decimal o (detail_of c))) es
    ∙ code_written c
