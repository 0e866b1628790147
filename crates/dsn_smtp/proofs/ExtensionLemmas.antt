-- The extensions that a reply offers.
use Rattle.std.proofs.Common.{◌≡◌, ℕ, true, List, [], ◌∷◌, length, refl, arith}
use Rattle.std.specs.Char.{is_ascii_digit}
use Rattle.std.specs.Str.{IsAscii, all_ascii_digits}
use Rattle.std.specs.Str.Parse.{digits_value}
use Rattle.std.proofs.lemmas.Bool.{and_parts}
use Rattle.std.proofs.lemmas.Str.Ascii.{IsAscii-nil, IsAscii-cons}

-- digits are ASCII
pub digits-ascii : (text : List ℕ) → all_ascii_digits text ≡ true → IsAscii text
digits-ascii [] _ = IsAscii-nil
digits-ascii (byte ∷ text) digits =
    let parts = and_parts (is_ascii_digit byte) (all_ascii_digits text) digits in
    IsAscii-cons byte text (grind (arith, parts.0)) (digits-ascii text parts.1)

-- no digits write the number 0
pub no_digits : (text : List ℕ) → length text ≡ 0 → digits_value 10 text ≡ 0
no_digits [] _ = refl
no_digits (byte ∷ text) none = absurd (omega arith)
