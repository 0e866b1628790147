-- The status of a log's record as RFC 3463 section 2 writes it. Postfix also accepts leading zeros, as in 5.01.1.
use Rattle.dsn_text.specs.Text.{is_digit}
use Rattle.std.specs.Prelude.{ℕ, Bool, true, false, ◌&&◌, ◌==◌, List, [], ◌∷◌, if◌then◌else◌}

abbrev pub begins_with_digit : List ℕ → Bool
begins_with_digit [] = false
begins_with_digit (byte ∷ rest) = is_digit byte

-- a leading zero of a number that has more digits
abbrev pub is_spare_zero : Bool → ℕ → List ℕ → Bool
is_spare_zero at_front byte rest = (at_front && (byte == 48)) && begins_with_digit rest

-- leading zeros are dropped; a number begins at the front of the text and after each dot
abbrev pub without_zeros : (at_front : Bool) → List ℕ → List ℕ
without_zeros at_front [] = []
without_zeros at_front (byte ∷ rest) =
    if is_spare_zero at_front byte rest then without_zeros true rest
    else byte ∷ without_zeros (byte == 46) rest

abbrev pub plain_status : List ℕ → List ℕ
plain_status text = without_zeros true text
