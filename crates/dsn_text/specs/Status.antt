-- Status codes: a class, a subject and a detail, joined by dots (RFC 3463 section 2, RFC 3464
-- section 2.3.4).
use Rattle.std.specs.Prelude.{◌≡◌, ℕ, Bool, false, ◌&&◌, ◌||◌, not, ◌==◌, nat_lt, List, [], ◌∷◌, ◌++◌, length, codes, IsTrue}
use Rattle.std.specs.List.{before_first, after_first}
use Rattle.dsn_text.specs.Text.{is_digit, is_text}

-- whether a byte is a class: success `2`, temporary failure `4` or permanent failure `5`
abbrev pub is_class : ℕ → Bool
is_class byte = byte == 50 || (byte == 52 || byte == 53)

-- a number is one to three digits, with nothing after a first `0`
pub record IsNumberText (text : List ℕ) : Type 0 where
  pub digits : IsTrue (is_text is_digit 1 3 text)
  pub no_leading_zero : (rest : List ℕ) → text ≡ codes "0" ++ rest → rest ≡ []

-- a status code is a class, a dot, a number, a dot and a number
pub record IsStatusCode (text : List ℕ) : Type 0 where
  pub class : ℕ
  pub subject : List ℕ
  pub detail : List ℕ
  pub class_known : IsTrue (is_class class)
  pub subject_number : IsNumberText subject
  pub detail_number : IsNumberText detail
  pub shape : text ≡ (class ∷ codes ".") ++ (subject ++ (codes "." ++ detail))

-- the same as tests

abbrev pub is_dot : ℕ → Bool
is_dot byte = byte == 46

abbrev pub has_leading_zero : List ℕ → Bool
has_leading_zero [] = false
has_leading_zero (first ∷ rest) = first == 48 && nat_lt 0 (length rest)

abbrev pub is_number_text : List ℕ → Bool
is_number_text text = is_text is_digit 1 3 text && not (has_leading_zero text)

abbrev pub is_class_text : List ℕ → Bool
is_class_text [] = false
is_class_text (class ∷ rest) = is_class class && length rest == 0

-- two numbers with a dot between them
abbrev pub is_number_pair : List ℕ → Bool
is_number_pair text =
    is_number_text (before_first is_dot text) && is_number_text (after_first is_dot text)

abbrev pub is_status_code : List ℕ → Bool
is_status_code text =
    is_class_text (before_first is_dot text) && is_number_pair (after_first is_dot text)

-- the class of a status code, its first byte
abbrev pub status_class : List ℕ → ℕ
status_class [] = 0
status_class (class ∷ _) = class
