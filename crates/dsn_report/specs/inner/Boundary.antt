-- The boundary between the parts of a notice, as the search for its number sees it.
use Rattle.std.specs.Prelude.{ℕ, ◌+◌, Bool, ◌||◌, ◌==◌, List, codes, nat_eq, ◌++◌}
use Rattle.std.specs.List.{starts_with, list_any}
use Rattle.dsn_report.specs.Boundary.{four_digits, is_delimiter}
use Rattle.dsn_text.specs.Text.{is_letter_or_digit, longest_queue_id, most_digits}

-- the length limit of a letter's name, in bytes: the service's letter, two dots, a queue id of up
-- to 32, and a moment of up to 20 digits
abbrev pub longest_letter_name : ℕ
longest_letter_name = 3 + longest_queue_id + most_digits

-- whether a delimiter may have a byte: a letter, a digit, a dot or a dash
abbrev pub is_delimiter_byte : ℕ → Bool
is_delimiter_byte byte = is_letter_or_digit byte || ((byte == 46) || (byte == 45))

-- whether a line begins with two dashes, as every delimiter does
abbrev pub is_dashed : List ℕ → Bool
is_dashed line = starts_with nat_eq line (codes "--")

-- whether one of these lines is taken for a delimiter of the boundary with this front and number
abbrev pub rules_out : List ℕ → List (List ℕ) → ℕ → Bool
rules_out front returned number = list_any (is_delimiter (front ++ four_digits number)) returned
