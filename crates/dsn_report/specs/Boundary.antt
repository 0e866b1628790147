-- The boundary between the parts of a notice, and the returned lines that it has to differ from
-- (RFC 2046 section 5.1.1).
use Rattle.std.specs.Prelude.{ℕ, zero, suc, ◌+◌, ◌-◌, ◌/◌, ◌%◌, ◌<◌, Bool, true, false, ◌||◌, ◌&&◌, ◌==◌, List, [], ◌∷◌, ◌++◌, length, map, take, codes, decimal, if◌then◌else◌, nat_eq, IsTrue, IsFalse}
use Rattle.std.specs.List.{list_all, list_any, starts_with, before_first}
use Rattle.std.specs.Str.Lines.{lines}
use Rattle.dsn_outcome.specs.Draft.{Draft}
use Rattle.dsn_outcome.specs.Letter.{Letter}
use Rattle.dsn_outcome.specs.declared.returned.Returned.{Returned}
use Rattle.dsn_outcome.specs.declared.returned.Returned.TheVariants.{Header, Message, EightBitMessage}
use Rattle.dsn_text.specs.Service.{service_letter}
use Rattle.dsn_text.specs.Text.{is_printable}
use Rattle.dsn_report.specs.LegalLines.{has_high_byte, is_line_of}
use Rattle.dsn_report.specs.Lines.{longest_line}

-- a byte of a returned header; it is `?` if it is neither printable nor a tab, since a notice is
-- 7bit text (RFC 2045 section 2.7)
abbrev pub shown_byte : ℕ → ℕ
shown_byte byte = if is_printable byte || (byte == 9) then byte else 63

-- a line of a returned header, cut to the length limit of a line
abbrev pub shown_line : List ℕ → List ℕ
shown_line line = take longest_line (map shown_byte line)

-- the lines of a message's header: those before the first empty line (RFC 5322 section 2.1)
unfoldable pub header_lines : List ℕ → List (List ℕ)
header_lines header = before_first (λ line. length line == 0) (lines header)

-- whether the flush has a whole message to be returned
abbrev pub is_message : Returned → Bool
is_message Header = false
is_message Message = true
is_message EightBitMessage = true

-- whether the notice may be an 8bit mail, since it may be submitted with 8BITMIME (RFC 6152)
abbrev pub may_be_eight_bit : Returned → Bool
may_be_eight_bit Header = false
may_be_eight_bit Message = false
may_be_eight_bit EightBitMessage = true

-- whether each line of a text can be unchanged in the mail that the notice may be
unfoldable pub stands_whole : Returned → List ℕ → Bool
stands_whole returned text = list_all (is_line_of (may_be_eight_bit returned)) (lines text)

-- whether a notice returns the message instead of its header: the flush has the message, and each
-- line can be in the mail unchanged (RFC 3461 section 4.3; RFC 2045 sections 2.7 and 2.8)
unfoldable pub returns_message : Draft → Bool
returns_message draft = is_message draft.returned && stands_whole draft.returned draft.header

-- the lines that a notice returns: those of the message unchanged, or those of its header
unfoldable pub returned_lines : Draft → List (List ℕ)
returned_lines draft =
    if returns_message draft then lines draft.header
    else map shown_line (header_lines draft.header)

-- whether some returned line has a byte above 127, so that the notice is an 8bit mail
unfoldable pub returns_eight_bit : Draft → Bool
returns_eight_bit draft = list_any has_high_byte (returned_lines draft)

-- how many boundaries a letter has: one for each number of four digits (this project's profile)
abbrev pub boundary_numbers : ℕ
boundary_numbers = 10000

-- a number below 10,000 in four digits
abbrev pub four_digits : ℕ → List ℕ
four_digits n = (48 + n / 1000) ∷ (48 + n / 100 % 10) ∷ (48 + n / 10 % 10) ∷ (48 + n % 10) ∷ []

-- `S.QUEUEID.MOMENT`, which identifies a letter
abbrev pub letter_name : Letter → List ℕ
letter_name letter =
    (service_letter letter.key.service ∷ []) ++ codes "." ++ letter.key.id ++ codes "."
    ++ decimal letter.draft.moment

-- the text that each of a letter's boundaries begins with, before its number
abbrev pub boundary_front : Letter → List ℕ
boundary_front letter = letter_name letter ++ codes "."

-- the boundary with this number (this project's profile)
unfoldable pub boundary_text : Letter → ℕ → List ℕ
boundary_text letter number = boundary_front letter ++ four_digits number

-- whether a line would be taken for a delimiter (RFC 2046 section 5.1.1)
abbrev pub is_delimiter : List ℕ → List ℕ → Bool
is_delimiter boundary line = starts_with nat_eq line (codes "--" ++ boundary)

-- whether some returned line rules this number out
unfoldable pub is_ruled_out : Letter → ℕ → Bool
is_ruled_out letter number =
    list_any (is_delimiter (boundary_text letter number)) (returned_lines letter.draft)

-- the least number that no returned line rules out
pub record IsBoundaryNumber (letter : Letter) (number : ℕ) : Type 0 where
  pub free : IsFalse (is_ruled_out letter number)
  pub least : (smaller : ℕ) → smaller < number → IsTrue (is_ruled_out letter smaller)

-- the first number from the given one on that fails a test, after at most the given number of tries
unfoldable pub first_failing : (ℕ → Bool) → ℕ → ℕ → ℕ
first_failing test number zero = number
first_failing test number (suc tries) =
    if test number then first_failing test (suc number) tries else number

-- the number of a notice's boundary, which has four digits
unfoldable pub boundary_number : Letter → ℕ
boundary_number letter = first_failing (is_ruled_out letter) 0 (boundary_numbers - 1)

-- the boundary of a notice
abbrev pub boundary_of : Letter → List ℕ
boundary_of letter = boundary_text letter (boundary_number letter)
