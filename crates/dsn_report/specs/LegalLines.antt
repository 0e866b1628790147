-- The lines of a notice fit into a mail (RFC 5322 section 2.1.1, RFC 2045 sections 2.7 and 2.8).
use Rattle.std.specs.Prelude.{◌≡◌, ℕ, Bool, true, false, ◌||◌, ◌&&◌, not, ◌==◌, List, length, IsTrue, nat_eq, nat_le, nat_lt}
use Rattle.std.specs.List.{list_all, list_any}
use lib.Pointwise.{pointwise}
use Rattle.dsn_text.specs.Text.{is_between, is_printable}
use Rattle.dsn_report.specs.Lines.{longest_line, text_of_lines}

-- a tab, or a printable byte
abbrev pub is_line_byte : ℕ → Bool
is_line_byte byte = is_printable byte || (byte == 9)

-- whether a line has only such bytes, at most 998 without its CRLF
abbrev pub is_legal_line : List ℕ → Bool
is_legal_line line = nat_le (length line) longest_line && list_all is_line_byte line

-- whether a line of a 7bit mail may hold a byte: 1 to 127 except CR and LF (RFC 2045 section 2.7)
abbrev pub is_mail_byte : ℕ → Bool
is_mail_byte byte = is_between 1 127 byte && (not (byte == 10) && not (byte == 13))

-- whether a line can be in a 7bit mail unchanged
abbrev pub is_mail_line : List ℕ → Bool
is_mail_line line = nat_le (length line) longest_line && list_all is_mail_byte line

-- whether a line of an 8bit mail may hold a byte: 1 to 255 except CR and LF (RFC 2045 section 2.8)
abbrev pub is_eight_bit_byte : ℕ → Bool
is_eight_bit_byte byte = is_between 1 255 byte && (not (byte == 10) && not (byte == 13))

-- whether a line can be in an 8bit mail unchanged
abbrev pub is_eight_bit_line : List ℕ → Bool
is_eight_bit_line line = nat_le (length line) longest_line && list_all is_eight_bit_byte line

-- whether a line can be in a mail unchanged, which is 8bit or 7bit
abbrev pub is_line_of : Bool → List ℕ → Bool
is_line_of true = is_eight_bit_line
is_line_of false = is_mail_line

-- whether a line has a byte that no 7bit mail may hold, above 127
abbrev pub has_high_byte : List ℕ → Bool
has_high_byte line = list_any (nat_lt 127) line

-- whether a line is one of these
abbrev pub is_among : List (List ℕ) → List ℕ → Bool
is_among lines line = list_any (pointwise nat_eq line) lines

-- a text is lines that can be in an 8bit mail or in a 7bit one, each with its CRLF, and nothing
-- else; all lines except the foreign ones are of tabs and printable bytes
pub record HasLegalLines (text : List ℕ) (eight_bit : Bool) (foreign : List (List ℕ)) : Type 0 where
  pub lines : List (List ℕ)
  pub written : text ≡ text_of_lines lines
  pub legal : IsTrue (list_all (is_line_of eight_bit) lines)
  pub plain : IsTrue (list_all (λ line. is_legal_line line || is_among foreign line) lines)
