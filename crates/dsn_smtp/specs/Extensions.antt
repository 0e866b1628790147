-- The extensions of SMTP that a server offers in its reply to EHLO (RFC 5321 section 4.1.1.1).
use Rattle.std.specs.Prelude.{ℕ, ◌^◌, Bool, ◌&&◌, ◌==◌, nat_lt, List, [], ◌∷◌, drop, codes, Option, Some, None, if◌then◌else◌}
use Rattle.std.specs.List.{list_any, after_first, before_first}
use Rattle.std.specs.Str.{all_ascii_digits, str_eq_ignore_ascii_case}
use Rattle.std.specs.Str.Parse.{digits_value}
use Rattle.dsn_text.specs.Extension.{lines_ended_by_lf}
use Rattle.dsn_smtp.specs.declared.extensions.Extensions.{Extensions}

abbrev pub is_carriage_return : ℕ → Bool
is_carriage_return byte = byte == 13

abbrev pub ends_keyword : ℕ → Bool
ends_keyword byte = byte == 32

-- the text of a line of a reply, without its code, the byte after the code, and its CR
abbrev pub text_of_line : List ℕ → List ℕ
text_of_line line = before_first is_carriage_return (drop 4 line)

-- whether a line of a reply begins with a keyword, in any case; a space or the line's end follows
abbrev pub has_keyword : List ℕ → List ℕ → Bool
has_keyword keyword line = str_eq_ignore_ascii_case (before_first ends_keyword (text_of_line line)) keyword

-- the lines that offer extensions: those after the first, which names the server
abbrev pub offering_lines : List ℕ → List (List ℕ)
offering_lines reply = drop 1 (lines_ended_by_lf reply)

-- whether a reply to EHLO offers the extension with this keyword
abbrev pub offers : List ℕ → List ℕ → Bool
offers keyword reply = list_any (has_keyword keyword) (offering_lines reply)

-- the parameters of a keyword: what follows it and a space in the first line that begins with it
abbrev pub parameters_in : List ℕ → List (List ℕ) → List ℕ
parameters_in keyword [] = []
parameters_in keyword (line ∷ lines) =
    if has_keyword keyword line then after_first ends_keyword (text_of_line line) else parameters_in keyword lines

-- The limit that a decimal number sets: none if it is 0, which means that no limit is set (RFC 1870 section 4), or
-- 2^64 or more, or if the text is no decimal number.
abbrev pub limit_said : List ℕ → Option ℕ
limit_said text =
    if all_ascii_digits text && (nat_lt 0 (digits_value 10 text) && nat_lt (digits_value 10 text) (2 ^ 64))
    then Some (digits_value 10 text) else None

-- the extensions that a reply to EHLO offers: 8BITMIME (RFC 6152), PIPELINING (RFC 2920) and SIZE (RFC 1870)
abbrev pub extensions_of : List ℕ → Extensions
extensions_of reply = record {
  eight_bit_mime = offers (codes "8BITMIME") reply;
  pipelining = offers (codes "PIPELINING") reply;
  size_limit = limit_said (parameters_in (codes "SIZE") (offering_lines reply));
}
