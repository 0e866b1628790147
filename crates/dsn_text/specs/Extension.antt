-- Extension fields of a delivery status, in which a mail system reports more on a message or a
-- recipient than the fields of RFC 3464 do (RFC 3464 section 2.4).
use Rattle.std.specs.Prelude.{◌≡◌, ℕ, zero, suc, ◌≤◌, Bool, ◌&&◌, ◌==◌, nat_eq, nat_lt, List, [], ◌∷◌, ◌++◌, length, drop, codes, All, IsTrue, if◌then◌else◌}
use Rattle.std.specs.List.{starts_with, before_first, after_first, position_or_len, slice_split, flat_map}
use Rattle.dsn_text.specs.Text.{is_atom_byte, is_printable, is_text}

-- the length limit of an extension field's name, in bytes with its `X-` (this project's profile)
abbrev pub longest_extension_name : ℕ
longest_extension_name = 64

-- the length limit of an extension field's value, in bytes (this project's profile)
abbrev pub longest_extension_value : ℕ
longest_extension_value = 255

-- the limit of extension fields in a text (this project's profile)
abbrev pub most_extensions : ℕ
most_extensions = 8

-- the length limit of a text of extension fields, in bytes; each has a colon, a space and LF as
-- well
abbrev pub longest_extension_text : ℕ
longest_extension_text = 2576

-- the name of an extension field: an atom longer than `X-` that begins with it (RFC 3464 section
-- 2.4)
abbrev pub is_extension_name : List ℕ → Bool
is_extension_name name =
    starts_with nat_eq name (codes "X-") && is_text is_atom_byte 3 longest_extension_name name

-- the value of an extension field: printable, so it doesn't leave its line
abbrev pub is_extension_value : List ℕ → Bool
is_extension_value = is_text is_printable 1 longest_extension_value

-- an extension field: its name, a colon, a space and its value
pub record IsExtensionLine (line : List ℕ) : Type 0 where
  pub name : List ℕ
  pub value : List ℕ
  pub name_legal : IsTrue (is_extension_name name)
  pub value_legal : IsTrue (is_extension_value value)
  pub shape : line ≡ name ++ codes ": " ++ value

abbrev pub is_field_colon : ℕ → Bool
is_field_colon byte = byte == 58

abbrev pub is_feed : ℕ → Bool
is_feed byte = byte == 10

-- all lists except the last
abbrev pub lines_but_last : List (List ℕ) → List (List ℕ)
lines_but_last [] = []
lines_but_last (line ∷ []) = []
lines_but_last (line ∷ next ∷ rest) = line ∷ lines_but_last (next ∷ rest)

-- the lines of a text that end with LF, without the text after the last LF
unfoldable pub lines_ended_by_lf : List ℕ → List (List ℕ)
lines_ended_by_lf text = lines_but_last (slice_split is_feed text)

-- a text of extension fields: at most eight lines, each ended by LF alone, and nothing after them
pub record IsExtensionText (text : List ℕ) : Type 0 where
  pub fields : All IsExtensionLine (lines_ended_by_lf text)
  pub few : length (lines_ended_by_lf text) ≤ most_extensions
  pub shape : text ≡ flat_map (λ line. line ++ codes "\n") (lines_ended_by_lf text)
  pub short : length text ≤ longest_extension_text

-- the same as tests

-- the text after the colon is a space and a value
abbrev pub is_extension_rest : List ℕ → Bool
is_extension_rest rest = starts_with nat_eq rest (codes " ") && is_extension_value (drop 1 rest)

unfoldable pub is_extension_line : List ℕ → Bool
is_extension_line line =
    is_extension_name (before_first is_field_colon line) && is_extension_rest (after_first is_field_colon line)

-- whether a text is at most the given number of extension fields, one line after another
unfoldable pub are_extension_lines : ℕ → List ℕ → Bool
are_extension_lines zero text = length text == 0
are_extension_lines (suc most) text =
    if nat_lt (position_or_len is_feed text) (length text)
    then
    is_extension_line (before_first is_feed text)
    && are_extension_lines most (after_first is_feed text)
    else length text == 0

abbrev pub is_extension_text : List ℕ → Bool
is_extension_text text = are_extension_lines most_extensions text
