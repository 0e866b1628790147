-- The header of a message: the lines of its text before its body.
use Rattle.std.specs.Prelude.{◌≡◌, ◌<◌, ℕ, Bool, false, not, ◌&&◌, ◌||◌, ◌+◌, ◌-◌, ◌==◌, List, [], ◌∷◌, Option, Some, None, codes, length, take, drop, nat_lt, if◌then◌else◌}
use Rattle.std.specs.List.{prefix_len, suffix_len}
use Rattle.std.specs.Str.{str_eq_ignore_ascii_case}
use Rattle.dsn_postfix_files.specs.LogLine.{all_lines, first_said}
use Rattle.dsn_postfix_files.specs.LogParts.{with_its_feed}

-- whether a byte is a space or a tab
abbrev pub is_blank_byte : ℕ → Bool
is_blank_byte byte = byte == 32 || byte == 9

-- whether the name of a field may have a byte: printable ASCII except the colon (RFC 5322 section
-- 2.2)
abbrev pub is_name_byte : ℕ → Bool
is_name_byte byte = (nat_lt 32 byte && nat_lt byte 127) && not (byte == 58)

-- the text after the bytes at its front that pass a test
abbrev pub after_all : (ℕ → Bool) → List ℕ → List ℕ
after_all test text = drop (prefix_len test text) text

abbrev pub begins_with : (ℕ → Bool) → List ℕ → Bool
begins_with test [] = false
begins_with test (byte ∷ text) = test byte

abbrev pub is_colon : ℕ → Bool
is_colon byte = byte == 58

-- whether a line begins with a name and a colon, with any blanks between, as in the older form of
-- RFC 5322 section 4.5
abbrev pub names_field : List ℕ → Bool
names_field line =
    begins_with is_name_byte line && begins_with is_colon (after_all is_blank_byte (after_all is_name_byte line))

-- a name and its colon must be within this number of bytes at the front of a line; Postfix cuts
-- longer lines into records of at most this size (`line_length_limit` of postconf(5)), and
-- bounce(8) judges a line by its first record
abbrev pub longest_field_name : ℕ
longest_field_name = 2048

-- whether a line of a header begins a field or continues one (RFC 5322 section 2.2.3)
abbrev pub is_header_line : List ℕ → Bool
is_header_line line = begins_with is_blank_byte line || names_field (take longest_field_name line)

-- the size in bytes, with line feeds, of the lines before the first one that isn't of a header; so
-- a header ends before an empty line, or before another line that isn't of a header
abbrev pub header_size : List (List ℕ) → ℕ
header_size [] = 0
header_size (line ∷ lines) = if is_header_line line then with_its_feed line lines + header_size lines else 0

abbrev pub message_header : List ℕ → List ℕ
message_header text = take (header_size (all_lines text)) text

-- ---- the Message-ID in a header

abbrev pub without_trailing_blanks : List ℕ → List ℕ
without_trailing_blanks text = take (length text - suffix_len is_blank_byte text) text

-- a line's text after `Message-ID:`, in letters of either case, without the blanks around it
abbrev pub message_id_of_line : List ℕ → Option (List ℕ)
message_id_of_line line =
    if str_eq_ignore_ascii_case (take 11 line) (codes "Message-ID:")
    then Some (without_trailing_blanks (after_all is_blank_byte (drop 11 line)))
    else None

-- the first such text of some lines
abbrev pub first_message_id : List (List ℕ) → Option (List ℕ)
first_message_id [] = None
first_message_id (line ∷ lines) = first_said (message_id_of_line line) (first_message_id lines)

-- the Message-ID of a text's header, of the first line that has one; a line that continues it doesn't count
abbrev pub message_id_of_text : List ℕ → Option (List ℕ)
message_id_of_text text = first_message_id (all_lines (message_header text))

-- ---- the header of a text of which only the front is known

-- the size of the front of a text that shows its header, if the header has at most `limit` bytes
abbrev pub front_size : ℕ → ℕ
front_size limit = limit + longest_field_name + 1

-- two headers are equal, or both have more than `limit` bytes
pub data AreSameUpTo (limit : ℕ) (header other : List ℕ) : Type 0 where
  same : header ≡ other → AreSameUpTo limit header other
  longer : limit < length header → limit < length other → AreSameUpTo limit header other
