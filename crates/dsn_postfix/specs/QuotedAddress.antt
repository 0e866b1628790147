-- Which addresses a log file can have as they are: those whose local part needs no quotes.
use Rattle.std.specs.Prelude.{ℕ, ◌-◌, Bool, not, ◌&&◌, ◌||◌, List, [], ◌∷◌, length, take, ◌==◌, nat_lt, if◌then◌else◌}
use Rattle.std.specs.List.{list_all, suffix_len}

abbrev pub is_no_at : ℕ → Bool
is_no_at byte = not (byte == 64)

-- the local part of an address: the part before its last `@`, or the whole if it has no `@`
abbrev pub local_part : List ℕ → List ℕ
local_part address =
    if suffix_len is_no_at address == length address then address
    else take (length address - suffix_len is_no_at address - 1) address

-- the bytes that no atom of an address has: `(`, `)`, `<`, `>`, `@`, `,`, `;`, `:`, `\`, `"`, `[`, `]`
abbrev pub is_special : ℕ → Bool
is_special byte =
    ((byte == 40 || byte == 41) || (byte == 60 || byte == 62))
    || (((byte == 64 || byte == 44) || (byte == 59 || byte == 58))
    || ((byte == 92 || byte == 34) || (byte == 91 || byte == 93)))

-- a byte of an atom: no space, no control character, nothing special; bytes above 127 are allowed
abbrev pub stands_unquoted : ℕ → Bool
stands_unquoted byte = (nat_lt 32 byte && not (byte == 127)) && not (is_special byte)

-- no two dots are adjacent in a text with `before` in front and a dot at the end
abbrev pub no_dots_meet : ℕ → List ℕ → Bool
no_dots_meet before [] = not (before == 46)
no_dots_meet before (byte ∷ text) = not (before == 46 && byte == 46) && no_dots_meet byte text

-- atoms with a dot between each two: with a dot before and after the text, no two dots are adjacent
abbrev pub is_dot_string : List ℕ → Bool
is_dot_string text = list_all stands_unquoted text && no_dots_meet 46 text

unfoldable pub needs_no_quotes : List ℕ → Bool
needs_no_quotes address = is_dot_string (local_part address)
