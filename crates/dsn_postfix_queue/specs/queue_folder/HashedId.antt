-- The text that names the folders of a message's file in a hashed queue, as Postfix's `mail_queue_dir` makes it: a
-- short queue id itself, or the microseconds of a long one.
use Rattle.std.specs.List.{after_last, position_or_len}
use Rattle.std.specs.Prelude.{ℕ, ◌+◌, ◌*◌, ◌-◌, ◌/◌, ◌%◌, nat_lt, Bool, List, [], ◌∷◌, ◌==◌, length, take, drop, get_or, codes, Option, Some, None, if◌then◌else◌}

-- ---- long queue ids

-- the digits of the numbers in a long id, without vowels
abbrev pub long_digits : List ℕ
long_digits = codes "0123456789BCDFGHJKLMNPQRSTVWXYZbcdfghjklmnpqrstvwxyz"

-- the bytes up to the last `z`, including it
abbrev pub before_inode : List ℕ → List ℕ
before_inode id = take (length id - length (after_last (λ byte. byte == 122) id)) id

-- a long id: six or more digits of seconds, four digits of microseconds and a `z` are before the inode
abbrev pub is_long : List ℕ → Bool
is_long id = nat_lt 10 (length (before_inode id))

abbrev pub microsecond_digits : List ℕ → List ℕ
microsecond_digits id = take 4 (drop (length (before_inode id) - 5) id)

abbrev pub long_digit : ℕ → Option ℕ
long_digit byte = if nat_lt (position_or_len (λ digit. digit == byte) long_digits) 52 then Some (position_or_len (λ digit. digit == byte) long_digits) else None

-- a number with one more digit in base 52, or `None` if the number or the digit is invalid
abbrev pub with_digit : Option ℕ → Option ℕ → Option ℕ
with_digit None digit = None
with_digit (Some number) None = None
with_digit (Some number) (Some digit) = Some (number * 52 + digit)

abbrev pub long_number : List ℕ → Option ℕ
long_number [] = None
long_number (first ∷ []) = None
long_number (first ∷ second ∷ []) = None
long_number (first ∷ second ∷ third ∷ []) = None
long_number (first ∷ second ∷ third ∷ fourth ∷ []) =
    with_digit (with_digit (with_digit (long_digit first) (long_digit second)) (long_digit third)) (long_digit fourth)
long_number (first ∷ second ∷ third ∷ fourth ∷ fifth ∷ more) = None

abbrev pub number_or_zero : Option ℕ → ℕ
number_or_zero None = 0
number_or_zero (Some number) = number

-- ---- hexadecimal

abbrev pub hexadecimal_digit : ℕ → ℕ
hexadecimal_digit digit = if nat_lt digit 10 then 48 + digit else 55 + digit

-- the last six hexadecimal digits of a number
abbrev pub six_digits : ℕ → List ℕ
six_digits number = hexadecimal_digit (number / 1048576 % 16) ∷ hexadecimal_digit (number / 65536 % 16)
    ∷ hexadecimal_digit (number / 4096 % 16) ∷ hexadecimal_digit (number / 256 % 16)
    ∷ hexadecimal_digit (number / 16 % 16) ∷ hexadecimal_digit (number % 16) ∷ []

-- five digits, or six if the number needs them
abbrev pub hexadecimal : ℕ → List ℕ
hexadecimal number = if nat_lt number 1048576 then drop 1 (six_digits number) else six_digits number

-- ---- folders

abbrev pub folders_text : List ℕ → List ℕ
folders_text id = if is_long id then hexadecimal (number_or_zero (long_number (microsecond_digits id))) else id

-- the name of the folder at a level: one byte of that text, or `_` after its end
abbrev pub folder_level : List ℕ → ℕ → ℕ
folder_level id level = get_or (folders_text id) level 95
