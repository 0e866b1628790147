-- How texts and moments are represented in memory.
use Rattle.std.specs.Prelude.{ℕ, if◌then◌else◌, Option, Some, None, pos, ◌≡◌, Bool, List, ◌++◌, ◌-◌, length, take, replicate}
use Rattle.dsn_text.specs.Stamp.{is_moment, CivilDate}
use Rattle.dsn_text.specs.Text.{is_digit, is_letter_or_digit, is_printable, is_visible, is_address_byte, is_atom_byte}
use Rattle.dsn_text.specs.declared.text.Alphabet.TheVariants.{Digits, LettersAndDigits, AddressBytes, AtomBytes, Visible, Printable}
use Rattle.dsn_text.specs.declared.text.Alphabet.{Alphabet}
use Rattle.jiff_core.specs.declared.civil.date.Date.{Date}

-- the moment of a number; a number after the last moment means a missing moment
abbrev pub moment_within : ℕ → Option ℕ
moment_within number = if is_moment number then Some number else None

-- the date of jiff is this day
abbrev pub IsCivil : CivilDate → Date → Type 0
IsCivil civil date =
    (date.year ≡ pos civil.year) × (date.month ≡ civil.month) × (date.day ≡ civil.day)

-- the length limit of a status code, in bytes: a class, two dots and two numbers of three digits
abbrev pub longest_status : ℕ
longest_status = 9

-- whether an alphabet allows the byte
abbrev pub allows : Alphabet → ℕ → Bool
allows Digits = is_digit
allows LettersAndDigits = is_letter_or_digit
allows AddressBytes = is_address_byte
allows AtomBytes = is_atom_byte
allows Visible = is_visible
allows Printable = is_printable

-- a text stored in place: a buffer of `room` bytes begins with a text of `len` bytes, and its other
-- bytes are zero
pub record IsPadded (room : ℕ) (buffer : List ℕ) (len : ℕ) : Type 0 where
  pub counted : length (take len buffer) ≡ len
  pub padded : take len buffer ++ replicate (room - len) 0 ≡ buffer
