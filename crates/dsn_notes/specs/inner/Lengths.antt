-- The length of a reply in a line, and its last possible place.
use Rattle.std.specs.Prelude.{ℕ}

-- the maximal number of bytes before a reply in its line: 20 digits of a position, and a space
abbrev pub longest_place : ℕ
longest_place = 21

-- the maximal number of bytes of a reply before its number
abbrev pub longest_counted : ℕ
longest_counted = 10

-- the maximal number of bytes of a reply in words: those before its number, and 20 digits
abbrev pub longest_reply : ℕ
longest_reply = 30
