-- The length of a key in a line, and its last possible place.
use Rattle.std.specs.Prelude.{ℕ}

-- the maximal number of bytes before a key in its line
abbrev pub longest_key_start : ℕ
longest_key_start = 10

-- the maximal number of bytes of a key in words: a letter, a space, and a queue id of 32
abbrev pub longest_key : ℕ
longest_key = 34
