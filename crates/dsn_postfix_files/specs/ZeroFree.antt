-- Texts without a zero byte.
use Rattle.std.specs.Prelude.{ℕ, ◌==◌, Bool, not, List, IsTrue}
use Rattle.std.specs.List.{list_all}

-- whether no byte of a text is zero
abbrev pub is_not_zero : ℕ → Bool
is_not_zero byte = not (byte == 0)

abbrev pub is_zero_free : List ℕ → Bool
is_zero_free = list_all is_not_zero

abbrev pub IsZeroFree : List ℕ → Type 0
IsZeroFree text = IsTrue (is_zero_free text)
