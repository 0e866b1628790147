-- Optional values and texts; an empty text means a missing one.
use Rattle.std.specs.Prelude.{ℕ, Bool, true, List, [], ◌∷◌, Option, Some, None}
use Rattle.std.specs.Option.{option_map_or}

-- whether a value is missing or passes the test
abbrev pub is_none_or : {A : Type 0} → (A → Bool) → Option A → Bool
is_none_or test value = option_map_or test value true

-- the text, or None if it is empty
abbrev pub unless_empty : List ℕ → Option (List ℕ)
unless_empty [] = None
unless_empty (byte ∷ rest) = Some (byte ∷ rest)
