-- Closings: whether one is of a key.
use Rattle.std.specs.Prelude.{Bool, false, Option}
use Rattle.std.specs.Option.{option_map_or}
use Rattle.dsn_text.specs.Key.{same_key}
use Rattle.dsn_text.specs.declared.key.Key.{Key}

-- whether a closing is of this key, which wasn't released
abbrev pub has_key : Key → Option Key → Bool
has_key key closing = option_map_or (same_key key) closing false
