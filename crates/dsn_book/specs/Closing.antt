-- Closings: the keys that were closed and not released, in the order of their closings.
use Rattle.std.specs.Prelude.{List, Option}
use Rattle.std.specs.List.{filter_map}
use Rattle.dsn_text.specs.declared.key.Key.{Key}

-- the keys of closings; a closing whose key was released has none
abbrev pub keys_closed : List (Option Key) → List Key
keys_closed closings = filter_map (λ closing. closing) closings
