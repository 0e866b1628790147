-- The list of the logs that are open at the end of a run, as its notes name them.
use Rattle.std.specs.Prelude.{List, Option, MatchOption, IsPermutation}
use Rattle.std.specs.List.Sorted.{IsSortedByKey}
use Rattle.dsn_book.specs.OpenLine.{open_lines_after}
use Rattle.dsn_book.specs.declared.open_line.OpenLine.{OpenLine}
use Rattle.dsn_outcome.specs.History.{Exchange}
use Rattle.dsn_text.specs.Key.{key_cmp}

-- the lines of the logs that are open after a history, in key order. `None` means that there was no memory for the
-- list, and fits each history
abbrev pub AreOpenLines : List Exchange → Option (List OpenLine) → Type 0
AreOpenLines history logs =
    MatchOption logs (Unit {0})
    (λ lines. IsPermutation (open_lines_after history) lines
    × IsSortedByKey (λ (line : OpenLine). line.key) key_cmp lines)
