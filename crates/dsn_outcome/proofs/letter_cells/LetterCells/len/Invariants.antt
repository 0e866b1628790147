use Rattle.std.proofs.Common.{◌≡◌, ◌+◌, ◌≤◌, length, min}
use Rattle.dsn_outcome.specs.inner.LetterCell.{letters_linked}
use Rattle.dsn_outcome.specs.Letter.{most_counted}
use Rattle.dsn_outcome.proofs.letter_cells.LetterCells.len.Given as goal

abbrev pub invariant-loop-link : goal.invariant-loop-link
invariant-loop-link l =
    (l.count ≤ most_counted) × (min (l.count + length (letters_linked l.link)) most_counted ≡ min (length l.self) most_counted)
