use Rattle.std.proofs.Common.{◌≡◌, ◌++◌, length}
use Rattle.std.specs.Prelude.{reverse}
use Rattle.dsn_outcome.proofs.letter_cells.LetterCells.take_reversed.Given as goal

abbrev pub invariant-loop-letter : goal.invariant-loop-letter
invariant-loop-letter l = reverse l.other ++ l.self ≡ reverse l.initial.other ++ l.initial.self

abbrev pub decreases-loop-letter : goal.decreases-loop-letter
decreases-loop-letter l = length l.other
