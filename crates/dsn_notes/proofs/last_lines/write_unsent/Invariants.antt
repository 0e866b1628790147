use Rattle.std.proofs.Common.{◌≡◌, ◌++◌, length}
use Rattle.dsn_device.specs.UntilFailure.{WritesUntilFailure}
use Rattle.dsn_notes.specs.Notes.{unsent_lines}
use Rattle.dsn_notes.proofs.last_lines.write_unsent.Given as goal

abbrev pub invariant-loop-letter : goal.invariant-loop-letter
invariant-loop-letter g l =
    (l.kept ++ l.rest ≡ l.fn.unsent) ×
    WritesUntilFailure g.N.Drain l.initial.writing.failed l.writing.failed l.initial.notes l.notes (unsent_lines l.kept)

abbrev pub decreases-loop-letter : goal.decreases-loop-letter
decreases-loop-letter g l = length l.rest
