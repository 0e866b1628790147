use Rattle.std.proofs.Common.{take}
use Rattle.std.specs.List.{flat_map}
use Rattle.dsn_device.specs.UntilFailure.{WritesUntilFailure}
use Rattle.dsn_notes.specs.Notes.{open_line}
use Rattle.dsn_notes.proofs.last_lines.write_open_lines.Given as goal

abbrev pub invariant-loop-line : goal.invariant-loop-line
invariant-loop-line g l =
    WritesUntilFailure g.N.Drain l.initial.writing.failed l.writing.failed l.initial.notes l.notes (flat_map open_line (take l.line-index l.lines))
