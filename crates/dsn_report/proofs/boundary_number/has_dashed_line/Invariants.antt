-- No line so far begins with two dashes.
use Rattle.std.proofs.Common.{◌≡◌}
use Rattle.std.specs.List.{list_any}
use Rattle.dsn_report.specs.inner.Boundary.{is_dashed}
use Rattle.dsn_report.specs.inner.NoticeLines.{lines_left, taken_lines}
use Rattle.dsn_report.proofs.boundary_number.has_dashed_line.Given as goal

abbrev pub invariant-loop-line : goal.invariant-loop-line
invariant-loop-line l =
    list_any is_dashed (taken_lines l.returned.whole l.returned.bytes.now) ≡ list_any is_dashed (lines_left l.line-iterator)
