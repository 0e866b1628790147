-- The table has the numbers that the lines so far rule out.
use Rattle.std.proofs.Common.{◌≡◌, length}
use Rattle.dsn_report.proofs.BoundaryLemmas.{IsMarked}
use Rattle.dsn_report.specs.Boundary.{boundary_front}
use Rattle.dsn_report.specs.inner.NoticeLines.{lines_left, lines_shown}
use Rattle.dsn_report.proofs.ruled_out_boundaries.numbers_ruled_out.Given as goal

abbrev pub invariant-loop-line : goal.invariant-loop-line
invariant-loop-line l = record {
  table : length l.ruled_out ≡ 2980;
  marked : IsMarked (boundary_front l.letter) l.returned.whole (lines_shown l.returned.whole l.returned.bytes.now) l.ruled_out (lines_left l.line-iterator);
}
