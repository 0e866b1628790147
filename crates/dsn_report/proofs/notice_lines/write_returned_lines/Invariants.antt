-- Writing the remaining lines completes the text.
use Rattle.std.proofs.Common.{◌≡◌, map, length}
use Rattle.dsn_report.specs.inner.NoticeLines.{line_shown, lines_left, lines_shown}
use Rattle.dsn_report.specs.inner.LineWriter.{Wrote}
use Rattle.dsn_report.proofs.notice_lines.write_returned_lines.Given as goal

abbrev pub invariant-loop-line : goal.invariant-loop-line
invariant-loop-line g l = record {
  room : length l.shown ≡ 1001;
  rest : (end : _)
      → Wrote g.W.Drain l.lines end (map (line_shown l.returned.whole) (lines_left l.line-iterator))
      → Wrote g.W.Drain l.initial.lines end (lines_shown l.returned.whole l.returned.bytes.now);
}
