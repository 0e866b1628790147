-- Writing the remaining lines completes the text.
use Rattle.std.proofs.Common.{◌≡◌, true}
use Rattle.std.specs.List.{list_all}
use Rattle.dsn_text.specs.Extension.{lines_ended_by_lf, is_extension_line}
use Rattle.dsn_report.specs.inner.NoticeLines.{extensions_left}
use Rattle.dsn_report.specs.inner.LineWriter.{Wrote}
use Rattle.dsn_report.proofs.notice_lines.write_extensions.Given as goal

abbrev pub invariant-loop-line : goal.invariant-loop-line
invariant-loop-line g l = record {
  fields : list_all is_extension_line (extensions_left l.line-iterator) ≡ true;
  rest : (end : _)
      → Wrote g.W.Drain l.lines end (extensions_left l.line-iterator)
      → Wrote g.W.Drain l.initial.lines end (lines_ended_by_lf l.extensions);
}
