-- The lines so far can be in an 8bit mail unchanged.
use Rattle.std.proofs.Common.{◌≡◌}
use Rattle.std.specs.List.{list_all}
use Rattle.std.specs.Str.Lines.{lines}
use Rattle.dsn_report.specs.LegalLines.{is_eight_bit_line}
use Rattle.dsn_report.specs.inner.NoticeLines.{lines_left}
use Rattle.dsn_report.proofs.template_parts.are_eight_bit_lines.Given as goal

abbrev pub invariant-loop-line : goal.invariant-loop-line
invariant-loop-line l = list_all is_eight_bit_line (lines l.text) ≡ list_all is_eight_bit_line (lines_left l.line-iterator)
