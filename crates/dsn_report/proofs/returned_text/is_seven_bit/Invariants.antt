-- The lines so far can be in a mail unchanged.
use Rattle.std.proofs.Common.{◌≡◌}
use Rattle.std.specs.List.{list_all}
use Rattle.std.specs.Str.Lines.{lines}
use Rattle.dsn_report.specs.LegalLines.{is_mail_line}
use Rattle.dsn_report.specs.inner.NoticeLines.{lines_left}
use Rattle.dsn_report.proofs.returned_text.is_seven_bit.Given as goal

abbrev pub invariant-loop-line : goal.invariant-loop-line
invariant-loop-line l = list_all is_mail_line (lines l.text) ≡ list_all is_mail_line (lines_left l.line-iterator)
