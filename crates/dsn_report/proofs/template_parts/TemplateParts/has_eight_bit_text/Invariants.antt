-- No line so far has a byte above 127.
use Rattle.std.proofs.Common.{◌≡◌}
use Rattle.std.specs.List.{list_any}
use Rattle.std.specs.Str.Lines.{lines}
use Rattle.dsn_report.specs.LegalLines.{has_high_byte}
use Rattle.dsn_report.specs.inner.NoticeLines.{lines_left}
use Rattle.dsn_report.proofs.template_parts.TemplateParts.has_eight_bit_text.Given as goal

abbrev pub invariant-loop-line : goal.invariant-loop-line
invariant-loop-line l = list_any has_high_byte (lines l.self.text.now) ≡ list_any has_high_byte (lines_left l.line-iterator)
