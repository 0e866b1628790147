-- No line so far could be a delimiter.
use Rattle.std.proofs.Common.{◌≡◌}
use Rattle.std.specs.List.{list_any}
use Rattle.std.specs.Str.Lines.{lines}
use Rattle.dsn_report.specs.Template.{is_like_delimiter}
use Rattle.dsn_report.specs.inner.NoticeLines.{lines_left}
use Rattle.dsn_report.proofs.template_parts.has_like_delimiter.Given as goal

abbrev pub invariant-loop-line : goal.invariant-loop-line
invariant-loop-line l = list_any is_like_delimiter (lines l.text) ≡ list_any is_like_delimiter (lines_left l.line-iterator)
