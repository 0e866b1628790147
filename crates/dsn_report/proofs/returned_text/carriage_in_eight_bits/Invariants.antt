-- The lines so far can be in an 8bit mail unchanged, and it is known whether one of them has a byte above 127.
use Rattle.std.proofs.Common.{◌≡◌, ◌||◌}
use Rattle.std.specs.List.{list_all, list_any}
use Rattle.std.specs.Str.Lines.{lines}
use Rattle.dsn_report.specs.LegalLines.{has_high_byte, is_eight_bit_line}
use Rattle.dsn_report.specs.inner.NoticeLines.{lines_left}
use Rattle.dsn_report.proofs.returned_text.carriage_in_eight_bits.Given as goal

abbrev pub invariant-loop-line : goal.invariant-loop-line
invariant-loop-line l = record {
  legal : list_all is_eight_bit_line (lines l.text) ≡ list_all is_eight_bit_line (lines_left l.line-iterator);
  high : list_any has_high_byte (lines l.text) ≡ (l.eight_bit || list_any has_high_byte (lines_left l.line-iterator));
}
