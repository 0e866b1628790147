-- The result so far is that for the bytes so far.
use Rattle.std.proofs.Common.{◌≡◌, take}
use Rattle.std.specs.List.{list_all}
use Rattle.dsn_report.specs.LegalLines.{is_eight_bit_byte}
use Rattle.dsn_report.proofs.returned_text.has_eight_bit_bytes.Given as goal

abbrev pub invariant-loop-byte : goal.invariant-loop-byte
invariant-loop-byte l = l.all ≡ list_all is_eight_bit_byte (take l.byte-index l.line)
