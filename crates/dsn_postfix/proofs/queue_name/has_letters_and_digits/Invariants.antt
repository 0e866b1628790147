-- The result for the bytes so far.
use Rattle.std.proofs.Common.{◌≡◌, take}
use Rattle.std.specs.List.{list_all}
use Rattle.dsn_text.specs.Text.{is_letter_or_digit}
use Rattle.dsn_postfix.proofs.queue_name.has_letters_and_digits.Given as goal

abbrev pub invariant-loop-byte : goal.invariant-loop-byte
invariant-loop-byte l = l.all ≡ list_all is_letter_or_digit (take l.byte-index l.bytes)
