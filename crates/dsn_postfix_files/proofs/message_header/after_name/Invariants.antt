-- The bytes so far belong to the name.
use Rattle.std.proofs.Common.{◌≡◌, length}
use Rattle.dsn_postfix_files.specs.MessageHeader.{after_all, is_name_byte}
use Rattle.dsn_postfix_files.proofs.message_header.after_name.Given as goal

abbrev pub invariant-loop-rest : goal.invariant-loop-rest
invariant-loop-rest l = after_all is_name_byte l.rest ≡ after_all is_name_byte l.text

abbrev pub decreases-loop-rest : goal.decreases-loop-rest
decreases-loop-rest l = length l.rest
