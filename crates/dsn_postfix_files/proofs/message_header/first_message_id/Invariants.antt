-- The lines so far have no Message-ID.
use Rattle.std.proofs.Common.{◌≡◌, length}
use Rattle.dsn_postfix_files.specs.LogLine.{all_lines}
use Rattle.dsn_postfix_files.specs.MessageHeader.{first_message_id}
use Rattle.dsn_postfix_files.proofs.message_header.first_message_id.Given as goal

abbrev pub invariant-loop-line : goal.invariant-loop-line
invariant-loop-line l = first_message_id (all_lines l.rest) ≡ first_message_id (all_lines l.text)

abbrev pub decreases-loop-line : goal.decreases-loop-line
decreases-loop-line l = length l.rest
