-- The recipients are those of the remaining records, with the facts so far.
use Rattle.std.proofs.Common.{◌≤◌, List, length}
use Rattle.dsn_postfix_files.specs.QueueListing.{QueueEnding}
use Rattle.dsn_postfix_files.specs.QueueRecipients.{RecipientFacts, RecipientsLeft, nothing_before}
use Rattle.dsn_postfix_files.specs.QueueWalk.{steps_left}
use Rattle.dsn_postfix_files.proofs.queued_recipient.next_recipient.Given as goal

abbrev pub invariant-loop-found : goal.invariant-loop-found
invariant-loop-found l = record {
  within : length l.here ≤ length l.file;
  fewer : steps_left (length l.file) (record { rest = l.here; jumps = l.left }) ≤ steps_left (length l.file) (record { rest = l.rest; jumps = l.jumps });
  left : (recipients : List RecipientFacts) (ending : QueueEnding) → RecipientsLeft (record { file = l.file; place = record { rest = l.rest; jumps = l.jumps } }) nothing_before recipients ending → RecipientsLeft (record { file = l.file; place = record { rest = l.here; jumps = l.left } }) (record { original = l.original; dsn_original = l.dsn_original; notify_flags = l.notify_flags }) recipients ending;
}

abbrev pub decreases-loop-found : goal.decreases-loop-found
decreases-loop-found l = steps_left (length l.file) (record { rest = l.here; jumps = l.left })
