-- The recipients so far, and those that are left.
use Rattle.std.proofs.Common.{length, map}
use Rattle.dsn_postfix_files.specs.QueueRecipients.{recipient_facts_in}
use Rattle.dsn_postfix_files.specs.QueueWalk.{first_place, steps_left}
use Rattle.dsn_postfix_notices.proofs.RequestLetterLemmas.{RecipientsSoFar}
use Rattle.dsn_postfix_notices.proofs.requests.request_letters.queued_recipients.Given as goal

abbrev pub invariant-loop-recipient : goal.invariant-loop-recipient
invariant-loop-recipient l = RecipientsSoFar (record { file = l.file; place = first_place l.file }) l.reader (map recipient_facts_in l.queued.items)

abbrev pub decreases-loop-recipient : goal.decreases-loop-recipient
decreases-loop-recipient l = steps_left (length l.reader.file) l.reader.place
