-- The letters so far, and the notices that are left.
use Rattle.std.proofs.Common.{length, map}
use Rattle.dsn_postfix_notices.specs.letters.ReportedMessage.{message_said_in}
use Rattle.dsn_postfix_notices.proofs.RequestLetterLemmas.{LettersSoFar}
use Rattle.dsn_postfix_notices.proofs.requests.request_letters.letters_of.Given as goal

abbrev pub invariant-loop-rest : goal.invariant-loop-rest
invariant-loop-rest l = LettersSoFar (message_said_in l.message) l.moment l.first_serial l.serial l.notices l.rest l.letters.items

abbrev pub decreases-loop-rest : goal.decreases-loop-rest
decreases-loop-rest l = length l.rest
