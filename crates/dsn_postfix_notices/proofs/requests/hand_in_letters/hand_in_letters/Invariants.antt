-- The letters so far were accepted.
use Rattle.std.proofs.Common.{drop}
use Rattle.dsn_postfix_notices.proofs.DeedLemmas.{AcceptedSoFar}
use Rattle.dsn_postfix_notices.proofs.requests.hand_in_letters.hand_in_letters.Given as goal

abbrev pub invariant-loop-letter : goal.invariant-loop-letter
invariant-loop-letter g l = AcceptedSoFar g.M.MailSystem.deeds l.fn.system l.system l.heading l.letters (drop l.letter-index l.letters) l.is_first
