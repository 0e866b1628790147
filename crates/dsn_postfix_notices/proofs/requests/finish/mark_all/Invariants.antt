-- The places so far were marked.
use Rattle.std.proofs.Common.{drop}
use Rattle.dsn_postfix_notices.proofs.DeedLemmas.{MarkedSoFar}
use Rattle.dsn_postfix_notices.proofs.requests.finish.mark_all.Given as goal

abbrev pub invariant-loop-place : goal.invariant-loop-place
invariant-loop-place g l = MarkedSoFar g.M.MailSystem.deeds l.fn.system l.system l.notice l.places (drop l.place-index l.places)
