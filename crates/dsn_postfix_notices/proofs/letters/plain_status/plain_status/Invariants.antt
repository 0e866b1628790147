-- The output so far, with the result for the rest, is the whole result.
use Rattle.std.proofs.Common.{◌≡◌, ◌++◌, length}
use Rattle.dsn_postfix_notices.specs.letters.PlainStatus.{plain_status, without_zeros}
use Rattle.dsn_postfix_notices.proofs.letters.plain_status.plain_status.Given as goal

abbrev pub invariant-loop-rest : goal.invariant-loop-rest
invariant-loop-rest l = l.plain.items ++ without_zeros l.at_front l.rest ≡ plain_status l.status

abbrev pub decreases-loop-rest : goal.decreases-loop-rest
decreases-loop-rest l = length l.rest
