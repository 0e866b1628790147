-- No two dots so far are adjacent.
use Rattle.std.proofs.Common.{◌≡◌, length}
use Rattle.dsn_postfix.specs.QuotedAddress.{no_dots_meet}
use Rattle.dsn_postfix.proofs.quoted_address.no_dots_meet.Given as goal

abbrev pub invariant-loop-rest : goal.invariant-loop-rest
invariant-loop-rest l = no_dots_meet l.before l.rest ≡ no_dots_meet 46 l.text

abbrev pub decreases-loop-rest : goal.decreases-loop-rest
decreases-loop-rest l = length l.rest
