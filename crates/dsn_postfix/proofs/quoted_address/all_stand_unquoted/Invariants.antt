-- The bytes so far need no quotes.
use Rattle.std.proofs.Common.{◌≡◌, length}
use Rattle.std.specs.List.{list_all}
use Rattle.dsn_postfix.specs.QuotedAddress.{stands_unquoted}
use Rattle.dsn_postfix.proofs.quoted_address.all_stand_unquoted.Given as goal

abbrev pub invariant-loop-rest : goal.invariant-loop-rest
invariant-loop-rest l = list_all stands_unquoted l.rest ≡ list_all stands_unquoted l.text

abbrev pub decreases-loop-rest : goal.decreases-loop-rest
decreases-loop-rest l = length l.rest
