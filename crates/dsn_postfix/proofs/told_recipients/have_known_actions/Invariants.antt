-- Each of the records so far has a known action.
use Rattle.std.proofs.Common.{◌≡◌, length, map}
use Rattle.std.specs.List.{list_all}
use Rattle.dsn_postfix_files.specs.LogRecord.{logged_fields_in}
use Rattle.dsn_postfix.specs.NoticePlan.{has_known_action}
use Rattle.dsn_postfix.proofs.told_recipients.have_known_actions.Given as goal

abbrev pub invariant-loop-rest : goal.invariant-loop-rest
invariant-loop-rest l = list_all has_known_action (map logged_fields_in l.rest) ≡ list_all has_known_action (map logged_fields_in l.told)

abbrev pub decreases-loop-rest : goal.decreases-loop-rest
decreases-loop-rest l = length l.rest
