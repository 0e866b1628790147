-- The outcomes so far, with those of the rest, are all outcomes, and no outcome so far has a fault.
use Rattle.std.proofs.Common.{◌≡◌, ◌+◌, ◌++◌, length, map}
use Rattle.dsn_postfix_files.specs.LogRecord.{logged_fields_in}
use Rattle.dsn_postfix_notices.specs.letters.NoticeLetter.{first_fault_of_told}
use Rattle.dsn_postfix_notices.specs.letters.ToldOutcome.{outcome_told}
use Rattle.dsn_postfix_notices.proofs.letters.notice_letter.outcomes_told.Given as goal

abbrev pub invariant-loop-rest : goal.invariant-loop-rest
invariant-loop-rest l =
    (l.chain ++ map (outcome_told l.service l.until) (map logged_fields_in l.rest) ≡ map (outcome_told l.service l.until) (map logged_fields_in l.found))
    × ((first_fault_of_told l.service l.until (map logged_fields_in l.rest) ≡ first_fault_of_told l.service l.until (map logged_fields_in l.found))
    × (length l.chain + length l.rest ≡ length l.found))

abbrev pub decreases-loop-rest : goal.decreases-loop-rest
decreases-loop-rest l = length l.rest
