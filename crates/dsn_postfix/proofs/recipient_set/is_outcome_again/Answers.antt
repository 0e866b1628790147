use Rattle.std.proofs.Common.{◌≡◌, ◌∙◌, true, sym, arith}
use Rattle.std.specs.Prelude.{nat_lt}
use Rattle.std.specs.BTreeSet as sorted
use Rattle.dsn_postfix_files.specs.LogRecord.{logged_fields_in}
use Rattle.dsn_postfix.specs.inner.RecipientSet.{outcome_cmp}
use Rattle.dsn_postfix.proofs.RecipientSetLemmas.{no-place, one_outcome_more, twice_not}
use Rattle.dsn_postfix.proofs.recipient_set.is_outcome_again.Goals as goal

pub returns-then-found-eq0-clause-again : goal.returns-then-found-eq0-clause-again
returns-then-found-eq0-clause-again c = λ later has. sym (no-place (logged_fields_in c.args.found.now) later (grind (arith, c.if-found-eq0.true)))

pub returns-clause-again : goal.returns-clause-again
returns-clause-again c = λ later has.
    let found = c.args.found.now in
    twice_not c.in_ok-is_new.is_new (sorted.contains outcome_cmp c.args.seen.now (found.offset, found.recipient, found.status, found.action, found.reason)) c.in_ok-is_new.ensures.added
    ∙ has (found.offset, found.recipient, found.status, found.action, found.reason)

pub returns-clause-seen : goal.returns-clause-seen
returns-clause-seen c = λ later has.
    let some : nat_lt 0 c.args.found.now.offset ≡ true = grind (arith, c.if-found-eq0.false) in
    one_outcome_more c.args.found.now later c.args.seen.now c.insert.new.self some has c.in_ok-is_new.ensures.updates.0
