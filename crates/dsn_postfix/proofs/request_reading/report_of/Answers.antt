use Rattle.std.proofs.Common.{refl, rules}
use Rattle.dsn_postfix.specs.RequestReading.{report_at}
use Rattle.dsn_postfix.proofs.request_reading.report_of.Goals as goal

-- each attribute is read after those before it
pub returns-in_err-diagnostic_type-clause-refused : goal.returns-in_err-diagnostic_type-clause-refused
unfolding report_at
returns-in_err-diagnostic_type-clause-refused c =
    rw (c.in_ok-status.ensures.read, c.in_err-diagnostic_type.ensures.refused) (search rules)

pub returns-in_err-diagnostic-clause-refused : goal.returns-in_err-diagnostic-clause-refused
unfolding report_at
returns-in_err-diagnostic-clause-refused c =
    rw (c.in_ok-status.ensures.read, c.in_ok-diagnostic_type.ensures.read, c.in_err-diagnostic.ensures.refused) (search rules)

pub returns-in_err-mta_type-clause-refused : goal.returns-in_err-mta_type-clause-refused
unfolding report_at
returns-in_err-mta_type-clause-refused c =
    rw (c.in_ok-status.ensures.read, c.in_ok-diagnostic_type.ensures.read, c.in_ok-diagnostic.ensures.read, c.in_err-mta_type.ensures.refused) (search rules)

pub returns-in_err-mta-clause-refused : goal.returns-in_err-mta-clause-refused
unfolding report_at
returns-in_err-mta-clause-refused c =
    rw (c.in_ok-status.ensures.read, c.in_ok-diagnostic_type.ensures.read, c.in_ok-diagnostic.ensures.read, c.in_ok-mta_type.ensures.read, c.in_err-mta.ensures.refused) (search rules)

pub returns-in_err-action-clause-refused : goal.returns-in_err-action-clause-refused
unfolding report_at
returns-in_err-action-clause-refused c =
    rw (c.in_ok-status.ensures.read, c.in_ok-diagnostic_type.ensures.read, c.in_ok-diagnostic.ensures.read, c.in_ok-mta_type.ensures.read, c.in_ok-mta.ensures.read, c.in_err-action.ensures.refused) (search rules)

pub returns-in_err-reason-clause-refused : goal.returns-in_err-reason-clause-refused
unfolding report_at
returns-in_err-reason-clause-refused c =
    rw (c.in_ok-status.ensures.read, c.in_ok-diagnostic_type.ensures.read, c.in_ok-diagnostic.ensures.read, c.in_ok-mta_type.ensures.read, c.in_ok-mta.ensures.read, c.in_ok-action.ensures.read, c.in_err-reason.ensures.refused) (search rules)

pub returns-clause-read : goal.returns-clause-read
unfolding report_at
returns-clause-read c =
    rw (c.in_ok-status.ensures.read, c.in_ok-diagnostic_type.ensures.read, c.in_ok-diagnostic.ensures.read, c.in_ok-mta_type.ensures.read, c.in_ok-mta.ensures.read, c.in_ok-action.ensures.read, c.in_ok-reason.ensures.read) refl
