use Rattle.std.proofs.Common.{refl, rules}
use Rattle.dsn_postfix.specs.RequestReading.{append_request_at}
use Rattle.dsn_postfix.proofs.request_reading.append_of.Goals as goal

-- each attribute is read after those before it
pub returns-in_err-queue_id-clause-refused : goal.returns-in_err-queue_id-clause-refused
unfolding append_request_at
returns-in_err-queue_id-clause-refused c =
    rw (c.in_ok-flags.ensures.read, c.in_err-queue_id.ensures.refused) (search rules)

pub returns-in_err-recipient-clause-refused : goal.returns-in_err-recipient-clause-refused
unfolding append_request_at
returns-in_err-recipient-clause-refused c =
    rw (c.in_ok-flags.ensures.read, c.in_ok-queue_id.ensures.read, c.in_err-recipient.ensures.refused) (search rules)

pub returns-in_err-report-clause-refused : goal.returns-in_err-report-clause-refused
unfolding append_request_at
returns-in_err-report-clause-refused c =
    rw (c.in_ok-flags.ensures.read, c.in_ok-queue_id.ensures.read, c.in_ok-recipient.ensures.read, c.in_err-report.ensures.refused) (search rules)

pub returns-clause-read : goal.returns-clause-read
unfolding append_request_at
returns-clause-read c =
    rw (c.in_ok-flags.ensures.read, c.in_ok-queue_id.ensures.read, c.in_ok-recipient.ensures.read, c.in_ok-report.ensures.read) refl
