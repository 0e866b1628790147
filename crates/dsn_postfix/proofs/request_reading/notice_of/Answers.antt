use Rattle.std.proofs.Common.{refl, rules}
use Rattle.dsn_postfix.specs.RequestReading.{notice_request_at}
use Rattle.dsn_postfix.proofs.request_reading.notice_of.Goals as goal

-- each attribute is read after those before it
pub returns-in_err-queue_name-clause-refused : goal.returns-in_err-queue_name-clause-refused
unfolding notice_request_at
returns-in_err-queue_name-clause-refused c =
    rw (c.in_ok-flags.ensures.read, c.in_err-queue_name.ensures.refused) (search rules)

pub returns-in_err-queue_id-clause-refused : goal.returns-in_err-queue_id-clause-refused
unfolding notice_request_at
returns-in_err-queue_id-clause-refused c =
    rw (c.in_ok-flags.ensures.read, c.in_ok-queue_name.ensures.read, c.in_err-queue_id.ensures.refused) (search rules)

pub returns-in_err-encoding-clause-refused : goal.returns-in_err-encoding-clause-refused
unfolding notice_request_at
returns-in_err-encoding-clause-refused c =
    rw (c.in_ok-flags.ensures.read, c.in_ok-queue_name.ensures.read, c.in_ok-queue_id.ensures.read, c.in_err-encoding.ensures.refused) (search rules)

pub returns-in_err-send_options-clause-refused : goal.returns-in_err-send_options-clause-refused
unfolding notice_request_at
returns-in_err-send_options-clause-refused c =
    rw (c.in_ok-flags.ensures.read, c.in_ok-queue_name.ensures.read, c.in_ok-queue_id.ensures.read, c.in_ok-encoding.ensures.read, ← c.is_sendopts_next-names_sendopts.ensures, ← c.send_options_name.ensures, c.in_err-send_options.ensures.refused) (search rules)

pub returns-in_err-sender-clause-refused : goal.returns-in_err-sender-clause-refused
unfolding notice_request_at
returns-in_err-sender-clause-refused c =
    rw (c.in_ok-flags.ensures.read, c.in_ok-queue_name.ensures.read, c.in_ok-queue_id.ensures.read, c.in_ok-encoding.ensures.read, ← c.is_sendopts_next-names_sendopts.ensures, ← c.send_options_name.ensures, c.in_ok-send_options.ensures.read, c.in_err-sender.ensures.refused) (search rules)

pub returns-in_err-envelope_id-clause-refused : goal.returns-in_err-envelope_id-clause-refused
unfolding notice_request_at
returns-in_err-envelope_id-clause-refused c =
    rw (c.in_ok-flags.ensures.read, c.in_ok-queue_name.ensures.read, c.in_ok-queue_id.ensures.read, c.in_ok-encoding.ensures.read, ← c.is_sendopts_next-names_sendopts.ensures, ← c.send_options_name.ensures, c.in_ok-send_options.ensures.read, c.in_ok-sender.ensures.read, c.in_err-envelope_id.ensures.refused) (search rules)

pub returns-in_err-returns-clause-refused : goal.returns-in_err-returns-clause-refused
unfolding notice_request_at
returns-in_err-returns-clause-refused c =
    rw (c.in_ok-flags.ensures.read, c.in_ok-queue_name.ensures.read, c.in_ok-queue_id.ensures.read, c.in_ok-encoding.ensures.read, ← c.is_sendopts_next-names_sendopts.ensures, ← c.send_options_name.ensures, c.in_ok-send_options.ensures.read, c.in_ok-sender.ensures.read, c.in_ok-envelope_id.ensures.read, c.in_err-returns.ensures.refused) (search rules)

pub returns-clause-read : goal.returns-clause-read
unfolding notice_request_at
returns-clause-read c =
    rw (c.in_ok-flags.ensures.read, c.in_ok-queue_name.ensures.read, c.in_ok-queue_id.ensures.read, c.in_ok-encoding.ensures.read, ← c.is_sendopts_next-names_sendopts.ensures, ← c.send_options_name.ensures, c.in_ok-send_options.ensures.read, c.in_ok-sender.ensures.read, c.in_ok-envelope_id.ensures.read, c.in_ok-returns.ensures.read) refl
