use Rattle.std.proofs.Common.{refl, rules}
use Rattle.dsn_postfix.specs.RequestReading.{recipient_at}
use Rattle.dsn_postfix.proofs.request_reading.recipient_of.Goals as goal

-- each attribute is read after those before it
pub returns-in_err-address-clause-refused : goal.returns-in_err-address-clause-refused
unfolding recipient_at
returns-in_err-address-clause-refused c =
    rw (c.in_ok-original.ensures.read, c.in_err-address.ensures.refused) (search rules)

pub returns-in_err-offset-clause-refused : goal.returns-in_err-offset-clause-refused
unfolding recipient_at
returns-in_err-offset-clause-refused c =
    rw (c.in_ok-original.ensures.read, c.in_ok-address.ensures.read, c.in_err-offset.ensures.refused) (search rules)

pub returns-in_err-dsn_original-clause-refused : goal.returns-in_err-dsn_original-clause-refused
unfolding recipient_at
returns-in_err-dsn_original-clause-refused c =
    rw (c.in_ok-original.ensures.read, c.in_ok-address.ensures.read, c.in_ok-offset.ensures.read, c.in_err-dsn_original.ensures.refused) (search rules)

pub returns-in_err-notify-clause-refused : goal.returns-in_err-notify-clause-refused
unfolding recipient_at
returns-in_err-notify-clause-refused c =
    rw (c.in_ok-original.ensures.read, c.in_ok-address.ensures.read, c.in_ok-offset.ensures.read, c.in_ok-dsn_original.ensures.read, c.in_err-notify.ensures.refused) (search rules)

pub returns-clause-read : goal.returns-clause-read
unfolding recipient_at
returns-clause-read c =
    rw (c.in_ok-original.ensures.read, c.in_ok-address.ensures.read, c.in_ok-offset.ensures.read, c.in_ok-dsn_original.ensures.read, c.in_ok-notify.ensures.read) refl
