-- The text, or the fault.
use Rattle.std.proofs.Common.{refl}
use Rattle.noticed_dsn.specs.Calls.{gives, refuses}
use Rattle.noticed_dsn.proofs.noticed_dsn_mail_data.Goals as goal

pub returns-in-Ok : goal.returns-in-Ok
returns-in-Ok c =
    rw (c.give.ensures.length, c.give.ensures.none)
    (gives c.as_slice.result.now (rw c.as_slice.ensures.value c.in-Ok.ensures.text) c.give.ensures.written)

pub returns-in-Err : goal.returns-in-Err
returns-in-Err c = rw (c.refuse.ensures.none, c.refuse.ensures.told) (refuses c.in-Err.code c.in-Err.ensures.refused refl)
