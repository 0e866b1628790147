-- The return path, or the fault.
use Rattle.std.proofs.Common.{◌≡◌, refl}
use Rattle.dsn_report.specs.Notice.{return_path_of}
use Rattle.noticed_dsn.specs.Calls.{gives, refuses}
use Rattle.noticed_dsn.proofs.noticed_dsn_return_path.Goals as goal

pub returns-in-Ok : goal.returns-in-Ok
returns-in-Ok c =
    let text_is : c.bytes.result.now ≡ return_path_of c.in-Ok.letter = rw c.return_path.ensures c.bytes.ensures.same in
    rw (c.give.ensures.length, c.give.ensures.none)
    (gives c.bytes.result.now (record { letter = c.in-Ok.letter; read = c.in-Ok.ensures.letter; text_is = text_is }) c.give.ensures.written)

pub returns-in-Err : goal.returns-in-Err
returns-in-Err c = rw (c.refuse.ensures.none, c.refuse.ensures.told) (refuses c.in-Err.code c.in-Err.ensures.refused refl)
