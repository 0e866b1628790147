-- Why there is no next request.
use Rattle.std.proofs.Common.{arith}
use Rattle.std.specs.Prelude.{Some}
use Rattle.std.specs.Io.KnownBytes.{Consumes}
use Rattle.dsn_frame.specs.bodies.FrameBody.{frame, IsFrameBody}
use Rattle.noticed_dsn.specs.Log.{cut, ended, refused}
use Rattle.noticed_dsn.proofs.next_request.read_request.Goals as goal

-- the frame can't be read
pub returns-in-Err-clause-refused : goal.returns-in-Err-clause-refused
returns-in-Err-clause-refused c =
    rw c.code.ensures (cut c.read_next.new.source.rest.now c.in-Err.fault (λ is. omega (arith, rw is at c.in-Err.ensures.count)) c.in-Err.ensures.refused)

-- the bytes end before it
pub returns-in_default-frame-clause-refused : goal.returns-in_default-frame-clause-refused
returns-in_default-frame-clause-refused c =
    let read = rw (← c.in_default-frame.ensures) at c.in_default.ensures.next in
    ended read.0

-- it is refused
pub returns-in-Err-next_request-clause-refused : goal.returns-in-Err-next_request-clause-refused
returns-in-Err-next_request-clause-refused c =
    let read : IsFrameBody c.body.result.now × Consumes (Some c.args.source.now.rest.now) (Some c.read_next.new.source.rest.now) (frame c.body.result.now) =
    rw c.body.ensures.same (rw (← c.in-Some.ensures) at c.in_default.ensures.next) in
    rw c.code-in-Err-next_request.ensures
    (refused c.read_next.new.source.rest.now c.body.result.now c.in-Err-next_request.refusal read.0 read.1 c.in-Err-next_request.ensures.refused)
