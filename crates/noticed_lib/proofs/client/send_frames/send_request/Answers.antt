use Rattle.std.proofs.Common.{◌∙◌}
use Rattle.dsn_frame.specs.bodies.Request.{request_bytes}
use Rattle.noticed_lib.proofs.client.send_frames.send_request.Goals as goal

pub returns-clause-asked : goal.returns-clause-asked
unfolding request_bytes
returns-clause-asked g c apart = c.ask_bytes.ensures.asked _ (c.deref.ensures.value ∙ c.in-Ok.ensures.written)

pub returns-clause-unsent : goal.returns-clause-unsent
unfolding request_bytes
returns-clause-unsent g c is =
    let asked = c.ask_bytes.ensures.asked _ (c.deref.ensures.value ∙ c.in-Ok.ensures.written) in
    absurd (rw is at asked)
