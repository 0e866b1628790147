use Rattle.std.proofs.Common.{arith}
use Rattle.dsn_outcome.specs.Body.{body_lent}
use Rattle.dsn_frame.specs.inner.BodyParts.{wire_body_in}
use Rattle.dsn_frame.specs.bodies.Request.{request_body}
use Rattle.dsn_frame.proofs.bodies.EncodingLaws.{written_fits}
use Rattle.dsn_frame.proofs.bodies.encode.encode_lent.Goals as goal

pub overflow_add-size : goal.overflow_add-size
overflow_add-size c =
    let fits = written_fits c.args.number (body_lent c.args.body) (wire_body_in c.parts_of-parts.result) c.parts_of-parts.ensures.written in
    omega (arith, fits, c.body_len-size.ensures)

pub returns-in_default-clause-whole : goal.returns-in_default-clause-whole
unfolding request_body
returns-in_default-clause-whole c =
    rw c.parts_of-parts.ensures.fields (written_fits c.args.number (body_lent c.args.body) (wire_body_in c.parts_of-parts.result) c.parts_of-parts.ensures.written)

pub push_frame-requires-clause-small : goal.push_frame-requires-clause-small
push_frame-requires-clause-small c =
    (written_fits c.args.number (body_lent c.args.body) (wire_body_in c.parts_of-parts.result) c.parts_of-parts.ensures.written).1

pub returns-clause-whole : goal.returns-clause-whole
unfolding request_body
returns-clause-whole c =
    rw c.parts_of-parts.ensures.fields (written_fits c.args.number (body_lent c.args.body) (wire_body_in c.parts_of-parts.result) c.parts_of-parts.ensures.written)
