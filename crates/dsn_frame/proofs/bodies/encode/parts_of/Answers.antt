use Rattle.dsn_frame.proofs.bodies.EncodingLaws.{append_written, flush_written, discard_written, forget_written}
use Rattle.dsn_frame.proofs.bodies.encode.parts_of.Goals as goal

pub returns-in-Append-clause-written : goal.returns-in-Append-clause-written
returns-in-Append-clause-written c =
    rw (c.in-Append.is, c.append_parts.ensures.same)
    (append_written c.args.number c.in-Append.id.now c.in-Append.outcome.now c.ranges.number.fits c.append_parts.ensures.id_legal c.append_parts.ensures.legal)

pub returns-in-Flush-clause-written : goal.returns-in-Flush-clause-written
returns-in-Flush-clause-written c =
    rw (c.in-Flush.is, c.flush_body.ensures.same)
    (flush_written c.args.number c.in-Flush.key.now c.in-Flush.terms.now c.ranges.number.fits c.flush_body.ensures.id_legal c.flush_body.ensures.legal)

pub returns-in-Discard-clause-written : goal.returns-in-Discard-clause-written
returns-in-Discard-clause-written c =
    rw (c.in-Discard.is, c.head_parts.ensures.same) (discard_written c.args.number c.in-Discard.key.now c.ranges.number.fits c.head_parts.ensures.legal)

pub returns-in-Forget-clause-written : goal.returns-in-Forget-clause-written
returns-in-Forget-clause-written c =
    rw (c.in-Forget.is, c.head_parts-in-Forget.ensures.same) (forget_written c.args.number c.in-Forget.key.now c.ranges.number.fits c.head_parts-in-Forget.ensures.legal)
