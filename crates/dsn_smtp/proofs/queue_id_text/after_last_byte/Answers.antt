use Rattle.std.proofs.Common.{arith}
use Rattle.dsn_smtp.proofs.QueueIdLemmas.{after_is}
use Rattle.dsn_smtp.proofs.queue_id_text.after_last_byte.Goals as goal
use Rattle.dsn_smtp.proofs.queue_id_text.after_last_byte.Goals.{then-loop-start-test+else-bytes-start, else-loop-start-test}

pub returns : goal.returns
returns c =
    after_is c.args.bytes.now c.args.byte c.loop-start.start c.loop-start.invariant.within c.loop-start.invariant.passed
    (λ some. elim c.loop-start-test.branch [ then-loop-start-test+else-bytes-start w ↦ w.if-bytes-start.false | else-loop-start-test w ↦ absurd (omega (arith, some, w.loop-start-test.false)) ])
