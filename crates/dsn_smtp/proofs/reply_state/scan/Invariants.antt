-- The result for all bytes is the result for the rest from the state.
use Rattle.std.proofs.Common.{◌≡◌, length}
use Rattle.dsn_smtp.specs.inner.ReplyState.{scan}
use Rattle.dsn_smtp.specs.declared.reply_state.ReplyState.TheVariants.{Front}
use Rattle.dsn_smtp.proofs.reply_state.scan.Given as goal

abbrev pub invariant-loop-rest : goal.invariant-loop-rest
invariant-loop-rest l = scan Front l.fn.bytes ≡ scan l.state l.rest

abbrev pub decreases-loop-rest : goal.decreases-loop-rest
decreases-loop-rest l = length l.rest
