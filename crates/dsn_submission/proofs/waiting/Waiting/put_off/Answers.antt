use Rattle.std.proofs.Common.{Some}
use Rattle.dsn_submission.proofs.WaitingLemmas.{IsQueue-put_off}
use Rattle.dsn_submission.specs.inner.Waiting.{queue_of}
use Rattle.dsn_submission.proofs.waiting.Waiting.put_off.Goals as goal

pub invariant_of-self : goal.invariant_of-self
invariant_of-self g c =
    rw c.put_letter_off.ensures (IsQueue-put_off (queue_of c.self.inside) c.args.now (Some c.in-Some.place) c.self.invariant)
