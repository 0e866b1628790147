use Rattle.std.proofs.Common.{rules}
use Rattle.dsn_submission.proofs.WaitingLemmas.{IsQueue-pushed}
use Rattle.dsn_submission.specs.inner.Waiting.{queue_of}
use Rattle.dsn_submission.proofs.waiting.Waiting.push.Goals as goal

pub invariant_of-self : goal.invariant_of-self
invariant_of-self g c =
    IsQueue-pushed (queue_of c.self.inside) c.args.item c.args.now c.push_letter.new.letters.items c.push_letter.result c.self.invariant (search rules)
    c.push_letter.ensures.ok c.push_letter.ensures.unchanged
