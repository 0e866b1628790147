use Rattle.std.proofs.Common.{Some, arith, ◌∙◌, ap}
use Rattle.dsn_submission.proofs.WaitingLemmas.{IsQueue-settled, settled_front-le}
use Rattle.dsn_submission.specs.Waiting.{settled_front}
use Rattle.dsn_submission.specs.inner.Waiting.{queue_of}
use Rattle.dsn_submission.proofs.waiting.Waiting.settle.Goals as goal

pub overflow_add-self : goal.overflow_add-self
overflow_add-self g c =
    let few = settled_front-le c.self.inside.letters.items c.in-Some.place in
    let count = c.drop_settled.ensures.count ∙ ap settled_front c.set_letter.ensures in
    let room = c.self.invariant.numbered in record { fits = omega arith }

pub invariant_of-self : goal.invariant_of-self
invariant_of-self g c =
    rw (c.drop_settled.ensures.count, c.drop_settled.ensures.rest, c.set_letter.ensures)
    (IsQueue-settled (queue_of c.self.inside) (Some c.in-Some.place) c.self.invariant)
