use Rattle.std.proofs.Common.{arith}
use Rattle.dsn_submission.proofs.WaitingLemmas.{hand_within}
use Rattle.dsn_submission.proofs.waiting.Waiting.serial_in_hand.Goals as goal

pub overflow_add-result : goal.overflow_add-result
overflow_add-result g c =
    let waits = rw c.in-Some.is at c.self.invariant.hand_waits in
    let within = hand_within c.self.inside.letters.items c.in-Some.place waits in
    let room = c.self.invariant.numbered in record { fits = omega arith }
