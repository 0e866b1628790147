use Rattle.std.proofs.Common.{ap, sym, ◌∙◌}
use Rattle.dsn_submission.proofs.WaitingLemmas.{due_place_waits}
use Rattle.dsn_submission.specs.Waiting.{Queue, due_place}
use Rattle.dsn_submission.specs.inner.Waiting.{queue_of}
use Rattle.dsn_submission.proofs.waiting.Waiting.take_due.Goals as goal

pub invariant_of-self : goal.invariant_of-self
invariant_of-self g c = record {
  numbered = c.self.invariant.numbered;
  first_waits = c.self.invariant.first_waits;
  hand_waits = due_place_waits (queue_of c.self.inside) c.args.now c.in-Some.place
      (ap (λ (queue : Queue _). due_place queue c.args.now) c.self.view_is ∙ (sym c.due_place.ensures ∙ c.in-Some.is));
}
