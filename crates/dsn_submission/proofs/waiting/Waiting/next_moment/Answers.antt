use Rattle.std.proofs.Common.{ℕ, Some, None, is_some, sym, ap, ◌∙◌}
use Rattle.dsn_submission.proofs.NextMomentLemmas.{due_from}
use Rattle.dsn_submission.specs.Waiting.{Queue, due_place, is_reached}
use Rattle.dsn_submission.specs.inner.Waiting.{queue_of}
use Rattle.dsn_submission.proofs.waiting.Waiting.next_moment.Goals as goal

pub returns-in-Some : goal.returns-in-Some
returns-in-Some g c now =
    ap (λ (queue : Queue _). is_some (due_place queue now)) (sym c.self.view_is)
    ∙ (due_from (queue_of c.self.inside) (Some c.in-Some.due) now (sym c.is_some.ensures ∙ c.if-is_some.false) (sym c.least_due.ensures ∙ c.in-Some.is)
    ∙ ap (λ (moment : ℕ). is_reached (Some moment) now) (sym c.max.ensures))

pub returns-in-None : goal.returns-in-None
returns-in-None g c now =
    ap (λ (queue : Queue _). is_some (due_place queue now)) (sym c.self.view_is)
    ∙ due_from (queue_of c.self.inside) None now (sym c.is_some.ensures ∙ c.if-is_some.false) (sym c.least_due.ensures ∙ c.in-None.is)
