use Rattle.std.proofs.Common.{ap, sym, ◌∙◌, is_some}
use Rattle.dsn_submission.specs.Submitter.{Submitter, next_place}
use Rattle.dsn_submission.specs.Waiting.{letter_in_hand}
use Rattle.dsn_submission.proofs.SubmitterLemmas.{in_hand_at, taken_waits}
use Rattle.dsn_submission.proofs.submitter.Submitter.step.Goals as goal

pub handle-requires-clause-hand : goal.handle-requires-clause-hand
handle-requires-clause-hand g c =
    ap (λ (submitter : Submitter _ _). is_some (letter_in_hand submitter.waiting)) c.take.ensures.taken
    ∙ taken_waits c.args.self.now c.args.now (sym c.take.ensures.found ∙ c.if-not-take.false)

pub returns-in-Ok-clause-handled : goal.returns-in-Ok-clause-handled
returns-in-Ok-clause-handled g c letter at =
    let here =
    ap (λ (submitter : Submitter _ _). letter_in_hand submitter.waiting) c.take.ensures.taken
    ∙ in_hand_at c.args.self.now (next_place c.args.self.now c.args.now) letter at in
    rw c.take.ensures.taken at (c.in-Ok.ensures.handled letter here)
