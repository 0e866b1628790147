use Rattle.std.proofs.Common.{true, false, ap, subst, ◌∙◌}
use Rattle.dsn_submission.specs.Submitter.{Submitter, kept, not_kept}
use Rattle.dsn_submission.specs.Waiting.{letter_in_hand}
use Rattle.dsn_submission.proofs.SubmitterLemmas.{item_in_hand}
use Rattle.dsn_submission.proofs.submitter.Submitter.keep.Goals as goal

pub returns-in-Ok : goal.returns-in-Ok
returns-in-Ok g c letter here =
    let item = item_in_hand (letter_in_hand c.self.inside.waiting) c.in-Some.letter.now letter (rw c.in-Some.is at c.in_hand.ensures) (ap (λ (submitter : Submitter _ _). letter_in_hand submitter.waiting) c.self.view_is ∙ here) in
    let is = rw c.in-Ok.is at c.keep.ensures in
    kept (subst (λ (x : g.row.T.Denot). g.K.RefusedLetters.keeps c.args.refused.now (g.T.Mail.path_of x) (g.T.Mail.message_of x) c.args.reason.now true c.keep.new.self) item is)

pub returns-in-Err : goal.returns-in-Err
returns-in-Err g c letter here =
    let item = item_in_hand (letter_in_hand c.self.inside.waiting) c.in-Some.letter.now letter (rw c.in-Some.is at c.in_hand.ensures) (ap (λ (submitter : Submitter _ _). letter_in_hand submitter.waiting) c.self.view_is ∙ here) in
    let is = rw c.in-Err.is at c.keep.ensures in
    not_kept (subst (λ (x : g.row.T.Denot). g.K.RefusedLetters.keeps c.args.refused.now (g.T.Mail.path_of x) (g.T.Mail.message_of x) c.args.reason.now false c.keep.new.self) item is)
