use Rattle.std.proofs.Common.{List, ℕ, refl, ap, subst, ◌∙◌}
use Rattle.dsn_submission.specs.Submitter.{KeepsRefused, Submitter, not_refused}
use Rattle.dsn_submission.specs.Verdict.{reason_of}
use Rattle.dsn_submission.specs.declared.verdict.Verdict.TheVariants.{RefusedForGood}
use Rattle.dsn_submission.proofs.submitter.Submitter.keep_if_refused.Goals as goal

pub returns-in-RefusedForGood : goal.returns-in-RefusedForGood
returns-in-RefusedForGood g c letter here =
    let reply = c.bytes.ensures ∙ ap (λ (submitter : Submitter _ _). submitter.reply) c.self.view_is in
    let reason = c.reason_of.ensures ∙ ap (reason_of c.args.fault.now) reply in
    rw c.in-RefusedForGood.is
    (subst (λ (text : List ℕ). KeepsRefused g.K.RefusedLetters.keeps c.args.refused.now c.keep.new.refused (g.T.Mail.path_of letter.item) (g.T.Mail.message_of letter.item) text RefusedForGood c.keep.result) reason
    (c.keep.ensures letter here))

pub returns-in_default : goal.returns-in_default
returns-in_default g c letter here = not_refused c.args.verdict c.in_default.not-RefusedForGood refl
