-- An answer lane has one sending half, so its agent got the first of what that half sent.
use Rattle.std.proofs.Common.{ap, subst, ◌∙◌, ◌∷◌, ◌++◌, [], List}
use mathlib.Core.List.{IsPrefix}
use Rattle.dsn_crew.specs.lane.Halves.{Half}
use Rattle.dsn_outcome.specs.declared.answer.Answer.{Answer}
use Rattle.dsn_crew.proofs.desk.CloseLemmas.{one_prefix}
use Rattle.dsn_crew.proofs.desk.close.close_answers.Goals as goal

pub returns-clause-got : goal.returns-clause-got
returns-clause-got g c =
    let agent = ap (λ (half : Half Answer). half.agent) c.line.view_is ∙ c.requires.lane.1 in
    let pushed = c.push_reserved.ensures.items ∙ ap (λ (room : List (Half Answer)). room ++ c.line.inside.half ∷ []) c.line.invariant.0 in
    let taken = rw c.into_halves-requests.ensures.answers at c.close_lane.ensures.prefix in
    let here = one_prefix _ c.line.inside.half c.args.finished.requests.agent c.args.finished.answers.taken pushed agent c.into_halves-requests.ensures.own.mine taken in
    subst (λ (half : Half Answer). IsPrefix c.args.finished.answers.taken half.sent) c.line.view_is here
