use Rattle.std.proofs.Common.{refl, rules, sym, ◌∙◌}
use Rattle.dsn_submission.specs.Submitter.{same}
use Rattle.dsn_submission.proofs.SubmitterLemmas.{tells_settled}
use Rattle.dsn_submission.proofs.submitter.Submitter.tell.Goals as goal

pub returns-then-is_settled_by-clause-told : goal.returns-then-is_settled_by-clause-told
returns-then-is_settled_by-clause-told g c =
    rw c.is_err-self-inside.ensures.value
    (tells_settled g.M.Marks.settles c.settle.result _ _ c.args.serial c.args.verdict (sym c.is_settled_by.ensures ∙ c.if-is_settled_by.true) c.settle.ensures)

pub returns-else-is_settled_by-clause-told : goal.returns-else-is_settled_by-clause-told
returns-else-is_settled_by-clause-told g c = rw c.requires (same c.args.verdict (sym c.is_settled_by.ensures ∙ c.if-is_settled_by.false) refl)
