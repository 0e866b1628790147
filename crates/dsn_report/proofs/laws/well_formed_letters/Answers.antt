use Rattle.std.proofs.Common.{ℕ, get_or, subst, ◌∙◌}
use Rattle.std.proofs.lemmas.List.{get_or_default}
use borrow.Author.Count.{below_more}
use Rattle.dsn_outcome.specs.Letter.{Letter}
use Rattle.dsn_report.specs.WellFormed.{IsWellFormed}
use Rattle.dsn_report.proofs.laws.well_formed_letters.Goals as goal

pub loop-letter-preserved : goal.loop-letter-preserved
loop-letter-preserved c = λ k d below.
    below_more (λ (i : ℕ). (other : Letter) → IsWellFormed c.args.site.now (get_or c.args.letters.now i other)) c.loop-letter.letter-index
    (λ i lt other. c.loop-letter.invariant i other lt)
    (λ other. subst (IsWellFormed c.args.site.now)
    (c.letter-item.is ∙ get_or_default c.args.letters.now c.loop-letter.letter-index c.letter-item.result other c.loop-letter-test.true)
    c.well_formed_law.ensures)
    k below d
