-- What is taken together comes behind all that the lane had taken.
use Rattle.std.proofs.Common.{List, sym, subst}
use Rattle.std.proofs.lemmas.List.{take-append-drop}
use Rattle.dsn_outcome.specs.Request.{Request}
use Rattle.dsn_crew.proofs.desk.IntakeLemmas.{AreNumbered}
use Rattle.dsn_crew.proofs.desk.intake.Intake.fill.Goals as goal

pub returns-clause-numbered : goal.returns-clause-numbered
returns-clause-numbered g c = subst (λ (q : List Request). AreNumbered q) (sym (take-append-drop _ _)) c.take_together.ensures.numbered
