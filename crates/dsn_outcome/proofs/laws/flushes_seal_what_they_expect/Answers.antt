use Rattle.dsn_outcome.proofs.Expecting.{answers_differs, differs_changes_nothing, letters_as_expected}
use Rattle.dsn_outcome.proofs.laws.flushes_seal_what_they_expect.Goals as goal

pub returns-clause-answered : goal.returns-clause-answered
returns-clause-answered c limits key history still request draft body other = answers_differs limits history request key draft still body other

pub returns-clause-unchanged : goal.returns-clause-unchanged
returns-clause-unchanged c limits history request count is = differs_changes_nothing limits history request count is

pub returns-clause-sealed : goal.returns-clause-sealed
returns-clause-sealed c limits requests = letters_as_expected limits requests
