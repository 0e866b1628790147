-- The agents of a collector stay its agents through a run.
use Rattle.std.proofs.Common.{◌∙◌, sym}
use Rattle.dsn_crew_tests.proofs.desk.collect.collect.Goals as goal

pub returns-clause-crew : goal.returns-clause-crew
returns-clause-crew g c = λ crew are. are ∙ sym c.run.ensures.places
