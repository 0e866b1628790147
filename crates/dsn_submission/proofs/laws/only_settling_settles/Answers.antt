use Rattle.dsn_submission.proofs.LawLemmas.{only_settling}
use Rattle.dsn_submission.proofs.laws.only_settling_settles.Goals as goal

pub returns : goal.returns
returns g c queue event = only_settling queue event
