use Rattle.dsn_submission.specs.Submitter.{goes_on, has_ended, quits}
use Rattle.dsn_submission.proofs.submitter.going_on.Goals as goal

pub returns-in-Some : goal.returns-in-Some
returns-in-Some g c = rw c.in-Some.is (goes_on c.in-Some.session)

pub returns-in-Some-2 : goal.returns-in-Some-2
returns-in-Some-2 g c = rw c.in-Some.is (quits c.in-Some.session c.end.ensures)

pub returns-in-None : goal.returns-in-None
returns-in-None g c = rw c.in-None.is has_ended
