-- Without the last half, those of one agent less are left.
use Rattle.dsn_crew_tests.proofs.lane.TestLemmas.{left_taken}
use Rattle.dsn_crew_tests.proofs.lane.hands.last_half.Goals as goal

pub returns-clause-rest : goal.returns-clause-rest
returns-clause-rest c = (left_taken _ _ _ _ _ c.requires.some c.requires.left c.in_ok-half.ensures.items).0

pub returns-clause-last : goal.returns-clause-last
returns-clause-last c = let it = left_taken _ _ _ _ _ c.requires.some c.requires.left c.in_ok-half.ensures.items in (it.1, it.2)
