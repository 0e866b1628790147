-- Histories that a crew's keeper begins with: none, over a book that is empty.
use Rattle.std.proofs.Common.{[], refl}
use Rattle.dsn_crew.specs.KeeperHistory.{IsEarlier}
use Rattle.dsn_outcome.specs.History.{answers_after, answers_to}

-- in no history is anything answered
pub nobody_answered : IsEarlier []
unfolding answers_after answers_to
nobody_answered agent few = refl
