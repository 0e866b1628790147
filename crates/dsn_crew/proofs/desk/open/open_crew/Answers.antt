-- A book that is empty begins with no history.
use Rattle.std.proofs.Common.{[]}
use Rattle.dsn_crew.proofs.desk.EarlierLemmas.{none_earlier}
use Rattle.dsn_crew.proofs.desk.open.open_crew.Goals as goal

pub open_room-requires-clause-begins : goal.open_room-requires-clause-begins
open_room-requires-clause-begins g c = ([], (c.in-Ok.ensures.stands, none_earlier))
