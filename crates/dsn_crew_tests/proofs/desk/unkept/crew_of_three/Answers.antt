-- A book that is empty begins with no history.
use Rattle.std.proofs.Common.{rules, []}
use Rattle.dsn_book.specs.Book.{Represents}
use Rattle.dsn_crew_tests.proofs.Beginnings.{nobody_answered}
use Rattle.dsn_crew_tests.proofs.desk.unkept.crew_of_three.Goals as goal

pub open_crew_over-requires-clause-begins : goal.open_crew_over-requires-clause-begins
open_crew_over-requires-clause-begins g c =
    let empty : Represents c.in_ok-book.book [] = search rules in ([], (empty, nobody_answered))
