-- A book that is empty begins with no history.
use Rattle.std.proofs.Common.{rules, []}
use Rattle.dsn_book.specs.Book.{Represents}
use Rattle.dsn_crew_tests.proofs.Beginnings.{nobody_answered}
use Rattle.dsn_crew_tests.proofs.crew.keepers.run_refusing.Goals as goal

pub run_keeper-requires-clause-begins : goal.run_keeper-requires-clause-begins
run_keeper-requires-clause-begins g c κs within =
    let empty : Represents c.in_ok-book.book [] = search rules in ([], (empty, nobody_answered))
