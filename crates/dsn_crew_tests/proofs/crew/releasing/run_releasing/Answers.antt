-- A book that is empty begins with no history.
use Rattle.std.proofs.Common.{rules, []}
use Rattle.dsn_book.specs.RuledBook.{has_by_rules}
use Rattle.dsn_crew_tests.proofs.Beginnings.{nobody_answered}
use Rattle.dsn_crew_tests.proofs.crew.releasing.run_releasing.Goals as goal

pub run_ports-cause-requires-clause-begins : goal.run_ports-cause-requires-clause-begins
run_ports-cause-requires-clause-begins g c κs within =
    let empty : has_by_rules c.in_ok-book.book [] = search rules in ([], (empty, nobody_answered))
