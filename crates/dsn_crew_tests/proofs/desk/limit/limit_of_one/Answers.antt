-- A crew that was just opened has its two agents, at their places.
use Rattle.std.proofs.Common.{rules}
use Rattle.dsn_book.specs.Keeper.{book_keeper}
use Rattle.dsn_crew.specs.desk.Open.{IsOpenedEmpty}
use Rattle.dsn_crew.proofs.OpenLemmas.{opened_two}
use Rattle.dsn_crew_tests.proofs.desk.limit.limit_of_one.Goals as goal

pub two_agents-requires-after_bounds : goal.two_agents-requires-after_bounds
two_agents-requires-after_bounds g c κs within =
    let opened : IsOpenedEmpty c.in_ok-limits.limits 2 c.in-Ok.crew.items c.in-Ok.desk = c.in-Ok.ensures.opened in
    opened_two book_keeper c.in-Ok.desk.start c.in-Ok.crew.items c.in-Ok.desk opened.opened
