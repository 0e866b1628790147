-- The requests so far were a run.
use Rattle.std.specs.Prelude.{◌≡◌, List, Ok}
use Rattle.dsn_outcome.specs.History.{Exchange}
use Rattle.dsn_crew.specs.KeeperHistory.{BeginsWith}
use Rattle.dsn_crew.specs.desk.Desk.{IsRun, agent_lanes_of}
use Rattle.dsn_crew.proofs.desk.desk.Desk.run.Given as goal

abbrev pub invariant-loop : goal.invariant-loop
invariant-loop g l = record {
  run : (before : List Exchange) → BeginsWith g.B.Keeper l.fn.self.start before → IsRun g.B.Keeper before g.K.Sink.takes l.fn.self l.self l.fn.sink l.sink (Ok tt);
  start : l.self.start ≡ l.fn.self.start;
  places : agent_lanes_of l.self ≡ agent_lanes_of l.fn.self;
}
