-- Runs: what a run of a crew begins with.
use Rattle.std.specs.Prelude.{◌≡◌, ◌^◌, ◌<◌, ◌≤◌, List, All, length}
use Rattle.dsn_book.specs.declared.keeper.Keeper.{Ghosts as Keeper}
use Rattle.dsn_outcome.specs.History.{Exchange}
use Rattle.dsn_crew.specs.Crew.{most_ports}
use Rattle.dsn_crew.specs.KeeperHistory.{BeginsWith}
use Rattle.dsn_crew.specs.declared.agents.port.Port.{Ghosts as Port}
use Rattle.dsn_crew.specs.declared.post.outlet.Outlet.{Ghosts as Outlet}

-- 1 to `most_ports` ports, each of which may be asked. The keeper has a history to begin with, and
-- fewer than 2^63 letters were sealed before. No letter of the outlet is unsent
pub record MayRun {B P S O L : Type 0} (keeper : Keeper B) (port : Port P S) (outlet : Outlet O L)
    (book : B) (ports : List P) (given : O) : Type 0 where
  pub few : (1 ≤ length ports) × (length ports ≤ most_ports)
  pub asked : All port.may_be_asked ports
  pub room : keeper.sealed book < 2 ^ 63
  pub begins : (before : List Exchange) × BeginsWith keeper book before
  pub all_sent : outlet.unsent given ≡ 0
