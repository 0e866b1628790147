-- Of private parts: how a run is concluded from the collector's result, the agents' results, and
-- what was posted.
use Rattle.std.specs.Prelude
use Rattle.std.specs.Prelude.{◌≡◌, true, List, [], ◌++◌, Option, None, Some, Result, Ok, Err, is_some}
use Rattle.dsn_book.specs.declared.keeper.Keeper.{Ghosts as Keeper}
use Rattle.dsn_book.specs.Step.{letters_in}
use Rattle.dsn_outcome.specs.History.{Exchange}
use Rattle.dsn_outcome.specs.Letter.{Letter}
use Rattle.dsn_crew.specs.declared.lane.lane_gone.LaneGone.{LaneGone}
use Rattle.dsn_crew.specs.declared.post.posted.Posted.{Posted}
use Rattle.dsn_crew.specs.agents.Agent.{LaneHalves, IsFinished}
use Rattle.dsn_crew.specs.desk.Close.{AreCrew, AreOf, IsHeard}
use Rattle.dsn_crew.specs.inner.Breach.{IsShown, cause_of}
use Rattle.dsn_crew.specs.Crew.{Account, CrewFault}
use Rattle.dsn_crew.specs.KeeperHistory.{BeginsWith}
use Rattle.dsn_crew.specs.desk.Desk.{Desk, all_gone, history}
use Rattle.dsn_crew.specs.inner.Desk.{IsStopped}
use Rattle.dsn_crew.specs.declared.agents.agent_line.AgentLine.{AgentLine}
use Rattle.dsn_crew.specs.declared.breach.Breach.{Breach}
use Rattle.dsn_crew.specs.declared.broken_off.BrokenOff.{BrokenOff}
use Rattle.dsn_crew.specs.declared.gathered.Gathered.{Gathered}
use Rattle.std.specs.declared.snapshot.Snapshot.{Snapshot}
use Rattle.dsn_crew.specs.declared.crew_cause.CrewCause.{CrewCause}
use Rattle.dsn_crew.specs.declared.crew_cause.CrewCause.TheVariants as causes

-- what a breach of the agents' part shows, whatever the collector's result is
abbrev pub IsOfAgents : {B : Type 0} → Keeper B → Breach → Type 0
IsOfAgents keeper breach = (desk : Option (Snapshot (Desk _))) → IsShown keeper desk breach

-- when a run may be concluded. If the collector and the agents ended well, all agents are gone, and
-- they are the collector's. If only the collector did, the breach is one of the agents' part. If
-- the collector failed, its breach is the reason
abbrev pub MayClose :
    {B : Type 0} → Keeper B → Result (Desk B) (BrokenOff B) → Result Gathered Breach → Type 0
MayClose keeper (Ok desk) (Ok gathered) =
    AreCrew gathered.agents.items desk × (all_gone desk ≡ true)
MayClose keeper (Ok desk) (Err breach) = IsOfAgents keeper breach
MayClose keeper (Err broken) gathered = IsStopped keeper broken.desk.value broken.breach

-- the account of a closed crew, with its outbox
abbrev pub account_of :
    {B W : Type 0} → List AgentLine → List LaneHalves → Desk B → Posted W → Account W B
account_of lines agents desk posted = record {
  agents = lines;
  letters = posted.posted;
  unsent = posted.end.unsent;
  whole = posted.end.whole;
  outbox = posted.end.outbox;
  book = desk.book;
  taken = desk.requests.taken;
  halves = agents;
}

-- the fault of a crew that isn't closed, with the letter that the collector held, and with its
-- keeper
abbrev pub fault_of :
    {B W : Type 0} → CrewCause → List Letter → B → Desk B → Posted W → CrewFault W B
fault_of cause held book desk posted =
    record {
      cause = cause;
      outbox = posted.end.outbox;
      unsent = posted.end.unsent ++ held;
      book = Some book;
      taken = desk.requests.taken;
      behind = desk.behind;
    }

-- a crew that was closed
pub record HasClosed {B W : Type 0} (keeper : Keeper B) (lines : List AgentLine)
    (agents : List LaneHalves) (desk : Desk B) (posted : Posted W)
    (account : Account W B) : Type 0 where
  pub all : posted.lost ≡ None
  pub account_is : account ≡ account_of lines agents desk posted
  pub heard : (before : List Exchange) → BeginsWith keeper desk.start before
      → Prelude.All (IsHeard keeper before desk) agents
  pub finished : Prelude.All IsFinished agents
  pub only : AreOf agents desk.requests.taken
  pub has : (before : List Exchange) → BeginsWith keeper desk.start before
      → keeper.has account.book (history keeper before desk) []

-- the cause if the agents' part ended with this breach, by whether the lane of letters was lost
abbrev pub broken_cause : Option LaneGone → Breach → CrewCause
broken_cause None breach = cause_of breach
broken_cause (Some gone) breach = causes.Lost

-- if all went well the crew is closed; else this is its fault
abbrev pub Concludes :
    {B W : Type 0} → Keeper B → Result (Desk B) (BrokenOff B) → Result Gathered Breach → Posted W
    → Result (Account W B) (CrewFault W B) → Type 0
Concludes keeper (Ok desk) (Ok gathered) posted (Ok account) =
    HasClosed keeper gathered.lines.items gathered.agents.items desk posted account
Concludes keeper (Ok desk) (Ok gathered) posted (Err fault) =
    (is_some posted.lost ≡ true) × (fault ≡ fault_of causes.Lost [] desk.book desk posted)
Concludes keeper (Ok desk) (Err breach) posted (Ok account) = ⊥
Concludes keeper (Ok desk) (Err breach) posted (Err fault) =
    fault ≡ fault_of (broken_cause posted.lost breach) [] desk.book desk posted
Concludes keeper (Err broken) gathered posted (Ok account) = ⊥
Concludes keeper (Err broken) gathered posted (Err fault) =
    fault
    ≡ fault_of (cause_of broken.breach) (letters_in broken.held) broken.book broken.desk.value
    posted
