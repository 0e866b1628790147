-- Some agents' lanes are closed; those that are left pair with the halves that answer them.
use Rattle.std.proofs.Common.{◌≡◌, List, ◌+◌, ◌≤◌, All, ◌++◌, length, map, vec_capacity}
use Rattle.std.specs.Vec.Iter.{into_iter_items, into_iter_len}
use Rattle.dsn_crew.specs.lane.Halves.{Half}
use Rattle.dsn_outcome.specs.History.{Exchange, answers_to}
use Rattle.dsn_outcome.specs.declared.answer.Answer.{Answer}
use Rattle.dsn_crew.specs.agents.Agent.{LaneHalves, IsFinished}
use Rattle.dsn_crew.specs.agents.AgentLanes.{lanes_at, lanes_of}
use Rattle.dsn_crew.specs.KeeperHistory.{BeginsWith}
use Rattle.dsn_crew.specs.desk.Desk.{history}
use Rattle.dsn_crew.proofs.desk.CloseLemmas.{IsAnswered}
use Rattle.dsn_crew.proofs.desk.close.close_crew.Given as goal

abbrev pub invariant-loop-finished : goal.invariant-loop-finished
invariant-loop-finished g l = record {
  iterator : (goal.iterator-loop-finished g).can_next l.finished-iterator × (goal.iterator-loop-finished g).is_finite l.finished-iterator;
  crew : map lanes_of (into_iter_items l.finished-iterator) ≡ map (lanes_at l.fn.desk.requests.lane) (into_iter_items l.lines);
  len : into_iter_len l.lines ≡ length (into_iter_items l.lines);
  answered : (before : List Exchange) → BeginsWith g.B.Keeper l.fn.desk.start before → All (λ (half : Half Answer). half.sent ≡ answers_to half.agent (history g.B.Keeper before l.fn.desk)) (into_iter_items l.lines);
  asked : l.room.items ++ map (λ (halves : LaneHalves). halves.requests) (into_iter_items l.finished-iterator) ≡ map (λ (halves : LaneHalves). halves.requests) l.fn.crew.items;
  room : length l.room.items + length (into_iter_items l.finished-iterator) ≤ vec_capacity l.room;
  finished : All IsFinished (into_iter_items l.finished-iterator) → All IsFinished l.fn.crew.items;
  closed : (before : List Exchange) → BeginsWith g.B.Keeper l.fn.desk.start before → All (IsAnswered (history g.B.Keeper before l.fn.desk)) (into_iter_items l.finished-iterator) → All (IsAnswered (history g.B.Keeper before l.fn.desk)) l.fn.crew.items;
}
