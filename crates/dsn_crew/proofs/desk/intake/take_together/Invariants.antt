-- So many were taken together, each while agents were left.
use Rattle.std.proofs.Common.{◌≡◌, ◌≢◌, ℕ, ◌+◌, ◌<◌, ◌≤◌, All, ◌++◌, length, take}
use Rattle.std.specs.VecDeque.{deque_capacity}
use Rattle.dsn_outcome.specs.Request.{Request}
use Rattle.dsn_crew.specs.desk.Intake.{goodbyes, most_together}
use Rattle.dsn_crew.proofs.desk.IntakeLemmas.{AreNumbered}
use Rattle.dsn_crew.proofs.desk.intake.take_together.Given as goal

abbrev pub invariant-loop : goal.invariant-loop
invariant-loop g l = record {
  same : (l.lane.lane ≡ l.fn.lane.lane) × (l.lane.first ≡ l.fn.lane.first) × (l.lane.past ≡ l.fn.lane.past);
  taken : l.lane.taken ≡ l.fn.lane.taken ++ l.waiting.items;
  some : 1 ≤ length l.waiting.items;
  together : (length l.waiting.items ≤ l.counter) × (l.counter ≤ 16);
  room : most_together ≤ deque_capacity l.waiting;
  agents : All (λ (request : Request). request.agent < l.fn.lane.past) l.waiting.items;
  numbered : AreNumbered l.lane.taken;
  in_time : (n : ℕ) → n < length l.waiting.items → l.fn.heard + goodbyes (take n l.waiting.items) ≢ l.agents;
  counted : l.counted ≡ l.fn.heard + goodbyes l.waiting.items;
}
