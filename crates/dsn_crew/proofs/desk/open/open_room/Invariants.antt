-- Some agents are ready, each with its lanes, and the halves of the others are left.
use Rattle.std.proofs.Common.{◌≡◌, ◌-◌, ◌≤◌, length, map, vec_capacity}
use Rattle.std.specs.Vec.Iter.{into_iter_items, into_iter_len}
use Rattle.dsn_crew.specs.lane.Halves.{fresh_halves}
use Rattle.dsn_crew.specs.inner.Halves.{lane_of}
use Rattle.dsn_crew.specs.desk.Open.{AreLines, opened_agent}
use Rattle.dsn_crew.proofs.desk.open.open_room.Given as goal

abbrev pub invariant-loop-agent : goal.invariant-loop-agent
invariant-loop-agent g l = record {
  left : into_iter_items l.halves ≡ fresh_halves (lane_of l.requests-inside.pass) l.agent (l.agents - l.agent);
  len : into_iter_len l.halves ≡ l.agents - l.agent;
  crew : l.crew.items ≡ map (opened_agent l.limits.requests (lane_of l.requests-inside.pass)) l.lines.items;
  lines : AreLines l.lines.items;
  count : (length l.lines.items ≡ l.agent) × (length l.crew.items ≡ l.agent);
  room : (l.agents ≤ vec_capacity l.crew) × (l.agents ≤ vec_capacity l.lines);
}
