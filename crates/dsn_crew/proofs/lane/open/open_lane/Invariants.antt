-- So many agents have their halves, in their order.
use Rattle.std.proofs.Common.{◌≡◌, ◌+◌, ◌≤◌, [], vec_capacity, vec_len}
use Rattle.crossbeam_channel.specs.Claims.{view, IsSeatAt}
use Rattle.crossbeam_channel.specs.Ends.{sends_on, ruled_capacity}
use Rattle.dsn_crew.specs.declared.lane.lane_knowledge.LaneKnowledge.TheVariants.{Takes}
use Rattle.dsn_crew.specs.inner.Halves.{fresh, lane_at}
use Rattle.dsn_crew.specs.lane.Halves.{fresh_halves}
use Rattle.dsn_crew.proofs.lane.open.open_lane.Given as goal

abbrev pub invariant-loop : goal.invariant-loop
invariant-loop g l =
    IsSeatAt (sends_on l.sender) l.pass × (view l.pass ≡ Takes (ruled_capacity (sends_on l.sender)) (record { made = l.first + l.counter; taken = []; back = fresh 0 l.first }))
    × (l.halves.items ≡ fresh_halves (lane_at (sends_on l.sender)) l.first l.counter) × (vec_len l.halves ≡ l.counter) × (l.agents ≤ vec_capacity l.halves)
