-- The half stays the same agent's, of the same lane.
use Rattle.std.proofs.Common.{◌≡◌}
use Rattle.dsn_crew_tests.proofs.lane.item.send_many.Given as goal

abbrev pub invariant-loop : goal.invariant-loop
invariant-loop g l = (l.half.lane ≡ l.fn.half.lane) × (l.half.agent ≡ l.fn.half.agent)
