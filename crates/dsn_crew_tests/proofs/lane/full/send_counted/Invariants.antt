-- The half stays agent 0's.
use Rattle.std.proofs.Common.{◌≡◌}
use Rattle.dsn_crew_tests.proofs.lane.full.send_counted.Given as goal

abbrev pub invariant-loop : goal.invariant-loop
invariant-loop g l = l.half.agent ≡ 0
