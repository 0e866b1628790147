-- Nothing was taken so far.
use Rattle.std.proofs.Common.{◌≡◌}
use Rattle.dsn_crew.proofs.desk.intake.take_due.Given as goal

abbrev pub invariant-loop : goal.invariant-loop
invariant-loop g l = record {
  same : (l.lane.lane ≡ l.fn.lane.lane) × (l.lane.first ≡ l.fn.lane.first) × (l.lane.past ≡ l.fn.lane.past);
  taken : l.lane.taken ≡ l.fn.lane.taken;
}
