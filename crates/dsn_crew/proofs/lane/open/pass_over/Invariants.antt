-- So many agents have been passed over.
use Rattle.std.proofs.Common.{◌≡◌}
use Rattle.crossbeam_channel.specs.Claims.{view, IsSeatAt}
use Rattle.crossbeam_channel.specs.Ends.{sends_on}
use Rattle.dsn_crew.specs.inner.Halves.{capacity_of, passed_over}
use Rattle.dsn_crew.proofs.lane.open.pass_over.Given as goal

abbrev pub invariant-loop : goal.invariant-loop
invariant-loop g l = IsSeatAt (sends_on l.sender) l.pass × (view l.pass ≡ passed_over (capacity_of (view l.fn.pass)) l.counter)
