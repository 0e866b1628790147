-- So many of the threads so far are missing.
use Rattle.std.proofs.Common.{◌≡◌, ◌≤◌}
use Rattle.std.specs.Prelude.{take}
use Rattle.dsn_crew.specs.inner.StartServing.{missing_threads}
use Rattle.dsn_crew.proofs.start_serving.count_missing.Given as goal

abbrev pub invariant-loop-handle : goal.invariant-loop-handle
invariant-loop-handle g l = (l.missing ≡ missing_threads (take l.handle-index l.handle-items)) × (l.missing ≤ l.handle-index)
