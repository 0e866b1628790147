-- The pointers so far lead here.
use Rattle.std.proofs.Common.{◌≤◌, length}
use Rattle.dsn_postfix_files.specs.QueueWalk.{PointersLead, steps_left}
use Rattle.dsn_postfix_files.proofs.queue_reader.next_step.Given as goal

abbrev pub invariant-loop-there : goal.invariant-loop-there
invariant-loop-there l = record {
  lead : PointersLead l.file (record { rest = l.rest; jumps = l.jumps }) (record { rest = l.here; jumps = l.left });
  within : length l.here ≤ length l.file;
  before : steps_left (length l.file) (record { rest = l.here; jumps = l.left }) ≤ steps_left (length l.file) (record { rest = l.rest; jumps = l.jumps });
}

abbrev pub decreases-loop-there : goal.decreases-loop-there
decreases-loop-there l = steps_left (length l.file) (record { rest = l.here; jumps = l.left })
