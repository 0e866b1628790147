-- The folders of all levels so far were added.
use Rattle.std.proofs.Common.{◌≡◌, ℕ, ◌≤◌, ◌-◌, ◌++◌}
use Rattle.dsn_postfix_queue.specs.queue_folder.PathInQueue.{folder_levels}
use Rattle.dsn_postfix_queue.proofs.queue_folder.queue_path.push_levels.Given as goal

abbrev pub invariant-loop-level : goal.invariant-loop-level
invariant-loop-level l = record {
  within : l.level ≤ l.depth;
  added : l.path.items ≡ l.fn.path.items ++ folder_levels l.id l.level;
}

abbrev pub decreases-loop-level : goal.decreases-loop-level
decreases-loop-level l = l.depth - l.level
