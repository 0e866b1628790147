-- The byte doesn't occur from the place on.
use Rattle.std.proofs.Common.{◌≡◌, ℕ, ◌≤◌, ◌<◌, length, not, get_or, true}
use Rattle.std.specs.Prelude.{◌==◌}
use Rattle.dsn_smtp.proofs.queue_id_text.after_last_byte.Given as goal

abbrev pub invariant-loop-start : goal.invariant-loop-start
invariant-loop-start l = record {
  within : l.start ≤ length l.bytes;
  passed : (k : ℕ) → l.start ≤ k → k < length l.bytes → not (get_or l.bytes k 0 == l.byte) ≡ true;
}

abbrev pub decreases-loop-start : goal.decreases-loop-start
decreases-loop-start l = l.start
