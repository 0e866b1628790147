-- Each number so far is more than the one before.
use Rattle.std.proofs.Common.{ℕ, ◌+◌, ◌<◌, get_or}
use Rattle.dsn_journal.proofs.settled_letters.do_rise.Given as goal

abbrev pub invariant-loop-i : goal.invariant-loop-i
invariant-loop-i l = (k : ℕ) → k + 1 < l.i → get_or l.edges k 0 < get_or l.edges (k + 1) 0
