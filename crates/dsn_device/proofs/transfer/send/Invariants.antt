-- The text before `unsent` was appended, and the drain did not fail and was not flushed.
use Rattle.std.proofs.Common.{◌≡◌, List, ◌++◌, length, ℕ}
use Rattle.std.specs.Io.KnownBytes.{Appends, Keeps}
use Rattle.dsn_device.specs.Throughout.{StandsStill}
use Rattle.dsn_device.proofs.transfer.send.Given as goal

abbrev pub invariant-loop-unsent : goal.invariant-loop-unsent
invariant-loop-unsent g l = record {
  sent : (done : List ℕ) × (l.initial.unsent ≡ done ++ l.unsent) × Appends (g.D.Drain.contents l.initial.drain) (g.D.Drain.contents l.drain) done;
  unread : Keeps (g.D.Drain.left l.initial.drain) (g.D.Drain.left l.drain);
  no_flush : g.D.Drain.flushes l.drain ≡ g.D.Drain.flushes l.initial.drain;
  count : g.D.Drain.failures l.drain ≡ g.D.Drain.failures l.initial.drain;
  marked : g.D.Drain.marked l.drain ≡ g.D.Drain.marked l.initial.drain;
  no_moment : StandsStill (g.D.Drain.moment l.initial.drain) (g.D.Drain.moment l.drain) (g.D.Drain.left_since l.initial.drain) (g.D.Drain.left_since l.drain);
  surely : g.D.Drain.flushes_surely l.initial.drain → g.D.Drain.flushes_surely l.drain;
  steady : g.D.Drain.steady l.initial.drain → g.D.Drain.steady l.drain;
}

abbrev pub decreases-loop-unsent : goal.decreases-loop-unsent
decreases-loop-unsent g l = length l.unsent
