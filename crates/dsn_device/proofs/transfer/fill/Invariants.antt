-- The bytes at the front of the buffer were consumed, and the source did not fail.
use Rattle.std.proofs.Common.{◌≡◌, ◌≤◌, ◌-◌, length, take}
use Rattle.std.specs.Io.KnownBytes.{Consumes, Keeps}
use Rattle.dsn_device.proofs.transfer.fill.Given as goal

abbrev pub invariant-loop-filled : goal.invariant-loop-filled
invariant-loop-filled g l = record {
  long : length l.buffer ≡ length l.initial.buffer;
  in_range : l.filled ≤ length l.buffer;
  consumed : Consumes (g.S.Source.remaining l.initial.source) (g.S.Source.remaining l.source) (take l.filled l.buffer);
  held : Keeps (g.S.Source.holds l.initial.source) (g.S.Source.holds l.source);
  no_flush : g.S.Source.flushes l.source ≡ g.S.Source.flushes l.initial.source;
  unflushed : g.S.Source.unflushed l.source ≡ g.S.Source.unflushed l.initial.source;
  count : g.S.Source.failures l.source ≡ g.S.Source.failures l.initial.source;
  steady : g.S.Source.steady l.initial.source → g.S.Source.steady l.source;
}

abbrev pub decreases-loop-filled : goal.decreases-loop-filled
decreases-loop-filled g l = length l.buffer - l.filled
