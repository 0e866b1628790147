-- The front of the buffer was read, and further bytes may complete it to a reply.
use Rattle.std.proofs.Common.{◌≡◌, ◌≤◌, ◌-◌, length, take}
use Rattle.std.specs.Io.KnownBytes.{Consumes, Keeps}
use Rattle.dsn_smtp.specs.Reply.{longest_server_reply}
use Rattle.dsn_smtp.specs.inner.ReplyState.{scan}
use Rattle.dsn_smtp.specs.declared.reply_state.ReplyState.TheVariants.{Front}
use Rattle.dsn_smtp.specs.declared.reply_state.ReplyScan.TheVariants.{Open}
use Rattle.dsn_smtp.proofs.reply_buffer.read_into.Given as goal

abbrev pub invariant-loop-filled : goal.invariant-loop-filled
invariant-loop-filled g l = record {
  in_range : l.filled ≤ length l.bytes;
  long : length l.bytes ≡ longest_server_reply;
  consumed : Consumes (g.S.Source.remaining l.initial.source) (g.S.Source.remaining l.source) (take l.filled l.bytes);
  scanned : scan Front (take l.filled l.bytes) ≡ Open;
  held : Keeps (g.S.Source.holds l.initial.source) (g.S.Source.holds l.source);
  no_flush : g.S.Source.flushes l.source ≡ g.S.Source.flushes l.initial.source;
  unflushed : g.S.Source.unflushed l.source ≡ g.S.Source.unflushed l.initial.source;
  count : g.S.Source.failures l.source ≡ g.S.Source.failures l.initial.source;
  steady : g.S.Source.steady l.initial.source → g.S.Source.steady l.source;
}

abbrev pub decreases-loop-filled : goal.decreases-loop-filled
decreases-loop-filled g l = longest_server_reply - l.filled
