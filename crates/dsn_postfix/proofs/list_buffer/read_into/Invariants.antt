-- The front of the buffer was read, and no list ends in it.
use Rattle.std.proofs.Common.{◌≡◌, ◌≤◌, ◌-◌, length, take}
use Rattle.std.specs.Io.KnownBytes.{Consumes, Keeps}
use Rattle.dsn_postfix.specs.ListBuffer.{RoomAfterBytes, longest_list}
use Rattle.dsn_postfix.specs.inner.ListState.{step_over}
use Rattle.dsn_postfix.specs.declared.list_state.ListState.TheVariants.{Front}
use Rattle.dsn_postfix.specs.declared.list_state.ListStep.TheVariants.{Within}
use Rattle.dsn_postfix.proofs.list_buffer.read_into.Given as goal

abbrev pub invariant-loop-filled : goal.invariant-loop-filled
invariant-loop-filled g l = record {
  in_range : l.filled ≤ length l.bytes.items;
  bounded : length l.bytes.items ≤ longest_list;
  consumed : Consumes (g.S.Source.remaining l.initial.source) (g.S.Source.remaining l.source) (take l.filled l.bytes.items);
  scanned : step_over Front (take l.filled l.bytes.items) ≡ Within l.place;
  room : RoomAfterBytes l.filled (length l.initial.bytes.items) (length l.bytes.items);
  held : Keeps (g.S.Source.holds l.initial.source) (g.S.Source.holds l.source);
  no_flush : g.S.Source.flushes l.source ≡ g.S.Source.flushes l.initial.source;
  count : g.S.Source.failures l.source ≡ g.S.Source.failures l.initial.source;
  steady : g.S.Source.steady l.initial.source → g.S.Source.steady l.source;
}

abbrev pub decreases-loop-filled : goal.decreases-loop-filled
decreases-loop-filled g l = longest_list - l.filled
