-- The bytes so far are shown.
use Rattle.std.proofs.Common.{◌≡◌, ◌+◌, ◌∷◌, take, map, length}
use Rattle.dsn_report.specs.inner.NoticeLines.{byte_shown}
use Rattle.dsn_report.proofs.returned_lines.show_line.Given as goal

abbrev pub invariant-loop-index : goal.invariant-loop-index
invariant-loop-index l = record {
  room : length l.shown ≡ 1001;
  so_far : take (l.index + 1) l.shown ≡ 46 ∷ map (byte_shown l.whole) (take l.index (take l.len l.line));
}
