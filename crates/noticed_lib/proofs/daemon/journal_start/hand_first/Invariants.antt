-- The letters before the rest were passed on.
use Rattle.std.proofs.Common.{◌≡◌, List, ◌++◌}
use Rattle.std.specs.Vec.Iter.{into_iter_items}
use Rattle.dsn_outcome.specs.Letter.{Letter}
use Rattle.noticed_lib.proofs.daemon.journal_start.hand_first.Given as goal

abbrev pub invariant-loop-letter : goal.invariant-loop-letter
invariant-loop-letter g l = record {
  done : List Letter;
  split : l.fn.letters.items ≡ done ++ into_iter_items l.letter-iterator;
  posted : (start : g.row.O.Denot) (before : List Letter) → g.O.Outlet.posted start before l.fn.outlet
      → g.O.Outlet.posted start (before ++ done) l.outlet;
}
