-- The letters that came so far were passed on.
use Rattle.std.proofs.Common.{◌≡◌, ◌+◌, ◌≤◌, List, [], ◌++◌, length}
use Rattle.dsn_outcome.specs.Letter.{Letter}
use Rattle.dsn_crew.proofs.post.posting.post_all.Given as goal

abbrev pub invariant-loop : goal.invariant-loop
invariant-loop g l =
    (l.source.lane ≡ l.fn.source.lane)
    × (l.handed ≡ length l.source.letters)
    × ((start : g.row.O.Denot) (first : List Letter)
    → g.O.Outlet.posted start first l.fn.outlet
    → g.O.Outlet.posted start (first ++ l.source.letters) l.outlet)
    × (g.O.Outlet.unsent l.outlet ≤ g.O.Outlet.unsent l.fn.outlet + length l.source.letters)
    × (l.source.letters ≡ [] → (left : g.row.O-Left.Denot) → g.O.Outlet.untouched l.outlet left → g.O.Outlet.untouched l.fn.outlet left)
