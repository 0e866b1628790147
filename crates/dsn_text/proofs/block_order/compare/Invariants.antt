-- The words before this one are equal, so the bytes from here on decide.
use Rattle.std.proofs.Common.{◌≡◌, ◌*◌, drop}
use Rattle.std.specs.Cmp.Lexicographic.{slice_cmp}
use Rattle.std.specs.Ordering.{nat_cmp}
use Rattle.dsn_text.proofs.block_order.compare.Given as goal

abbrev pub invariant-loop-number : goal.invariant-loop-number
invariant-loop-number l =
    slice_cmp nat_cmp l.left l.right ≡ slice_cmp nat_cmp (drop (l.number * 8) l.left) (drop (l.number * 8) l.right)
