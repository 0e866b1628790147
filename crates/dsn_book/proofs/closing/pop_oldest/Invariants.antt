-- The closings that are passed over have no keys.
use Rattle.std.proofs.Common.{◌≡◌, length}
use Rattle.std.specs.VecDeque.{deque_capacity}
use Rattle.dsn_book.specs.Closing.{keys_closed}
use Rattle.dsn_book.proofs.closing.pop_oldest.Given as goal

abbrev pub invariant-loop-closing : goal.invariant-loop-closing
invariant-loop-closing l =
    (keys_closed l.closings.items ≡ keys_closed l.initial.closings.items) × (deque_capacity l.closings ≡ deque_capacity l.initial.closings)

abbrev pub decreases-loop-closing : goal.decreases-loop-closing
decreases-loop-closing l = length l.closings.items
