-- Some threads are joined; there is room for the results of the others.
use Rattle.std.proofs.Common.{◌+◌, ◌≤◌, length, vec_capacity}
use Rattle.std.specs.List.{AllZip}
use Rattle.std.specs.Vec.Iter.{into_iter_items}
use Rattle.dsn_crew.specs.inner.StartServing.{IsJoined}
use Rattle.dsn_crew.proofs.StartServingLemmas.{Completes}
use Rattle.dsn_crew.proofs.start_serving.join_all.Given as goal

abbrev pub invariant-loop-handle : goal.invariant-loop-handle
invariant-loop-handle g l = record {
  iterator : (goal.iterator-loop-handle g).can_next l.handle-iterator × (goal.iterator-loop-handle g).is_finite l.handle-iterator;
  room : length l.ends.items + length (into_iter_items l.handle-iterator) ≤ vec_capacity l.ends;
  joined : Completes (AllZip (IsJoined g.P.Port)) l.fn.handles.items (into_iter_items l.handle-iterator) l.ends.items;
}
