-- The results of some agents are put together, and there is room for the others.
use Rattle.std.proofs.Common.{◌≡◌, ◌+◌, ◌≤◌, false, length, vec_capacity}
use Rattle.std.specs.Prelude.{is_none, is_some}
use Rattle.std.specs.Vec.Iter.{into_iter_items}
use Rattle.dsn_crew.specs.inner.Gathered.{has_port_lost}
use Rattle.dsn_crew.proofs.GatheredLemmas.{EndedSoFar, FoundSoFar}
use Rattle.dsn_crew.proofs.gathered.gather.Given as goal

abbrev pub invariant-loop-end : goal.invariant-loop-end
invariant-loop-end l = record {
  iterator : goal.iterator-loop-end.can_next l.end-iterator × goal.iterator-loop-end.is_finite l.end-iterator;
  lines : length l.lines.items + length (into_iter_items l.end-iterator) ≤ vec_capacity l.lines;
  agents : length l.agents.items + length (into_iter_items l.end-iterator) ≤ vec_capacity l.agents;
  missing : FoundSoFar is_none l.fn.ends.items (into_iter_items l.end-iterator) l.missing;
  lost : FoundSoFar has_port_lost l.fn.ends.items (into_iter_items l.end-iterator) (is_some l.lost);
  ended : is_some l.lost ≡ false → l.missing ≡ false → EndedSoFar l.fn.ends.items (into_iter_items l.end-iterator) l.lines.items l.agents.items;
}
