-- The threads of some agents are started; the ports of the others are left, and there is room for their threads.
use Rattle.std.proofs.Common.{All, ◌≡◌, ◌+◌, ◌≤◌, length, vec_capacity}
use Rattle.std.specs.Vec.Iter.{into_iter_items, into_iter_len}
use Rattle.dsn_crew.proofs.StartServingLemmas.{Completes, Fits}
use Rattle.dsn_crew.proofs.start_serving.start_all.Given as goal

abbrev pub invariant-loop-agent : goal.invariant-loop-agent
invariant-loop-agent g l = record {
  iterator : (goal.iterator-loop-agent g).can_next l.agent-iterator × (goal.iterator-loop-agent g).is_finite l.agent-iterator;
  pairs : length (into_iter_items l.ports) ≡ length (into_iter_items l.agent-iterator);
  len : into_iter_len l.ports ≡ length (into_iter_items l.ports);
  asked : All g.P.Port.may_be_asked (into_iter_items l.ports);
  room : length l.handles.items + length (into_iter_items l.agent-iterator) ≤ vec_capacity l.handles;
  started : Completes (Fits {P = g.row.P.Denot}) (l.fn.agents.items, l.fn.ports.items) (into_iter_items l.agent-iterator, into_iter_items l.ports) l.handles.items;
}
