-- The receiving half has taken some halves back; with those that are left it will have taken all.
use Rattle.std.proofs.Common.{◌≡◌, ◌+◌, ◌*◌, ◌≤◌, All, length}
use Rattle.std.specs.List.{sum_by}
use Rattle.std.specs.Vec.Iter.{into_iter_items, into_iter_len}
use Rattle.crossbeam_channel.specs.Claims.{view, IsSeatAt}
use Rattle.crossbeam_channel.specs.Ends.{sends_on}
use Rattle.dsn_crew.specs.declared.lane.lane_knowledge.LaneKnowledge.TheVariants.{Takes}
use Rattle.dsn_crew.specs.lane.Halves.{Half}
use Rattle.dsn_crew.specs.inner.Halves.{capacity_of, lane_at, taking}
use Rattle.dsn_crew.proofs.lane.CloseLemmas.{after_joins}
use Rattle.dsn_crew.proofs.lane.close.take_all_back.Given as goal

abbrev pub invariant-loop-half : goal.invariant-loop-half
invariant-loop-half g l = record {
  iterator : (goal.iterator-loop-half g).can_next l.half-iterator × (goal.iterator-loop-half g).is_finite l.half-iterator;
  seat : IsSeatAt (sends_on l.sender) l.pass;
  receiver : view l.pass ≡ Takes (capacity_of (view l.initial.pass)) (taking (view l.pass));
  joined : after_joins (view l.pass) (into_iter_items l.half-iterator) ≡ after_joins (view l.initial.pass) (into_iter_items l.initial.half-iterator);
  lanes : All (λ (half : Half g.row.T.Denot). half.lane ≡ lane_at (sends_on l.sender)) (into_iter_items l.half-iterator);
  total :
      l.sent + sum_by (λ (half : Half g.row.T.Denot). length half.sent) (into_iter_items l.half-iterator)
      ≡ l.initial.sent + sum_by (λ (half : Half g.row.T.Denot). length half.sent) (into_iter_items l.initial.half-iterator);
  few : l.sent + into_iter_len l.half-iterator * 4294967295 ≤ 68719476720;
}
