-- The result of a thread is added at the end.
use Rattle.std.proofs.Common.{rules, ap, ◌∙◌, length, length-append, ◌∷◌, [], arith}
use Rattle.std.specs.List.{AllZip}
use Rattle.dsn_crew.specs.inner.StartServing.{IsJoined}
use Rattle.dsn_crew.proofs.StartServingLemmas.{completes-more, completes-all, pairs-more, pairs-end}
use Rattle.dsn_crew.proofs.start_serving.join_all.Goals as goal

pub loop-handle-preserved : goal.loop-handle-preserved
loop-handle-preserved g c = record {
  iterator = (tt, tt);
  room = (let before = c.loop-handle.invariant.room in let long = ap length c.in-Some.ensures.steps.0 in let one = ap length c.push_reserved.ensures.items ∙ length-append c.loop-handle.ends.items (c.join_one.result ∷ []) in let same = c.push_reserved.ensures.capacity in omega arith);
  joined = completes-more (AllZip (IsJoined g.P.Port)) _ _ _ _ _ c.join_one.result (pairs-more (IsJoined g.P.Port) _ _ c.in-Some.handle c.join_one.result c.in-Some.ensures.steps.0 c.join_one.ensures) c.push_reserved.ensures.items c.loop-handle.invariant.joined;
}

pub returns : goal.returns
returns g c = completes-all (AllZip (IsJoined g.P.Port)) _ _ _ (pairs-end (IsJoined g.P.Port) _ (search rules)) c.loop-handle.invariant.joined
