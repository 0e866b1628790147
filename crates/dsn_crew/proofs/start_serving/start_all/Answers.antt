-- Each agent's thread, or none, is added at the end.
use Rattle.std.proofs.Common.{rules, All, ap, ◌∙◌, subst, length, length-append, ◌∷◌, [], arith}
use Rattle.std.proofs.lemmas.List.Elements.{All-head, All-rest}
use Rattle.dsn_crew.proofs.StartServingLemmas.{Fits, completes-more, completes-all, starts-more, starts-end}
use Rattle.dsn_crew.proofs.start_serving.start_all.Goals as goal

pub loop-agent-preserved : goal.loop-agent-preserved
loop-agent-preserved g c =
    let agents = ap length c.in-Some.ensures.steps.0 in
    let ports = ap length c.in-Some-next.ensures.items in
    let pairs = c.loop-agent.invariant.pairs in record {
      iterator = (tt, tt);
      pairs = omega arith;
      len = (let before = c.loop-agent.invariant.len in let one = c.in-Some-next.ensures.len in omega arith);
      asked = All-rest g.P.Port.may_be_asked c.in-Some-next.port _ _ c.in-Some-next.ensures.items c.loop-agent.invariant.asked;
      room = (let before = c.loop-agent.invariant.room in let one = ap length c.push_reserved.ensures.items ∙ length-append c.loop-agent.handles.items (c.start_one.result ∷ []) in let same = c.push_reserved.ensures.capacity in omega arith);
      started = completes-more (Fits {P = g.row.P.Denot}) _ _ _ _ _ c.start_one.result (starts-more _ _ _ _ c.in-Some.agent c.in-Some-next.port _ c.start_one.result c.in-Some.ensures.steps.0 c.in-Some-next.ensures.items c.start_one.ensures (cc)) c.push_reserved.ensures.items c.loop-agent.invariant.started;
    }

pub start_one-requires-clause-asked : goal.start_one-requires-clause-asked
start_one-requires-clause-asked g c κs within =
    let first = All-head g.P.Port.may_be_asked c.in-Some-next.port _ (subst (All g.P.Port.may_be_asked) c.in-Some-next.ensures.items c.loop-agent.invariant.asked) in subst g.P.Port.may_be_asked (cc) first

pub returns : goal.returns
returns g c = completes-all (Fits {P = g.row.P.Denot}) _ _ _ (starts-end _ _ (search rules) c.loop-agent.invariant.pairs) c.loop-agent.invariant.started
