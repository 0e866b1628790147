-- What was taken and what waits is what the halves have sent.
use Rattle.dsn_crew.proofs.lane.CloseLemmas.{shuts}
use Rattle.dsn_crew.proofs.lane.close.close_lane.Goals as goal

pub overflow_sub-result : goal.overflow_sub-result
overflow_sub-result g c =
    (shuts g.T.Carried.agent g.T.Carried.number c.out.inside.pass _ _ _ _ c.out.invariant.2 c.take_all_back-sent.ensures.settled c.out.view_is c.requires.all c.take_all_back-sent.ensures.sent c.take_all_back-sent.type_inv).below

pub returns-clause-taken : goal.returns-clause-taken
returns-clause-taken g c =
    (shuts g.T.Carried.agent g.T.Carried.number c.out.inside.pass _ _ _ _ c.out.invariant.2 c.take_all_back-sent.ensures.settled c.out.view_is c.requires.all c.take_all_back-sent.ensures.sent c.take_all_back-sent.type_inv).taken

pub returns-clause-waiting : goal.returns-clause-waiting
returns-clause-waiting g c =
    (shuts g.T.Carried.agent g.T.Carried.number c.out.inside.pass _ _ _ _ c.out.invariant.2 c.take_all_back-sent.ensures.settled c.out.view_is c.requires.all c.take_all_back-sent.ensures.sent c.take_all_back-sent.type_inv).total

pub returns-clause-capacity : goal.returns-clause-capacity
returns-clause-capacity g c =
    (shuts g.T.Carried.agent g.T.Carried.number c.out.inside.pass _ _ _ _ c.out.invariant.2 c.take_all_back-sent.ensures.settled c.out.view_is c.requires.all c.take_all_back-sent.ensures.sent c.take_all_back-sent.type_inv).capacity

pub returns-clause-prefix : goal.returns-clause-prefix
returns-clause-prefix g c =
    (shuts g.T.Carried.agent g.T.Carried.number c.out.inside.pass _ _ _ _ c.out.invariant.2 c.take_all_back-sent.ensures.settled c.out.view_is c.requires.all c.take_all_back-sent.ensures.sent c.take_all_back-sent.type_inv).prefix

pub returns-clause-accepted : goal.returns-clause-accepted
returns-clause-accepted g c =
    (shuts g.T.Carried.agent g.T.Carried.number c.out.inside.pass _ _ _ _ c.out.invariant.2 c.take_all_back-sent.ensures.settled c.out.view_is c.requires.all c.take_all_back-sent.ensures.sent c.take_all_back-sent.type_inv).accepted
