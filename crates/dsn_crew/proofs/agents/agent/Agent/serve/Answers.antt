use Rattle.std.proofs.Common.{rules, refl, sym}
use Rattle.dsn_crew.proofs.agents.ServedLemmas.{answered-nothing, kept-as, served-all}
use Rattle.dsn_crew.proofs.agents.agent.Agent.serve.Goals as goal

pub returns-clause-served : goal.returns-clause-served
returns-clause-served g c =
    let kept = rw c.self.view_is at c.self.invariant in
    let run = c.run_session.ensures (refl, refl, kept, answered-nothing g.S.Source g.S.Drain _ _) in
    served-all g.S.Source g.S.Drain _ _ _ _ _ _ _ run.frames run.bodies run.answers
    (search (rules, sym run.left.0)) (search (rules, sym run.left.1)) run.session run.answered run.left.3

pub returns-clause-kept : goal.returns-clause-kept
returns-clause-kept g c =
    let kept = rw c.self.view_is at c.self.invariant in
    let run = c.run_session.ensures (refl, refl, kept, answered-nothing g.S.Source g.S.Drain _ _) in
    kept-as _ _ (search (rules, sym run.left.0)) run.left.2
