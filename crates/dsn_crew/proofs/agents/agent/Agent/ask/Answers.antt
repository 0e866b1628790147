-- The agent after an ask that was answered, and after one that was not.
use Rattle.std.proofs.Common.{rules}
use Rattle.dsn_outcome.specs.History.{replied_in}
use Rattle.dsn_crew.proofs.agents.AgentLemmas.{asked_more, lost_more}
use Rattle.dsn_crew.proofs.agents.agent.Agent.ask.Goals as goal

pub invariant_of-self : goal.invariant_of-self
invariant_of-self g c = asked_more _ _ _ (replied_in c.in-Ok.answer) c.self.invariant c.requires.stays (search rules) c.in-Ok.ensures.1

pub invariant_of-self-in-Err : goal.invariant_of-self-in-Err
invariant_of-self-in-Err g c = lost_more _ _ _ c.in-Err.field-0.body c.self.invariant c.requires.stays (search rules) c.in-Err.ensures

pub returns-in-Ok-clause-kept : goal.returns-in-Ok-clause-kept
returns-in-Ok-clause-kept g c = invariant_of-self g c

pub returns-in-Err-clause-kept : goal.returns-in-Err-clause-kept
returns-in-Err-clause-kept g c = invariant_of-self-in-Err g c
