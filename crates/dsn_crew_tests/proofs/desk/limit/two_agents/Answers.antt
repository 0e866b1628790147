-- The thread's closure holds the runtime, the allocator and both agents; it gives what they were answered.
use Rattle.std.proofs.Common.{[], ◌∷◌}
use mir.Syntax.{named}
use denote.Exit.{no}
use denote.Ref.{ShrRef}
use denote.Param.{param}
use denote.Param.Send.{IsSend, param_send, param_sync, arg_send, shr_send, sendable}
use Rattle.std.proofs.Crossing.{crosses}
use Rattle.std.proofs.option.Option.TheSendSync as option
use Rattle.std.specs.contracts.alloc.Global as Global
use Rattle.dsn_crew.proofs.LaneSendLemmas.{closure_send}
use Rattle.dsn_crew.proofs.SendLemmas.{agent_send, finished_send}
use Rattle.dsn_crew.specs.contracts.agents.agent.Agent as Agent
use Rattle.dsn_crew_tests.specs.contracts.desk.limit.Seen as Seen
use Rattle.dsn_crew_tests.proofs.desk.limit.two_agents.Goals as goal

global_send : IsSend Global.the_row
global_send = search sendable depth 20

seen_send : IsSend Seen.the_row
seen_send = search (finished_send, crosses, sendable) depth 20

pub join-seen-requires-send-F : goal.join-seen-requires-send-F
join-seen-requires-send-F g c κs within =
    param_send 1 _ (arg_send _ no _ (closure_send _ (ShrRef (named 2) κs.1.1.0 (param 0 g.row.R) ∷ Global.the_row ∷ Agent.the_row ∷ Agent.the_row ∷ [])
    (shr_send _ _ _ (param_sync 0 _ c.type_bounds.sync-R), (global_send, (agent_send, (agent_send, tt))))))

pub join-seen-requires-send-A : goal.join-seen-requires-send-A
join-seen-requires-send-A g c κs within = param_send 3 _ (arg_send _ no _ (option.the_send Seen.the_row seen_send))
