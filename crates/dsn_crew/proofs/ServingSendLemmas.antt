-- What an agent's thread is given may go to it.
use Rattle.std.proofs.Common.{List, [], ◌∷◌}
use mir.Syntax.{Sym}
use denote.Param.{param}
use denote.Param.Send.{IsSend, IsSync, sendable}
use denote.RattleType.{RattleType}
use denote.Ref.{NamedLft, ShrRef}
use denote.Struct.Tuple.{TupleAt}
use Rattle.std.specs.contracts.alloc.Global as Global
use Rattle.dsn_crew.proofs.LaneSendLemmas.{closure_send}
use Rattle.dsn_crew.specs.contracts.agents.agent.Agent as Agent
use Rattle.dsn_crew.proofs.SendLemmas.{agent_send, global_send}

-- what the closure holds: the runtime, the allocator, the agent, its port, and the gate
abbrev pub captured : NamedLft → NamedLft → RattleType → RattleType → RattleType → List RattleType
captured r g R P G = ShrRef r.mir r.lft (param 1 R) ∷ Global.the_row ∷ Agent.the_row ∷ param 2 P ∷ ShrRef g.mir g.lft (param 3 G) ∷ []

borrowed_send : (r : NamedLft) (n : _) (R : RattleType) → IsSync (param n R) → IsSend (ShrRef r.mir r.lft (param n R))
borrowed_send r n R sync = search (sync, sendable) depth 20

pub serving_send : (ν : Sym) (r g : NamedLft) (R P G : RattleType) → IsSync (param 1 R) → IsSend (param 2 P) → IsSync (param 3 G) → IsSend (TupleAt ν (captured r g R P G))
serving_send ν r g R P G sync send gated = closure_send ν (captured r g R P G) (borrowed_send r 1 R sync, (global_send, (agent_send, (send, (borrowed_send g 3 G gated, tt)))))
