-- Of private parts: starts of the agents' threads, and their results once they are joined. What a
-- whole run says of its agents is `AreServed`: it follows from `AreStarted`, of all starts, and
-- `IsJoined`, of each thread that is waited for. `missing_threads` is how many agents had no
-- thread.
use Rattle.std.specs.Prelude.{◌≡◌, ℕ, List, [], ◌∷◌, length, filter, Option, Some, None, is_none, IfSome}
use Rattle.std.specs.declared.thread.PromisedHandle.{PromisedHandle}
use Rattle.dsn_crew.specs.agents.Agent.{Agent}
use Rattle.dsn_crew.specs.inner.Agent.{IsPortServed}
use Rattle.dsn_crew.specs.declared.agents.port.Port.{Ghosts as Port}
use Rattle.dsn_crew.specs.inner.PortEnd.{PortEnd}
use Rattle.dsn_crew.specs.declared.start_serving.Serves.{Serves}

-- the thread was started with this agent and this port
abbrev pub IsStarted : {P : Type 0} → Agent → P → Serves P → Type 0
IsStarted agent port promise = (promise.agent.value ≡ agent) × (promise.port.value ≡ port)

-- each agent's thread, if there is one, was started with the agent and with the port in its place
abbrev pub AreStarted : {P : Type 0} → List Agent → List P
    → List (Option (PromisedHandle PortEnd (Serves P))) → Type 0
AreStarted [] [] [] = Unit {0}
AreStarted (agent ∷ agents) (port ∷ ports) (handle ∷ handles) =
    IfSome handle (λ started. IsStarted agent port started.promise)
    × AreStarted agents ports handles
AreStarted agents ports handles = ⊥

-- how many threads are missing
abbrev pub missing_threads : {H : Type 0} → List (Option H) → ℕ
missing_threads handles = length (filter is_none handles)

-- the result of a thread, if there was one: what its promise says
abbrev pub IsJoined : {P S : Type 0} → Port P S → Option (PromisedHandle PortEnd (Serves P))
    → Option PortEnd → Type 0
IsJoined port None end = end ≡ None
IsJoined port (Some handle) None = ⊥
IsJoined port (Some handle) (Some end) =
    IsPortServed (port.conns handle.promise.port.value) (port.may_give handle.promise.port.value)
    handle.promise.agent.value end

-- the result of each agent with the port in its place: the service of that port, if there was a
-- thread
abbrev pub AreServed : {P S : Type 0} → Port P S → List Agent → List P → List (Option PortEnd)
    → Type 0
AreServed port [] [] [] = Unit {0}
AreServed port (agent ∷ agents) (served ∷ ports) (end ∷ ends) =
    IfSome end (IsPortServed (port.conns served) (port.may_give served) agent) × AreServed port agents ports ends
AreServed port agents ports ends = ⊥
