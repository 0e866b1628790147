-- Starts and ends of the agents' threads, one after another.
use Rattle.std.proofs.Common.{◌≡◌, suc, List, [], ◌∷◌, ◌++◌, length, refl, ap, sym, subst, ◌∙◌, append_assoc}
use Rattle.std.specs.Prelude.{Option, Some, None, IfSome}
use Rattle.std.specs.List.{AllZip}
use Rattle.std.specs.declared.thread.PromisedHandle.{PromisedHandle}
use Rattle.std.proofs.lemmas.List.{append-nil, nil_from_length}
use Rattle.dsn_crew.specs.agents.Agent.{Agent}
use Rattle.dsn_crew.specs.inner.Agent.{IsPortServed}
use Rattle.dsn_crew.specs.inner.StartServing.{AreServed, AreStarted, IsStarted, IsJoined}
use Rattle.dsn_crew.specs.declared.agents.port.Port.{Ghosts as Port}
use Rattle.dsn_crew.specs.inner.PortEnd.{PortEnd}
use Rattle.dsn_crew.specs.declared.start_serving.Serves.{Serves}

-- ---- results that are made one after another

-- these results, with any that fit what is left, fit the whole
abbrev pub Completes : {X B : Type 0} → (X → List B → Type 0) → X → X → List B → Type 0
Completes {X} {B} fits whole left done = (more : List B) → fits left more → fits whole (done ++ more)

module _ {X B : Type 0} (fits : X → List B → Type 0) (whole : X) where
  pub completes-more : (left then : X) (done new : List B) (one : B) → ((more : List B) → fits then more → fits left (one ∷ more)) → new ≡ done ++ one ∷ [] → Completes fits whole left done → Completes fits whole then new
  completes-more left then done new one step is so_far = λ more fit.
      subst (λ l. fits whole (l ++ more)) (sym is) (subst (fits whole) (sym (append_assoc done (one ∷ []) more)) (so_far (one ∷ more) (step more fit)))

  pub completes-all : (left : X) (done : List B) → fits left [] → Completes fits whole left done → fits whole done
  completes-all left done fit so_far = subst (fits whole) (append-nil done) (so_far [] fit)

-- pairs, one after another
pub pairs-more : {A B : Type 0} (R : A → B → Type 0) (left then : List A) (x : A) (y : B) → left ≡ x ∷ then → R x y → (more : List B) → AllZip R then more → AllZip R left (y ∷ more)
pairs-more R left then x y is related more pairs = subst (λ l. AllZip R l (y ∷ more)) (sym is) (related, pairs)

pub pairs-end : {A B : Type 0} (R : A → B → Type 0) (left : List A) → length left ≡ 0 → AllZip R left []
pairs-end R left none = subst (λ l. AllZip R l []) (sym (nil_from_length left none)) tt

-- agents and their ports, which wait for threads
module _ {P : Type 0} where
  abbrev pub Fits : List Agent × List P → List (Option (PromisedHandle PortEnd (Serves P))) → Type 0
  Fits both handles = AreStarted both.0 both.1 handles

  -- a thread that was started with the port in its place
  pub starts-more : (agents rest : List Agent) (ports left : List P) (agent : Agent) (port given : P) (handle : Option (PromisedHandle PortEnd (Serves P))) → agents ≡ agent ∷ rest → ports ≡ port ∷ left → IfSome handle (λ started. IsStarted agent given started.promise) → given ≡ port
      → (more : List (Option (PromisedHandle PortEnd (Serves P)))) → AreStarted rest left more → AreStarted agents ports (handle ∷ more)
  starts-more agents rest ports left agent port given handle agents_are ports_are begun given_is more started =
      subst (λ l. AreStarted l ports (handle ∷ more)) (sym agents_are) (subst (λ l. AreStarted (agent ∷ rest) l (handle ∷ more)) (sym ports_are) (rw given_is at begun, started))

  -- as many threads as agents, those counted that there are not
  pub starts-length : (agents : List Agent) (ports : List P) (handles : List (Option (PromisedHandle PortEnd (Serves P)))) → AreStarted agents ports handles → length handles ≡ length agents
  starts-length [] [] [] started = refl
  starts-length [] [] (handle ∷ handles) started = absurd started
  starts-length [] (port ∷ ports) handles started = absurd started
  starts-length (agent ∷ agents) [] handles started = absurd started
  starts-length (agent ∷ agents) (port ∷ ports) [] started = absurd started
  starts-length (agent ∷ agents) (port ∷ ports) (handle ∷ handles) started = ap (λ n. suc n) (starts-length agents ports handles started.1)

  pub starts-end : (agents : List Agent) (ports : List P) → length agents ≡ 0 → length ports ≡ length agents → AreStarted agents ports []
  starts-end agents ports none pairs =
      subst (λ l. AreStarted l ports []) (sym (nil_from_length agents none)) (subst (λ l. AreStarted [] l []) (sym (nil_from_length ports (pairs ∙ none))) tt)

-- ---- the results of the threads

module _ {P S : Type 0} (port : Port P S) where
  end-of : (agent : Agent) (served : P) (handle : Option (PromisedHandle PortEnd (Serves P))) (end : Option PortEnd) → IfSome handle (λ started. IsStarted agent served started.promise) → IsJoined port handle end
      → IfSome end (IsPortServed (port.conns served) (port.may_give served) agent)
  end-of agent served None None begun joined = tt
  end-of agent served None (Some end) begun joined = absurd (let never : Some end ≡ None = joined in cc)
  end-of agent served (Some handle) None begun joined = absurd joined
  end-of agent served (Some handle) (Some end) begun joined = subst (λ of. IsPortServed (port.conns served) (port.may_give served) of end) begun.0 (subst (λ of. IsPortServed (port.conns of) (port.may_give of) handle.promise.agent.value end) begun.1 joined)

  -- threads that were started, and then joined: each agent that had one served its port
  pub are-served : (agents : List Agent) (ports : List P) (handles : List (Option (PromisedHandle PortEnd (Serves P)))) (ends : List (Option PortEnd)) → AreStarted agents ports handles → AllZip (IsJoined port) handles ends
      → AreServed port agents ports ends
  are-served [] [] [] [] started joined = tt
  are-served [] [] [] (end ∷ ends) started joined = absurd joined
  are-served [] [] (handle ∷ handles) ends started joined = absurd started
  are-served [] (served ∷ ports) handles ends started joined = absurd started
  are-served (agent ∷ agents) [] handles ends started joined = absurd started
  are-served (agent ∷ agents) (served ∷ ports) [] ends started joined = absurd started
  are-served (agent ∷ agents) (served ∷ ports) (handle ∷ handles) [] started joined = absurd joined
  are-served (agent ∷ agents) (served ∷ ports) (handle ∷ handles) (end ∷ ends) started joined = (end-of agent served handle end started.0 joined.0, are-served agents ports handles ends started.1 joined.1)
