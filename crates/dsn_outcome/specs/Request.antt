-- Requests of a delivery agent.
use Rattle.std.specs.Prelude.{ℕ, List, Option, Some, None}
use Rattle.dsn_outcome.specs.Draft.{Draft}
use Rattle.dsn_outcome.specs.Outcome.{Outcome}
use Rattle.dsn_text.specs.declared.key.Key.{Key}

-- log this outcome of the message with this queue id; seal this log and make its notice; drop this
-- log; release this key; the agent leaves
pub data Body : Type 0 where
  Append : List ℕ → Outcome → Body
  Flush : Key → Draft → Body
  Discard : Key → Body
  Forget : Key → Body
  Bye : Body

-- the key that a body is about; the service of an append is its outcome's; Bye has no key
abbrev pub key_of : Body → Option Key
key_of (Append id outcome) = Some (record { service = outcome.service; id = id })
key_of (Flush key draft) = Some key
key_of (Discard key) = Some key
key_of (Forget key) = Some key
key_of Bye = None

-- the number of outcomes that a body expects, if it expects one
abbrev pub expected_by : Body → Option ℕ
expected_by (Append id outcome) = None
expected_by (Flush key draft) = draft.expected
expected_by (Discard key) = None
expected_by (Forget key) = None
expected_by Bye = None

-- a request of an agent; its number is how many requests of that agent came before it
pub record Request : Type 0 where
  pub agent : ℕ
  pub number : ℕ
  pub body : Body
