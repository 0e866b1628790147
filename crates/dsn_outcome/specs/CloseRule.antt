-- The close rule: the properties of a key that is closed, until it is forgotten (this project's
-- profile).
use Rattle.std.specs.Prelude.{◌≡◌, ◌≢◌, false, List, [], ◌∷◌, ◌++◌, Some}
use Rattle.std.specs.List.{list_any, AllByRecursion}
use Rattle.dsn_outcome.specs.History.{Limits, Exchange, IsClosed, forgets, is_forget, log_of, held_keys, reply_to, exchange_of, history_after, sealed_letters}
use Rattle.dsn_outcome.specs.Request.{Request, Body, Forget, key_of}
use Rattle.dsn_outcome.specs.declared.answer.Reply.TheVariants.{Closed}
use Rattle.dsn_text.specs.declared.key.Key.{Key}

-- the key is closed after any further exchanges, if none of them forgets it
abbrev pub StaysClosed : Key → List Exchange → Type 0
StaysClosed key history =
    (more : List Exchange) → list_any (forgets key) more ≡ false → IsClosed key (history ++ more)

-- a body about the key, other than a Forget
pub record Uses (key : Key) (body : Body) : Type 0 where
  pub about : key_of body ≡ Some key
  pub keeps : is_forget body ≡ false

-- the next request is answered Closed if it uses the key
abbrev pub AnswersClosed : Limits → Key → List Exchange → Type 0
AnswersClosed limits key history =
    (request : Request) → Uses key request.body → reply_to limits history request ≡ Closed

-- the next request adds nothing to the key's log, unless it is a Forget of the key
abbrev pub TakesNoOutcome : Limits → Key → List Exchange → Type 0
TakesNoOutcome limits key history =
    (request : Request) → request.body ≢ Forget key →
    log_of key (history ++ exchange_of limits history request ∷ []) ≡ log_of key history

-- no sequence of requests without a Forget of the key adds anything to its log
abbrev pub TakesNoOutcomeUntilForgotten : Limits → Key → List Exchange → Type 0
TakesNoOutcomeUntilForgotten limits key history =
    (requests : List Request) → AllByRecursion (λ request. request.body ≢ Forget key) requests →
    log_of key (history_after limits history requests) ≡ log_of key history

-- the next request leaves every log unchanged if it uses the key
abbrev pub LeavesEveryLog : Limits → Key → List Exchange → Type 0
LeavesEveryLog limits key history =
    (request : Request) → Uses key request.body →
    (other : Key)
    → log_of other (history ++ exchange_of limits history request ∷ []) ≡ log_of other history

-- the next request leaves the held keys unchanged if it uses the key
abbrev pub LeavesHeldKeys : Limits → Key → List Exchange → Type 0
LeavesHeldKeys limits key history =
    (request : Request) → Uses key request.body →
    held_keys (history ++ exchange_of limits history request ∷ []) ≡ held_keys history

-- the next request leaves the sealed letters unchanged if it is about the key
abbrev pub LeavesSealedLetters : Limits → Key → List Exchange → Type 0
LeavesSealedLetters limits key history =
    (request : Request) → key_of request.body ≡ Some key →
    sealed_letters (history ++ exchange_of limits history request ∷ []) ≡ sealed_letters history
