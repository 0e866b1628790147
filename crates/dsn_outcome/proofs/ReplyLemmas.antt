-- Replies: only a Forget of a key forgets it.
use Rattle.std.proofs.Common.{◌≡◌, Bool, true, false, not, ◌&&◌, ◌==◌, cond, List, length, refl, ap, sym, ◌∙◌}
use Rattle.std.specs.Prelude.{◌≢◌, Option, Some, None, is_none}
use Rattle.std.specs.Option.{option_map_or}
use Rattle.dsn_outcome.proofs.HistoryLemmas.{and_false}
use Rattle.dsn_text.proofs.KeyLemmas.{same_key-equal}
use Rattle.dsn_outcome.specs.Draft.{differs}
use Rattle.dsn_outcome.specs.History.{Limits, Exchange, is_closed, is_forgotten, is_forget, forgets, is_empty, is_held, held_keys, log_of, reply_when_open, reply_about, reply_to, exchange_of}
use Rattle.dsn_text.specs.Key.{same_key}
use Rattle.dsn_outcome.specs.Outcome.{Outcome}
use Rattle.dsn_outcome.specs.Request.{Request, Body, Append, Flush, Discard, Forget, Bye, key_of, expected_by}
use Rattle.dsn_outcome.specs.declared.answer.Reply.{Reply}
use Rattle.dsn_outcome.specs.declared.answer.Reply.TheVariants.{Logged, Closed, TableFull, LogFull, Nothing, NoReturn, Sealed, Differs}
use Rattle.dsn_text.specs.declared.key.Key.{Key}

either-keeps : (b : Bool) (first second : Reply) → is_forgotten first ≡ false → is_forgotten second ≡ false → is_forgotten (cond b first second) ≡ false
either-keeps true first second f s = f
either-keeps false first second f s = s

-- no reply about an open log forgets its key
pub when_open-keeps : (limits : Limits) (log : List Outcome) (body : Body) → is_forgotten (reply_when_open limits log body) ≡ false
unfolding reply_when_open is_forgotten
when_open-keeps limits log (Append id outcome) = either-keeps (length log == limits.entries) LogFull (Logged (length log)) refl refl
when_open-keeps limits log (Flush key draft) =
    either-keeps (differs draft.expected (length log)) (Differs (length log))
    (cond (is_empty log) Nothing (cond (is_none draft.return_path) (NoReturn (length log)) (Sealed (length log)))) refl
    (either-keeps (is_empty log) Nothing (cond (is_none draft.return_path) (NoReturn (length log)) (Sealed (length log))) refl
    (either-keeps (is_none draft.return_path) (NoReturn (length log)) (Sealed (length log)) refl refl))
when_open-keeps limits log (Discard key) = refl
when_open-keeps limits log (Forget key) = refl
when_open-keeps limits log Bye = refl

-- a reply to a request that isn't a Forget forgets no key
pub about-keeps : (limits : Limits) (history : List Exchange) (body : Body) (key : Key) → is_forget body ≡ false → is_forgotten (reply_about limits history body key) ≡ false
unfolding reply_about is_forgotten
about-keeps limits history body key uses =
    rw uses
    (either-keeps (is_closed key history) Closed (cond (not (differs (expected_by body) 0) && (not (is_held key history) && (length (held_keys history) == limits.logs))) TableFull (reply_when_open limits (log_of key history) body)) refl
    (either-keeps (not (differs (expected_by body) 0) && (not (is_held key history) && (length (held_keys history) == limits.logs))) TableFull (reply_when_open limits (log_of key history) body) refl
    (when_open-keeps limits (log_of key history) body)))

pub uses-keeps : (limits : Limits) (history : List Exchange) (request : Request) (own : Option Key) → key_of request.body ≡ own → is_forget request.body ≡ false → is_forgotten (reply_to limits history request) ≡ false
unfolding reply_to is_forgotten
uses-keeps limits history request None is uses = rw is refl
uses-keeps limits history request (Some key) is uses = rw is (about-keeps limits history request.body key uses)

forgets-other : (limits : Limits) (history : List Exchange) (request : Request) (key own : Key) (same : Bool) → request.body ≡ Forget own → request.body ≢ Forget key → same_key key own ≡ same → (same && is_forgotten (reply_to limits history request)) ≡ false
forgets-other limits history request key own true is other equal = absurd (other (is ∙ ap (λ (k : Key). Forget k) (sym (same_key-equal key own equal))))
forgets-other limits history request key own false is other equal = refl

forgets-body : (limits : Limits) (history : List Exchange) (request : Request) (key : Key) (body : Body) → request.body ≡ body → request.body ≢ Forget key → (option_map_or (same_key key) (key_of body) false && is_forgotten (reply_to limits history request)) ≡ false
forgets-body limits history request key (Append id outcome) is other =
    rw (uses-keeps limits history request (key_of request.body) refl (ap is_forget is)) (and_false _)
forgets-body limits history request key (Flush own draft) is other =
    rw (uses-keeps limits history request (key_of request.body) refl (ap is_forget is)) (and_false _)
forgets-body limits history request key (Discard own) is other =
    rw (uses-keeps limits history request (key_of request.body) refl (ap is_forget is)) (and_false _)
forgets-body limits history request key (Forget own) is other = forgets-other limits history request key own (same_key key own) is other refl
forgets-body limits history request key Bye is other = refl

-- a request that isn't a Forget of the key doesn't forget it
pub forgets-none : (limits : Limits) (history : List Exchange) (request : Request) (key : Key) → request.body ≢ Forget key → forgets key (exchange_of limits history request) ≡ false
unfolding exchange_of
forgets-none limits history request key other = forgets-body limits history request key request.body refl other
