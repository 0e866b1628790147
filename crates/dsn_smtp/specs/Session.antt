-- Sessions with a mail server that are kept: how one begins, goes on or ends, and how a notice is submitted over a kept
-- session or over a new one.
use Rattle.std.specs.Prelude.{◌≡◌, ℕ, true, false, List, [], Option, Some, None, Result, Ok, Err, IfSome, MatchBool}
use Rattle.dsn_device.specs.declared.drain.Drain
use Rattle.dsn_device.specs.declared.source.Source
use Rattle.dsn_smtp.specs.Body.{body_kind, suffice_for}
use Rattle.dsn_smtp.specs.Dialogue.{TakesTurns, Turn}
use Rattle.dsn_smtp.specs.Extensions.{extensions_of}
use Rattle.dsn_smtp.specs.HandIn.{Greets, Leaves, TurnsOver, is_at_sender}
use Rattle.dsn_smtp.specs.Pipelining.{Transacts}
use Rattle.dsn_smtp.specs.declared.extensions.Extensions.{Extensions}
use Rattle.dsn_smtp.specs.declared.hand_in_fault.HandInFault.{HandInFault}
use Rattle.dsn_smtp.specs.declared.hand_in_fault.HandInFault.TheVariants.{Unheard, NotOffered}
use Rattle.dsn_smtp.specs.declared.hand_in_step.HandInStep.TheVariants.{Greeting}
use Rattle.dsn_smtp.specs.declared.reply_fault.ReplyFault.TheVariants.{Read}

-- a session: its stream, and the extensions that the server offered in its reply to EHLO
pub record OpenSession (S : Type 0) : Type 0 where
  pub stream : S
  pub extensions : Extensions

-- A session that was begun, and in which nothing went wrong so far. It had the greeting and EHLO, whose reply offered
-- its extensions. Whole transactions followed, each from the state in which the turns before it left the stream.
pub data IsBegun {S : Type 0} (source : Source.Ghosts S) (drain : Drain.Ghosts S) : OpenSession S → Type 0 where
  greeted : (old : S) (now : OpenSession S) (host before after : List ℕ) → TurnsOver source drain old now.stream (Greets host) before after None
      → now.extensions ≡ extensions_of after → IsBegun source drain now
  handed_in : (old now : OpenSession S) (path message before after : List ℕ) → IsBegun source drain old
      → suffice_for old.extensions (body_kind message) ≡ true
      → TurnsOver source drain old.stream now.stream (Transacts old.extensions path message) before after None
      → now.extensions ≡ old.extensions → IsBegun source drain now

-- a session ends after the outcome of its last step
pub record Ends {S : Type 0} (source : Source.Ghosts S) (drain : Drain.Ghosts S) (old : S) (outcome : Option HandInFault) : Type 0 where
  pub last : S
  pub turns : List Turn
  pub taken : TakesTurns source drain old last turns
  pub leaves : Leaves outcome turns

-- turns for which `Go` holds took a stream up to a fault, and after it the session ended
pub record FailsAndEnds {S : Type 0} (source : Source.Ghosts S) (drain : Drain.Ghosts S) (old : S)
    (Go : List Turn → Option HandInFault → Type 0) (before after : List ℕ) (why : HandInFault) : Type 0 where
  pub failed : S
  pub over : TurnsOver source drain old failed Go before after (Some why)
  pub ended : Ends source drain failed (Some why)

-- The greeting and EHLO took a stream to that of a new session, without a fault, and the reply to EHLO offers the
-- session's extensions. Or the session ended.
abbrev pub Begins : {S : Type 0} → Source.Ghosts S → Drain.Ghosts S → S → List ℕ → List ℕ → List ℕ → Result (OpenSession S) HandInFault → Type 0
Begins source drain old host before after (Ok session) =
    TurnsOver source drain old session.stream (Greets host) before after None × (session.extensions ≡ extensions_of after)
Begins source drain old host before after (Err why) = FailsAndEnds source drain old (Greets host) before after why

-- What is left of a session, and the fault: turns for which `Go` holds took its stream to that of the session that goes
-- on, without a fault; or it ended.
abbrev pub Carries : {S : Type 0} → Source.Ghosts S → Drain.Ghosts S → OpenSession S → (List Turn → Option HandInFault → Type 0) → List ℕ → List ℕ
    → Option (OpenSession S) → Option HandInFault → Type 0
Carries source drain old Go before after (Some session) None =
    TurnsOver source drain old.stream session.stream Go before after None × (session.extensions ≡ old.extensions)
Carries source drain old Go before after (Some session) (Some why) = ⊥
Carries source drain old Go before after None None = ⊥
Carries source drain old Go before after None (Some why) = FailsAndEnds source drain old.stream Go before after why

-- A transaction in a session. If the server doesn't offer what the message needs, nothing is sent, and the session goes
-- on as it was; no reply is held.
abbrev pub Continues : {S : Type 0} → Source.Ghosts S → Drain.Ghosts S → OpenSession S → List ℕ → List ℕ → List ℕ → List ℕ
    → Option (OpenSession S) → Option HandInFault → Type 0
Continues source drain old path message before after left fault =
    MatchBool (suffice_for old.extensions (body_kind message))
    (Carries source drain old (Transacts old.extensions path message) before after left fault)
    ((left ≡ Some old) × ((fault ≡ Some NotOffered) × (after ≡ [])))

-- A server was asked for one stream. It gave one, over which a session was begun, or couldn't be. Or the server gave a
-- fault, which is the result.
pub data ConnectsAnew {S C : Type 0} (source : Source.Ghosts S) (drain : Drain.Ghosts S) (gives : C → C → Result S HandInFault → Type 0)
    (old new : C) (host before after : List ℕ) (result : Result (OpenSession S) HandInFault) : Type 0 where
  connected : (stream : S) → gives old new (Ok stream) → Begins source drain stream host before after result
      → ConnectsAnew source drain gives old new host before after result
  unconnected : (why : HandInFault) → gives old new (Err why) → result ≡ Err why → after ≡ before
      → ConnectsAnew source drain gives old new host before after result

-- a new session was begun, and the transaction was tried in it; or it couldn't be begun
pub data AsksAnew {S C : Type 0} (source : Source.Ghosts S) (drain : Drain.Ghosts S) (gives : C → C → Result S HandInFault → Type 0)
    (old new : C) (host path message before after : List ℕ) (left : Option (OpenSession S)) (fault : Option HandInFault) : Type 0 where
  asked : (begun : OpenSession S) (between : List ℕ) → ConnectsAnew source drain gives old new host before between (Ok begun)
      → Continues source drain begun path message between after left fault
      → AsksAnew source drain gives old new host path message before after left fault
  unbegun : (why : HandInFault) → ConnectsAnew source drain gives old new host before after (Err why)
      → left ≡ None → fault ≡ Some why
      → AsksAnew source drain gives old new host path message before after left fault

-- a session failed at MAIL, and ended
pub record FailsAtSender {S : Type 0} (source : Source.Ghosts S) (drain : Drain.Ghosts S) (session : OpenSession S)
    (path message before : List ℕ) : Type 0 where
  pub why : HandInFault
  pub at_sender : is_at_sender why ≡ true
  pub held : List ℕ
  pub left : Option (OpenSession S)
  pub fails : Continues source drain session path message before held left (Some why)

-- no session was kept; or the kept one failed at MAIL and ended, and its replies are dropped
abbrev pub GivesWay : {S : Type 0} → Source.Ghosts S → Drain.Ghosts S → Option (OpenSession S) → List ℕ → List ℕ → List ℕ → List ℕ → Type 0
GivesWay source drain None path message before after = after ≡ before
GivesWay source drain (Some session) path message before after = FailsAtSender source drain session path message before × (after ≡ [])

-- A transaction is tried in the kept session, if there is one. Unless that fails at MAIL, its result is the
-- result, and the server isn't asked for a stream. Otherwise the server is asked for one stream, and the transaction is
-- tried in a new session.
pub data AsksOver {S C : Type 0} (source : Source.Ghosts S) (drain : Drain.Ghosts S) (gives : C → C → Result S HandInFault → Type 0)
    (old new : C) (kept : Option (OpenSession S)) (host path message before after : List ℕ)
    (left : Option (OpenSession S)) (fault : Option HandInFault) : Type 0 where
  over_kept : (session : OpenSession S) → kept ≡ Some session → new ≡ old
      → Continues source drain session path message before after left fault
      → IfSome fault (λ why. is_at_sender why ≡ false)
      → AsksOver source drain gives old new kept host path message before after left fault
  anew : (between : List ℕ) → GivesWay source drain kept path message before between
      → AsksAnew source drain gives old new host path message between after left fault
      → AsksOver source drain gives old new kept host path message before after left fault

-- A transaction is tried over some session that was begun and kept, or over none, as `AsksOver` says. Which
-- session that is, the channel that keeps them doesn't expose. Or the notice had no turn, and nothing was done for it.
pub data AsksOverSome {S C : Type 0} (source : Source.Ghosts S) (drain : Drain.Ghosts S) (gives : C → C → Result S HandInFault → Type 0)
    (old new : C) (host path message before after : List ℕ) (outcome : Option HandInFault) : Type 0 where
  over_some : (kept left : Option (OpenSession S)) → IfSome kept (IsBegun source drain)
      → AsksOver source drain gives old new kept host path message before after left outcome
      → AsksOverSome source drain gives old new host path message before after outcome
  no_turn : outcome ≡ Some (Unheard Greeting Read) → new ≡ old → after ≡ before
      → AsksOverSome source drain gives old new host path message before after outcome
