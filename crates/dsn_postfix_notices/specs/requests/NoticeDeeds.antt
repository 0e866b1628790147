-- What is done for a request for notices: what is read, what is submitted, what is done after that, and what is
-- answered.
use Rattle.std.specs.Prelude.{◌≡◌, ℕ, List, [], ◌∷◌, ◌++◌, Result, Ok, Err, IsErr, MatchBool}
use Rattle.dsn_outcome.specs.Letter.{Letter}
use Rattle.dsn_text.specs.declared.service.Service.{Service}
use Rattle.dsn_postfix_notices.specs.requests.Deed.{Deed, LogReleased}
use Rattle.dsn_postfix_notices.specs.requests.Finishing.{FinishesAt}
use Rattle.dsn_postfix_notices.specs.requests.HandingIn.{AreAccepted, StopsAtLetter}
use Rattle.dsn_postfix_notices.specs.requests.Heading.{AreNoticesAsked, Heading}
use Rattle.dsn_postfix_notices.specs.requests.MailFound.{FailsToRead, MailRead, readings}
use Rattle.dsn_postfix_notices.specs.requests.PostmasterCopies.{is_copied}
use Rattle.dsn_postfix_notices.specs.requests.RequestLetters.{CantBeSaid, places_done}
use Rattle.dsn_postfix_notices.specs.requests.RequestStatus.{PassesOn, RequestAnswer, carried_out, not_carried_out}
use Rattle.dsn_postfix_notices.specs.requests.Task.{Task}
use Rattle.dsn_postfix_notices.specs.declared.requests.pass_reason.PassReason.{PassReason}
use Rattle.dsn_postfix_notices.specs.declared.requests.pass_reason.PassReason.TheVariants.{Postmaster}
use Rattle.dsn_postfix_notices.specs.declared.requests.untold.Untold.{Untold}
use Rattle.dsn_postfix_notices.specs.declared.requests.untold.Untold.TheVariants.{Failed, NoMemory, PassedOn}

-- The log and the message are read, and then the message's sender is notified. Nothing is submitted before each notice
-- has its letter. If one can't be expressed, or memory for one is refused, nothing is submitted. Once all letters are
-- accepted, the rest follows.
pub data Tells (task : Task) (telling : Result (Unit {0}) Untold) (gained : List Deed) : Type 0 where
  unread : telling ≡ Err Failed → FailsToRead task gained → Tells task telling gained
  no_memory : (found : MailRead) → telling ≡ Err NoMemory → gained ≡ readings task found → Tells task telling gained
  unsayable : (found : MailRead) (why : PassReason) → telling ≡ Err (PassedOn why) → gained ≡ readings task found
      → CantBeSaid task found → Tells task telling gained
  stopped : (found : MailRead) (heading : Heading) (made : List Letter) (tried : List Deed) (why : Untold) → telling ≡ Err why
      → gained ≡ readings task found ++ tried → AreNoticesAsked task found heading made
      → StopsAtLetter heading made why tried → Tells task telling gained
  accepted : (found : MailRead) (heading : Heading) (made : List Letter) (taken rest : List Deed)
      → gained ≡ readings task found ++ (taken ++ rest) → AreNoticesAsked task found heading made
      → AreAccepted heading made taken
      → FinishesAt task found.log (places_done task found.log) telling rest → Tells task telling gained

-- If the postmaster gets a copy of the notices, nothing is read and nothing submitted. Otherwise the message's sender
-- is notified.
abbrev pub TellsOrLeaves : Task → Result (Unit {0}) Untold → List Deed → Type 0
TellsOrLeaves task telling gained =
    MatchBool (is_copied task.terms.settings task.request)
    ((telling ≡ Err (PassedOn Postmaster)) × (gained ≡ []))
    (Tells task telling gained)

-- A request is passed on whole if the postmaster gets a copy, if its notices can't be expressed, or if the first letter
-- is refused for good. Its own bytes are passed on.
abbrev pub EndsTelling : Service → List ℕ → Result (Unit {0}) Untold → RequestAnswer → List Deed → Type 0
EndsTelling service bytes (Ok done) answer gained = (gained ≡ []) × (answer ≡ Ok carried_out)
EndsTelling service bytes (Err Failed) answer gained = (gained ≡ []) × (answer ≡ Ok not_carried_out)
EndsTelling service bytes (Err (PassedOn why)) answer gained = PassesOn service bytes answer gained
EndsTelling service bytes (Err NoMemory) answer gained = (gained ≡ []) × IsErr answer

-- the log is released before Postfix's own service may lock it
pub record IsNotified (task : Task) (bytes : List ℕ) (answer : RequestAnswer) (gained : List Deed) : Type 0 where
  pub telling : Result (Unit {0}) Untold
  pub told : List Deed
  pub last : List Deed
  pub gained_are : gained ≡ told ++ LogReleased ∷ last
  pub tells : TellsOrLeaves task telling told
  pub ends : EndsTelling task.terms.service bytes telling answer last
