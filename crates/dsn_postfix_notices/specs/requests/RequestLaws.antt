-- Laws of carried out requests, at each moment of one.
use Rattle.std.specs.Prelude.{◌≡◌, ◌⊎◌, ℕ, Bool, true, false, List, [], ◌∷◌, ◌++◌, Some, Result, Ok, Err}
use Rattle.dsn_outcome.specs.Letter.{Letter}
use Rattle.dsn_text.specs.declared.service.Service.{Service}
use Rattle.dsn_text.specs.declared.service.Service.TheVariants.{Bounce}
use Rattle.dsn_postfix.specs.NoticePlan.{notice_asked}
use Rattle.dsn_postfix.specs.PostfixRequest.{IsRequestIn}
use Rattle.dsn_postfix.specs.declared.postfix_request.AppendRequest.{AppendRequest}
use Rattle.dsn_postfix.specs.declared.postfix_request.PostfixRequest.{PostfixRequest}
use Rattle.dsn_smtp.specs.HandIn.{is_refused_for_good}
use Rattle.dsn_postfix_notices.specs.requests.AppendDeeds.{record_bytes}
use Rattle.dsn_postfix_notices.specs.requests.AnsweredRequest.{bounce_terms, first_flush, without_flags}
use Rattle.dsn_postfix_notices.specs.requests.CarriedOut.{IsCarriedOut, must_clean, queue_id_of}
use Rattle.dsn_postfix_notices.specs.requests.Deed.{Appended, Deed, HandedIn, LogRead, LogReleased, LogRemoved, LogSought, MarkedDone, MessageRead, PassedOn}
use Rattle.dsn_postfix_notices.specs.requests.Finishing.{AreMarked}
use Rattle.dsn_postfix_notices.specs.requests.HandingIn.{AreAccepted, hand_in_of}
use Rattle.dsn_postfix_notices.specs.requests.Heading.{AreNoticesAsked, Heading}
use Rattle.dsn_postfix_notices.specs.requests.MailFound.{MailRead, readings}
use Rattle.dsn_postfix_notices.specs.requests.PostmasterCopies.{is_copied}
use Rattle.dsn_postfix_notices.specs.requests.RequestLetters.{CantBeSaid, places_done}
use Rattle.dsn_postfix_notices.specs.requests.RequestStatus.{RequestAnswer, carried_out}
use Rattle.dsn_postfix_notices.specs.requests.Task.{Task}
use Rattle.dsn_smtp.specs.declared.hand_in_fault.HandInFault.{HandInFault}

-- ---- what was submitted

abbrev pub is_hand_in : Deed → Bool
is_hand_in (LogSought service id answer) = false
is_hand_in (LogRead service id answer) = false
is_hand_in (Appended service id bytes answer) = false
is_hand_in (LogRemoved service id answer) = false
is_hand_in (MessageRead queue id answer) = false
is_hand_in (HandedIn path message answer) = true
is_hand_in (MarkedDone queue id place answer) = false
is_hand_in (PassedOn service bytes answer) = false
is_hand_in LogReleased = false

abbrev pub onto_if : Bool → Deed → List Deed → List Deed
onto_if true deed deeds = deed ∷ deeds
onto_if false deed deeds = deeds

-- the deeds that submit a notice, in their order
abbrev pub hand_ins : List Deed → List Deed
hand_ins [] = []
hand_ins (deed ∷ deeds) = onto_if (is_hand_in deed) deed (hand_ins deeds)

pub record IsHandedIn (heading : Heading) (letter : Letter) (deed : Deed) : Type 0 where
  pub answer : Result (List ℕ) HandInFault
  pub deed_is : deed ≡ hand_in_of heading letter answer

-- letters were submitted, each once, in their order, whatever the results
abbrev pub AreHandedIn : Heading → List Letter → List Deed → Type 0
AreHandedIn heading [] deeds = deeds ≡ []
AreHandedIn heading (letter ∷ letters) [] = ⊥
AreHandedIn heading (letter ∷ letters) (deed ∷ deeds) = IsHandedIn heading letter deed × AreHandedIn heading letters deeds

-- ---- the requests

-- a request for notices was carried out, with these deeds
pub record IsTellingDone (task : Task) (bytes : List ℕ) (answer : RequestAnswer) (gained : List Deed) : Type 0 where
  pub asked : notice_asked task.request ≡ Some task.notice
  pub carried_out : IsCarriedOut task.terms task.request bytes answer gained

-- ---- the laws

-- The deeds begin by reading a log and a file. They submit a prefix of the letters of the notices that the request has
-- of these: each letter at most once, in order.
pub record HandsInOnce (task : Task) (gained : List Deed) : Type 0 where
  pub found : MailRead
  pub more : List Deed
  pub gained_are : gained ≡ readings task found ++ more
  pub heading : Heading
  pub letters : List Letter
  pub asked : AreNoticesAsked task found heading letters
  pub front : List Letter
  pub rest : List Letter
  pub letters_are : letters ≡ front ++ rest
  pub each : AreHandedIn heading front (hand_ins gained)

-- A log and a file were read. Then all letters of the notices that the request has of these were accepted, and its
-- recipients were marked as done if the request asks for that. These are all of the deeds.
pub record AreAllTold (task : Task) (gained : List Deed) : Type 0 where
  pub found : MailRead
  pub heading : Heading
  pub letters : List Letter
  pub handed : List Deed
  pub marks : List Deed
  pub gained_are : gained ≡ readings task found ++ (handed ++ marks)
  pub asked : AreNoticesAsked task found heading letters
  pub accepted : AreAccepted heading letters handed
  pub marked : AreMarked task.notice (places_done task found.log) marks

-- the first deeds notified the sender of all, and those after them submit nothing
pub record AreToldFirst (task : Task) (gained : List Deed) : Type 0 where
  pub first : List Deed
  pub after : List Deed
  pub gained_are : gained ≡ first ++ after
  pub told : AreAllTold task first
  pub none_handed : hand_ins after ≡ []

-- A removed log is that of the request, and the sender was notified of all before. The exception is CLEAN after a
-- failure: then nothing is done after the removal, and the answer isn't status 0.
pub record IsRemovedAfter (task : Task) (answer : RequestAnswer) (before after : List Deed) (other : Service) (id : List ℕ) : Type 0 where
  pub of_service : other ≡ task.terms.service
  pub of_message : id ≡ task.notice.queue_id
  pub told : AreAllTold task before
      ⊎ ((must_clean task.request answer ≡ true) × (after ≡ []))

-- Why a request is left to Postfix's own service, and what was tried before. Either the postmaster gets a copy of its
-- notices, and nothing was read. Or a log and a file were read; and one notice of these can't be expressed, and nothing
-- was submitted, or the first letter was refused for good, and no other was submitted.
pub data IsLeftOver (task : Task) (tried : List Deed) : Type 0 where
  copied : is_copied task.terms.settings task.request ≡ true → tried ≡ [] → IsLeftOver task tried
  unsayable : (found : MailRead) → CantBeSaid task found → tried ≡ readings task found → IsLeftOver task tried
  refused : (found : MailRead) (heading : Heading) (letter : Letter) (letters : List Letter) (fault : HandInFault)
      → AreNoticesAsked task found heading (letter ∷ letters)
      → is_refused_for_good fault ≡ true
      → tried ≡ readings task found ++ hand_in_of heading letter (Err fault) ∷ []
      → IsLeftOver task tried

-- No notice was accepted, and Postfix's own service answered 0 to the whole request. These are all of the deeds.
pub record IsLeftToPostfix (task : Task) (bytes : List ℕ) (gained : List Deed) : Type 0 where
  pub tried : List Deed
  pub gained_are : gained ≡ tried ++ LogReleased ∷ PassedOn task.terms.service bytes (Ok 0) ∷ []
  pub why : IsLeftOver task tried

-- the flush of the bounce log, which has neither CLEAN nor DELRCPT
abbrev pub bounce_task : Task → PostfixRequest → Task
bounce_task task first = record {
  terms = bounce_terms task.terms;
  request = first;
  notice = without_flags task.notice;
}

-- a part of an answered request: itself on the service's own log, or the flush of the bounce log before it
pub data IsTaskOf (task own : Task) : Type 0 where
  own_log : own ≡ task → IsTaskOf task own
  bounce_log : (first : PostfixRequest) → first_flush task.terms.service task.request ≡ Some first
      → own ≡ bounce_task task first → IsTaskOf task own

-- The removed log is one of the request's. Its deeds follow some earlier ones, and end with the removal as in a request
-- that is carried out on that log alone.
pub record IsRemovedInTurn (task : Task) (answer : RequestAnswer) (before after : List Deed) (log : Service) (id : List ℕ) : Type 0 where
  pub earlier : List Deed
  pub own : List Deed
  pub before_is : before ≡ earlier ++ own
  pub own_task : Task
  pub task_is : IsTaskOf task own_task
  pub removed : IsRemovedAfter own_task answer own after log id

-- a bounce log was found, and the deeds after that submit the notices of its flush
pub record HandsInOfBounceLog (task : Task) (gained : List Deed) : Type 0 where
  pub first : PostfixRequest
  pub first_is : first_flush task.terms.service task.request ≡ Some first
  pub own : List Deed
  pub gained_are : gained ≡ LogSought Bounce (queue_id_of first) (Ok true) ∷ own
  pub once : HandsInOnce (bounce_task task first) own

-- the notices of the bounce log are submitted first, if there are any, and then those of the service's own log
pub record HandsInInTurn (task : Task) (gained : List Deed) : Type 0 where
  pub first : List Deed
  pub rest : List Deed
  pub gained_are : gained ≡ first ++ rest
  pub of_bounce_log : (hand_ins first ≡ []) ⊎ HandsInOfBounceLog task first
  pub of_own_log : (hand_ins rest ≡ []) ⊎ HandsInOnce task rest

-- First the flush of the bounce log was carried out on that log alone. Either all of its notices were accepted; or no
-- notice was, and Postfix's own service answered 0 to that flush. Only then was anything done on the defer log.
pub record IsToldFirst (task : Task) (flush : PostfixRequest) (bytes : List ℕ) (deeds : List Deed) : Type 0 where
  pub first : List Deed
  pub rest : List Deed
  pub deeds_are : deeds ≡ first ++ rest
  pub own_bytes : List ℕ
  pub own_bytes_are : IsRequestIn own_bytes flush
  pub bounce_log : IsCarriedOut (bounce_terms task.terms) flush own_bytes (Ok carried_out) first
  pub told : AreToldFirst (bounce_task task flush) first
      ⊎ IsLeftToPostfix (bounce_task task flush) own_bytes first
  pub defer_log : IsCarriedOut task.terms task.request bytes (Ok carried_out) rest

-- an append that is answered 0 is in its log, or Postfix's own service answered 0 to it
abbrev pub StandsOrIsPassedOn : Service → AppendRequest → List ℕ → List Deed → Type 0
StandsOrIsPassedOn service request bytes gained =
    (gained ≡ Appended service request.queue_id (record_bytes service request) (Ok tt) ∷ [])
    ⊎ (gained ≡ PassedOn service bytes (Ok 0) ∷ [])
