-- What is done for a request, and before it for the bounce log of a message that Postfix removes after it.
use Rattle.std.specs.Prelude.{◌≡◌, ℕ, ◌*◌, ◌/◌, Bool, true, false, List, [], ◌∷◌, ◌++◌, Option, Some, None, Ok, Err, IsErr, MatchOption}
use Rattle.dsn_text.specs.declared.service.Service.{Service}
use Rattle.dsn_text.specs.declared.service.Service.TheVariants.{Bounce, Defer, Trace as TraceLog}
use Rattle.dsn_postfix.specs.PostfixRequest.{IsRequestIn}
use Rattle.dsn_postfix.specs.declared.postfix_request.NoticeRequest.{NoticeRequest}
use Rattle.dsn_postfix.specs.declared.postfix_request.PostfixRequest.{PostfixRequest}
use Rattle.dsn_postfix.specs.declared.postfix_request.PostfixRequest.TheVariants.{Append, Flush, Warn, Verp, One, Trace}
use Rattle.dsn_postfix_notices.specs.requests.CarriedOut.{IsCarriedOut, queue_id_of}
use Rattle.dsn_postfix_notices.specs.requests.Deed.{Deed, LogSought}
use Rattle.dsn_postfix_notices.specs.requests.RequestStatus.{RequestAnswer, carried_out, is_carried_out, not_carried_out}
use Rattle.dsn_postfix_notices.specs.requests.Task.{Terms}
use Rattle.dsn_postfix_notices.specs.declared.requests.deed_fault.DeedFault.{DeedFault}

-- CLEAN (1) and DELRCPT (2) apply to the log of the service that is named, and to no other
abbrev pub without_flags : NoticeRequest → NoticeRequest
without_flags notice = record {
  flags = notice.flags / 4 * 4;
  queue_name = notice.queue_name;
  queue_id = notice.queue_id;
  encoding = notice.encoding;
  names_sendopts = notice.names_sendopts;
  send_options = notice.send_options;
  sender = notice.sender;
  envelope_id = notice.envelope_id;
  returns = notice.returns;
}

-- the flush of the same message's bounce log, if the request is a flush
abbrev pub bounce_flush : PostfixRequest → Option PostfixRequest
bounce_flush (Append append) = None
bounce_flush (Flush notice) = Some (Flush (without_flags notice))
bounce_flush (Warn notice) = None
bounce_flush (Verp notice delimiters) = Some (Verp (without_flags notice) delimiters)
bounce_flush (One notice recipient report) = None
bounce_flush (Trace notice) = None

-- The flush that precedes a request to a service, if there is one. Once a flush of the defer log is answered 0, Postfix
-- removes the message, and nobody would be notified of a bounce log that is left.
abbrev pub first_flush : Service → PostfixRequest → Option PostfixRequest
first_flush Bounce request = None
first_flush Defer request = bounce_flush request
first_flush TraceLog request = None

-- the terms of the flush of the bounce log
abbrev pub bounce_terms : Terms → Terms
bounce_terms terms = record {
  settings = terms.settings;
  service = Bounce;
  moment = terms.moment;
  serial = terms.serial;
}

-- The flush of a bounce log is carried out on that log, and if it is passed on, then with its own bytes. Without memory
-- for these bytes, nothing is done.
pub data FlushesBounceLog (terms : Terms) (first : PostfixRequest) (answer : RequestAnswer) (gained : List Deed) : Type 0 where
  no_memory : gained ≡ [] → IsErr answer → FlushesBounceLog terms first answer gained
  flushed : (bytes : List ℕ) → IsRequestIn bytes first → IsCarriedOut (bounce_terms terms) first bytes answer gained
      → FlushesBounceLog terms first answer gained

-- the system is asked for the message's bounce log, and if there is one, it is flushed
pub data IsBounceLogTold (terms : Terms) (first : PostfixRequest) (answer : RequestAnswer) (gained : List Deed) : Type 0 where
  unsought : (fault : DeedFault) → gained ≡ LogSought Bounce (queue_id_of first) (Err fault) ∷ []
      → answer ≡ Ok not_carried_out → IsBounceLogTold terms first answer gained
  no_log : gained ≡ LogSought Bounce (queue_id_of first) (Ok false) ∷ []
      → answer ≡ Ok carried_out → IsBounceLogTold terms first answer gained
  told : (more : List Deed) → gained ≡ LogSought Bounce (queue_id_of first) (Ok true) ∷ more
      → FlushesBounceLog terms first answer more
      → IsBounceLogTold terms first answer gained

-- the bounce log is flushed first; unless that is answered 0, the log of the service is left as it is, even with CLEAN
pub data IsFlushedInTurn (terms : Terms) (first request : PostfixRequest) (bytes : List ℕ) (answer : RequestAnswer)
    (gained : List Deed) : Type 0 where
  put_off : is_carried_out answer ≡ false → IsBounceLogTold terms first answer gained
      → IsFlushedInTurn terms first request bytes answer gained
  in_turn : (before rest : List Deed) → gained ≡ before ++ rest
      → IsBounceLogTold terms first (Ok carried_out) before
      → IsCarriedOut terms request bytes answer rest
      → IsFlushedInTurn terms first request bytes answer gained

-- exactly these deeds were done for a request, in this order, and this answers it
abbrev pub IsAnswered : Terms → PostfixRequest → List ℕ → RequestAnswer → List Deed → Type 0
IsAnswered terms request bytes answer gained =
    MatchOption (first_flush terms.service request)
    (IsCarriedOut terms request bytes answer gained)
    (λ first. IsFlushedInTurn terms first request bytes answer gained)
