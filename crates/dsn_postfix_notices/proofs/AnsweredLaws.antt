-- The laws of answered requests: the bounce log is flushed first, and the laws of one request hold for each of the two.
use Rattle.std.proofs.Common.{◌≡◌, ℕ, Bool, true, false, List, [], ◌∷◌, ◌++◌, Option, Some, None, Result, Ok, Err, refl, sym, ap, subst, ◌∙◌, append-nil, inl, inr}
use Rattle.std.specs.Option.{option_map}
use Rattle.std.specs.Prelude.{◌⊎◌, MatchOption, is_err}
use Rattle.dsn_text.specs.declared.service.Service.{Service}
use Rattle.dsn_text.specs.declared.service.Service.TheVariants.{Bounce, Defer, Trace as TraceLog}
use Rattle.dsn_postfix.specs.NoticePlan.{notice_asked}
use Rattle.dsn_postfix.specs.PostfixRequest.{IsRequestIn}
use Rattle.dsn_postfix.specs.RequestFlags.{asks_clean}
use Rattle.dsn_postfix.specs.Wanted.{is_no_sender}
use Rattle.dsn_postfix.specs.declared.postfix_request.AppendRequest.{AppendRequest}
use Rattle.dsn_postfix.specs.declared.postfix_request.NoticeRequest.{NoticeRequest}
use Rattle.dsn_postfix.specs.declared.postfix_request.PostfixRequest.{PostfixRequest}
use Rattle.dsn_postfix.specs.declared.postfix_request.PostfixRequest.TheVariants.{Append, Flush, Warn, Verp, One, Trace}
use Rattle.dsn_postfix_notices.specs.declared.requests.deed_fault.DeedFault.{DeedFault}
use Rattle.dsn_postfix_notices.specs.requests.AnsweredRequest.{FlushesBounceLog, IsAnswered, IsBounceLogTold, IsFlushedInTurn, bounce_flush, bounce_terms, first_flush, without_flags}
use Rattle.dsn_postfix_notices.specs.requests.AnsweredRequest as answered
use Rattle.dsn_postfix_notices.specs.requests.CarriedOut.{IsCarriedOut, must_clean, queue_id_of}
use Rattle.dsn_postfix_notices.specs.requests.Deed.{Answer, Appended, Deed, HandedIn, LogRead, LogReleased, LogRemoved, LogSought, MarkedDone, MessageRead, PassedOn}
use Rattle.dsn_postfix_notices.specs.requests.RequestLaws as law
use Rattle.dsn_postfix_notices.specs.requests.RequestLaws.{AreAllTold, HandsInInTurn, HandsInOfBounceLog, HandsInOnce, IsRemovedAfter, IsRemovedInTurn, IsTaskOf, IsTellingDone, IsToldFirst, StandsOrIsPassedOn, bounce_task, hand_ins}
use Rattle.dsn_postfix_notices.specs.requests.RequestStatus.{RequestAnswer, carried_out, is_carried_out, not_carried_out}
use Rattle.dsn_postfix_notices.specs.requests.Task.{Task, Terms}
use Rattle.dsn_postfix_notices.proofs.CarriedOutLaws.{and_false, answered_append_stands, false_is_true, first_or, handed_in_once, later, none_of_both, none_once, not_zero, nothing_after, past_block, removed_only_after, status_is, told_or_left}

true_is_false : true ≡ false → ⊥
true_is_false e = cc

abbrev is_found : Result Bool DeedFault → Bool
is_found (Ok found) = found
is_found (Err why) = false

abbrev finds_log : Deed → Bool
finds_log (LogSought service id answer) = is_found answer
finds_log (LogRead service id answer) = false
finds_log (Appended service id bytes answer) = false
finds_log (LogRemoved service id answer) = false
finds_log (MessageRead queue id answer) = false
finds_log (HandedIn path message answer) = false
finds_log (MarkedDone queue id place answer) = false
finds_log (PassedOn service bytes answer) = false
finds_log LogReleased = false

-- whether the first of some deeds found a log
abbrev has_found : List Deed → Bool
has_found [] = false
has_found (deed ∷ deeds) = finds_log deed

-- ---- the flush that comes first

none_is_some : (first : PostfixRequest) → None ≡ Some first → ⊥
none_is_some first e = cc

abbrev asked_by : Option PostfixRequest → Option NoticeRequest
asked_by None = None
asked_by (Some request) = notice_asked request

flush_asks : (request first : PostfixRequest) (notice : NoticeRequest) → bounce_flush request ≡ Some first → notice_asked request ≡ Some notice → notice_asked first ≡ Some (without_flags notice)
flush_asks (Append append) first notice e asked = absurd (none_is_some first e)
flush_asks (Flush own) first notice e asked = sym (ap asked_by e) ∙ ap (option_map without_flags) asked
flush_asks (Warn own) first notice e asked = absurd (none_is_some first e)
flush_asks (Verp own delimiters) first notice e asked = sym (ap asked_by e) ∙ ap (option_map without_flags) asked
flush_asks (One own recipient report) first notice e asked = absurd (none_is_some first e)
flush_asks (Trace own) first notice e asked = absurd (none_is_some first e)

first_asks : (service : Service) (request first : PostfixRequest) (notice : NoticeRequest) → first_flush service request ≡ Some first → notice_asked request ≡ Some notice → notice_asked first ≡ Some (without_flags notice)
first_asks Bounce request first notice e asked = absurd (none_is_some first e)
first_asks Defer request first notice e asked = flush_asks request first notice e asked
first_asks TraceLog request first notice e asked = absurd (none_is_some first e)

-- the deeds of a bounce log that was found, and what follows them
pub record FoundAndTold (terms : Terms) (first : PostfixRequest) (rest deeds : List Deed) : Type 0 where
  pub own : List Deed
  pub deeds_are : deeds ≡ own ++ rest
  pub bytes : List ℕ
  pub bytes_are : IsRequestIn bytes first
  pub bounce_log : IsCarriedOut (bounce_terms terms) first bytes (Ok 0) own

flushed_and_told : (terms : Terms) (first : PostfixRequest) (more rest deeds : List Deed)
    → FlushesBounceLog terms first (Ok carried_out) more → deeds ≡ more ++ rest → FoundAndTold terms first rest deeds
flushed_and_told terms first more rest deeds (answered.no_memory is refused) e = absurd (false_is_true refused)
flushed_and_told terms first more rest deeds (answered.flushed bytes are out) e = record {
  own = more;
  deeds_are = e;
  bytes = bytes;
  bytes_are = are;
  bounce_log = out;
}

found_and_told : (terms : Terms) (first : PostfixRequest) (named : List ℕ) (before rest deeds : List Deed)
    → IsBounceLogTold terms first (Ok carried_out) before → before ++ rest ≡ LogSought Bounce named (Ok true) ∷ deeds → FoundAndTold terms first rest deeds
found_and_told terms first named before rest deeds (answered.unsought why is a) e = absurd (not_zero (sym (status_is not_carried_out (Ok carried_out) a)))
found_and_told terms first named before rest deeds (answered.no_log is a) e =
    absurd (true_is_false (sym (ap has_found (ap (λ (front : List Deed). front ++ rest) (sym is) ∙ e))))
found_and_told terms first named before rest deeds (answered.told more is flushes) e =
    flushed_and_told terms first more rest deeds flushes
    (sym (ap later e) ∙ ap (λ (front : List Deed). later (front ++ rest)) is)

told_in_turn : (task : Task) (first : PostfixRequest) (bytes : List ℕ) (answer : RequestAnswer) (gained deeds : List Deed) (named : List ℕ)
    → notice_asked first ≡ Some (without_flags task.notice) → IsFlushedInTurn task.terms first task.request bytes answer gained → answer ≡ Ok 0
    → gained ≡ LogSought Bounce named (Ok true) ∷ deeds → IsToldFirst task first bytes deeds
told_in_turn task first bytes answer gained deeds named asked (answered.put_off not_done first_told) zero e =
    absurd (true_is_false (ap is_carried_out (sym zero) ∙ not_done))
told_in_turn task first bytes answer gained deeds named asked (answered.in_turn before rest is first_told out) zero e =
    let found = found_and_told task.terms first named before rest deeds first_told (sym is ∙ e) in
    record {
      first = found.own;
      rest = rest;
      deeds_are = found.deeds_are;
      own_bytes = found.bytes;
      own_bytes_are = found.bytes_are;
      bounce_log = found.bounce_log;
      told = told_or_left (bounce_task task first) found.bytes (Ok 0) found.own (record { asked = asked; carried_out = found.bounce_log }) refl;
      defer_log = subst (λ (a : RequestAnswer). IsCarriedOut task.terms task.request bytes a rest) zero out;
    }

-- the answer to a request that a flush precedes
in_turn_if : (terms : Terms) (first request : PostfixRequest) (bytes : List ℕ) (answer : RequestAnswer) (gained : List Deed)
    → first_flush terms.service request ≡ Some first → IsAnswered terms request bytes answer gained → IsFlushedInTurn terms first request bytes answer gained
in_turn_if terms first request bytes answer gained e is =
    subst (λ (found : Option PostfixRequest). MatchOption found (IsCarriedOut terms request bytes answer gained) (λ flush. IsFlushedInTurn terms flush request bytes answer gained)) e is

pub told_first : (task : Task) (first : PostfixRequest) (bytes : List ℕ) (answer : RequestAnswer) (gained deeds : List Deed) (named : List ℕ)
    → first_flush task.terms.service task.request ≡ Some first → notice_asked task.request ≡ Some task.notice → IsAnswered task.terms task.request bytes answer gained → answer ≡ Ok 0
    → gained ≡ LogSought Bounce named (Ok true) ∷ deeds → IsToldFirst task first bytes deeds
told_first task first bytes answer gained deeds named flushes asked is zero e =
    told_in_turn task first bytes answer gained deeds named (first_asks task.terms.service task.request first task.notice flushes asked)
    (in_turn_if task.terms first task.request bytes answer gained flushes is) zero e

-- ---- logs that are removed

-- a deed is in one of two parts
pub data InPart (first rest before after : List Deed) (deed : Deed) : Type 0 where
  in_first : (more : List Deed) → first ≡ before ++ deed ∷ more → after ≡ more ++ rest → InPart first rest before after deed
  in_rest : (more : List Deed) → before ≡ first ++ more → rest ≡ more ++ deed ∷ after → InPart first rest before after deed

part_more : (one other : Deed) (first rest before after : List Deed) (deed : Deed) → one ≡ other → InPart first rest before after deed → InPart (one ∷ first) rest (other ∷ before) after deed
part_more one other first rest before after deed same (in_first more is after_is) = in_first more (λ i. same i ∷ is i) after_is
part_more one other first rest before after deed same (in_rest more is rest_is) = in_rest more (λ i. sym same i ∷ is i) rest_is

part_of : (first rest before after : List Deed) (deed : Deed) → first ++ rest ≡ before ++ deed ∷ after → InPart first rest before after deed
part_of [] rest before after deed e = in_rest before refl e
part_of (one ∷ first) rest [] after deed e =
    in_first first (ap (λ (deeds : List Deed). first_or one deeds ∷ first) e) (sym (ap later e))
part_of (one ∷ first) rest (other ∷ before) after deed e =
    part_more one other first rest before after deed (ap (first_or one) e) (part_of first rest before after deed (ap later e))

removed_by_one : (task own_task : Task) (bytes : List ℕ) (answer : RequestAnswer) (gained earlier own before after : List Deed) (log : Service) (id : List ℕ) (given : Answer)
    → IsTaskOf task own_task → IsTellingDone own_task bytes answer gained → before ≡ earlier ++ own → gained ≡ own ++ LogRemoved log id given ∷ after
    → IsRemovedInTurn task answer before after log id
removed_by_one task own_task bytes answer gained earlier own before after log id given task_is done before_is e = record {
  earlier = earlier;
  own = own;
  before_is = before_is;
  own_task = own_task;
  task_is = task_is;
  removed = removed_only_after own_task bytes answer gained own after log id given done e;
}

-- a request that is answered 0 removes nothing for CLEAN, so anything may be done after a removal
told_before : (task : Task) (before after : List Deed)
    → AreAllTold task before ⊎ ((must_clean task.request (Ok carried_out) ≡ true) × (after ≡ [])) → AreAllTold task before
told_before task before after (inl told) = told
told_before task before after (inr cleans) = absurd (false_is_true (sym (and_false (asks_clean task.request)) ∙ cleans.0))

later_too : (task : Task) (answer : RequestAnswer) (before more after : List Deed) (log : Service) (id : List ℕ)
    → IsRemovedInTurn task (Ok carried_out) before more log id → IsRemovedInTurn task answer before after log id
later_too task answer before more after log id in_turn = record {
  earlier = in_turn.earlier;
  own = in_turn.own;
  before_is = in_turn.before_is;
  own_task = in_turn.own_task;
  task_is = in_turn.task_is;
  removed = record {
    of_service = in_turn.removed.of_service;
    of_message = in_turn.removed.of_message;
    told = inl (told_before in_turn.own_task in_turn.own more in_turn.removed.told);
  };
}

-- looking for the bounce log removes nothing
removed_by_looking : (task : Task) (answer : RequestAnswer) (id named : List ℕ) (found : Result Bool DeedFault) (gained before after : List Deed) (log : Service) (given : Answer)
    → gained ≡ LogSought Bounce named found ∷ [] → gained ≡ before ++ LogRemoved log id given ∷ after → IsRemovedInTurn task answer before after log id
removed_by_looking task answer id named found gained before after log given is e =
    let past = past_block (LogSought Bounce named found ∷ []) [] before after (LogRemoved log id given) (refl, tt) refl (sym is ∙ e) in
    absurd (nothing_after past.more after (LogRemoved log id given) past.rest_is)

removed_by_flush : (task : Task) (first : PostfixRequest) (answer : RequestAnswer) (own gained before after : List Deed) (log : Service) (id : List ℕ) (given : Answer)
    → first_flush task.terms.service task.request ≡ Some first → notice_asked task.request ≡ Some task.notice → FlushesBounceLog task.terms first answer own
    → gained ≡ LogSought Bounce (queue_id_of first) (Ok true) ∷ own → gained ≡ before ++ LogRemoved log id given ∷ after
    → IsRemovedInTurn task answer before after log id
removed_by_flush task first answer own gained before after log id given first_is asked (answered.no_memory none refused) is e =
    removed_by_looking task answer id (queue_id_of first) (Ok true) gained before after log given
    (is ∙ ap (λ (deeds : List Deed). LogSought Bounce (queue_id_of first) (Ok true) ∷ deeds) none) e
removed_by_flush task first answer own gained before after log id given first_is asked (answered.flushed bytes are out) is e =
    let sought = LogSought Bounce (queue_id_of first) (Ok true) ∷ [] in
    let past = past_block sought own before after (LogRemoved log id given) (refl, tt) refl (sym is ∙ e) in
    removed_by_one task (bounce_task task first) bytes answer own sought past.more before after log id given (law.bounce_log first first_is refl)
    (record { asked = first_asks task.terms.service task.request first task.notice first_is asked; carried_out = out }) past.before_is past.rest_is

removed_from_bounce_log : (task : Task) (first : PostfixRequest) (answer : RequestAnswer) (gained before after : List Deed) (log : Service) (id : List ℕ) (given : Answer)
    → first_flush task.terms.service task.request ≡ Some first → notice_asked task.request ≡ Some task.notice → IsBounceLogTold task.terms first answer gained → gained ≡ before ++ LogRemoved log id given ∷ after
    → IsRemovedInTurn task answer before after log id
removed_from_bounce_log task first answer gained before after log id given first_is asked (answered.unsought why is a) e =
    removed_by_looking task answer id (queue_id_of first) (Err why) gained before after log given is e
removed_from_bounce_log task first answer gained before after log id given first_is asked (answered.no_log is a) e =
    removed_by_looking task answer id (queue_id_of first) (Ok false) gained before after log given is e
removed_from_bounce_log task first answer gained before after log id given first_is asked (answered.told own is flushes) e =
    removed_by_flush task first answer own gained before after log id given first_is asked flushes is e

removed_from_part : (task : Task) (first : PostfixRequest) (bytes : List ℕ) (answer : RequestAnswer) (front rest before after : List Deed) (log : Service) (id : List ℕ) (given : Answer)
    → first_flush task.terms.service task.request ≡ Some first → notice_asked task.request ≡ Some task.notice → IsBounceLogTold task.terms first (Ok carried_out) front → IsCarriedOut task.terms task.request bytes answer rest
    → InPart front rest before after (LogRemoved log id given) → IsRemovedInTurn task answer before after log id
removed_from_part task first bytes answer front rest before after log id given first_is asked first_told out (in_first more is after_is) =
    later_too task answer before more after log id
    (removed_from_bounce_log task first (Ok carried_out) front before more log id given first_is asked first_told is)
removed_from_part task first bytes answer front rest before after log id given first_is asked first_told out (in_rest more is rest_is) =
    removed_by_one task task bytes answer rest front more before after log id given (law.own_log refl) (record { asked = asked; carried_out = out }) is rest_is

removed_in_flush : (task : Task) (first : PostfixRequest) (bytes : List ℕ) (answer : RequestAnswer) (gained before after : List Deed) (log : Service) (id : List ℕ) (given : Answer)
    → first_flush task.terms.service task.request ≡ Some first → notice_asked task.request ≡ Some task.notice → IsFlushedInTurn task.terms first task.request bytes answer gained → gained ≡ before ++ LogRemoved log id given ∷ after
    → IsRemovedInTurn task answer before after log id
removed_in_flush task first bytes answer gained before after log id given first_is asked (answered.put_off not_done first_told) e =
    removed_from_bounce_log task first answer gained before after log id given first_is asked first_told e
removed_in_flush task first bytes answer gained before after log id given first_is asked (answered.in_turn front rest is first_told out) e =
    removed_from_part task first bytes answer front rest before after log id given first_is asked first_told out
    (part_of front rest before after (LogRemoved log id given) (sym is ∙ e))

removed_if : (found : Option PostfixRequest) (task : Task) (bytes : List ℕ) (answer : RequestAnswer) (gained before after : List Deed) (log : Service) (id : List ℕ) (given : Answer)
    → first_flush task.terms.service task.request ≡ found → notice_asked task.request ≡ Some task.notice
    → MatchOption found (IsCarriedOut task.terms task.request bytes answer gained) (λ first. IsFlushedInTurn task.terms first task.request bytes answer gained)
    → gained ≡ before ++ LogRemoved log id given ∷ after → IsRemovedInTurn task answer before after log id
removed_if (Some first) task bytes answer gained before after log id given first_is asked is e =
    removed_in_flush task first bytes answer gained before after log id given first_is asked is e
removed_if None task bytes answer gained before after log id given first_is asked is e =
    removed_by_one task task bytes answer gained [] before before after log id given (law.own_log refl) (record { asked = asked; carried_out = is }) refl e

pub answered_removal : (task : Task) (bytes : List ℕ) (answer : RequestAnswer) (gained before after : List Deed) (log : Service) (id : List ℕ) (given : Answer)
    → notice_asked task.request ≡ Some task.notice → IsAnswered task.terms task.request bytes answer gained → gained ≡ before ++ LogRemoved log id given ∷ after
    → IsRemovedInTurn task answer before after log id
answered_removal task bytes answer gained before after log id given asked is e =
    removed_if (first_flush task.terms.service task.request) task bytes answer gained before after log id given refl asked is e

-- ---- what is submitted

hands_in_own : (task : Task) (bytes : List ℕ) (answer : RequestAnswer) (gained : List Deed)
    → notice_asked task.request ≡ Some task.notice → IsCarriedOut task.terms task.request bytes answer gained → (hand_ins gained ≡ []) ⊎ HandsInOnce task gained
hands_in_own task bytes answer gained asked out = handed_in_once task bytes answer gained (record { asked = asked; carried_out = out })

after_sought : (task : Task) (first : PostfixRequest) (gained own : List Deed) → first_flush task.terms.service task.request ≡ Some first → gained ≡ LogSought Bounce (queue_id_of first) (Ok true) ∷ own
    → (hand_ins own ≡ []) ⊎ HandsInOnce (bounce_task task first) own → (hand_ins gained ≡ []) ⊎ HandsInOfBounceLog task gained
after_sought task first gained own first_is is (inl none) = inl (ap hand_ins is ∙ none)
after_sought task first gained own first_is is (inr once) = inr (record { first = first; first_is = first_is; own = own; gained_are = is; once = once })

flush_of_bounces_hands_in : (task : Task) (first : PostfixRequest) (answer : RequestAnswer) (own : List Deed)
    → notice_asked first ≡ Some (without_flags task.notice) → FlushesBounceLog task.terms first answer own → (hand_ins own ≡ []) ⊎ HandsInOnce (bounce_task task first) own
flush_of_bounces_hands_in task first answer own asked (answered.no_memory none refused) = inl (ap hand_ins none)
flush_of_bounces_hands_in task first answer own asked (answered.flushed bytes are out) = hands_in_own (bounce_task task first) bytes answer own asked out

bounce_log_hands_in : (task : Task) (first : PostfixRequest) (answer : RequestAnswer) (gained : List Deed)
    → first_flush task.terms.service task.request ≡ Some first → notice_asked task.request ≡ Some task.notice → IsBounceLogTold task.terms first answer gained → (hand_ins gained ≡ []) ⊎ HandsInOfBounceLog task gained
bounce_log_hands_in task first answer gained first_is asked (answered.unsought why is a) = inl (ap hand_ins is)
bounce_log_hands_in task first answer gained first_is asked (answered.no_log is a) = inl (ap hand_ins is)
bounce_log_hands_in task first answer gained first_is asked (answered.told own is flushes) =
    after_sought task first gained own first_is is
    (flush_of_bounces_hands_in task first answer own (first_asks task.terms.service task.request first task.notice first_is asked) flushes)

flush_hands_in : (task : Task) (first : PostfixRequest) (bytes : List ℕ) (answer : RequestAnswer) (gained : List Deed)
    → first_flush task.terms.service task.request ≡ Some first → notice_asked task.request ≡ Some task.notice → IsFlushedInTurn task.terms first task.request bytes answer gained → HandsInInTurn task gained
flush_hands_in task first bytes answer gained first_is asked (answered.put_off not_done first_told) = record {
  first = gained;
  rest = [];
  gained_are = sym (append-nil gained);
  of_bounce_log = bounce_log_hands_in task first answer gained first_is asked first_told;
  of_own_log = inl refl;
}
flush_hands_in task first bytes answer gained first_is asked (answered.in_turn front rest is first_told out) = record {
  first = front;
  rest = rest;
  gained_are = is;
  of_bounce_log = bounce_log_hands_in task first (Ok carried_out) front first_is asked first_told;
  of_own_log = hands_in_own task bytes answer rest asked out;
}

hands_in_if : (found : Option PostfixRequest) (task : Task) (bytes : List ℕ) (answer : RequestAnswer) (gained : List Deed)
    → first_flush task.terms.service task.request ≡ found → notice_asked task.request ≡ Some task.notice
    → MatchOption found (IsCarriedOut task.terms task.request bytes answer gained) (λ first. IsFlushedInTurn task.terms first task.request bytes answer gained)
    → HandsInInTurn task gained
hands_in_if (Some first) task bytes answer gained first_is asked is = flush_hands_in task first bytes answer gained first_is asked is
hands_in_if None task bytes answer gained first_is asked is = record {
  first = [];
  rest = gained;
  gained_are = refl;
  of_bounce_log = inl refl;
  of_own_log = hands_in_own task bytes answer gained asked is;
}

pub answered_hand_ins : (task : Task) (bytes : List ℕ) (answer : RequestAnswer) (gained : List Deed)
    → notice_asked task.request ≡ Some task.notice → IsAnswered task.terms task.request bytes answer gained → HandsInInTurn task gained
answered_hand_ins task bytes answer gained asked is =
    hands_in_if (first_flush task.terms.service task.request) task bytes answer gained refl asked is

none_of_bounce_log : (task : Task) (gained : List Deed) → notice_asked task.request ≡ Some task.notice → is_no_sender task.terms.settings.double_bounce task.notice.sender ≡ true
    → (hand_ins gained ≡ []) ⊎ HandsInOfBounceLog task gained → hand_ins gained ≡ []
none_of_bounce_log task gained asked none (inl is) = is
none_of_bounce_log task gained asked none (inr found) =
    ap hand_ins found.gained_are
    ∙ none_once (bounce_task task found.first) found.own (first_asks task.terms.service task.request found.first task.notice found.first_is asked) none (inr found.once)

pub answered_to_nobody : (task : Task) (bytes : List ℕ) (answer : RequestAnswer) (gained : List Deed)
    → notice_asked task.request ≡ Some task.notice → IsAnswered task.terms task.request bytes answer gained → is_no_sender task.terms.settings.double_bounce task.notice.sender ≡ true → hand_ins gained ≡ []
answered_to_nobody task bytes answer gained asked is none =
    let handed = answered_hand_ins task bytes answer gained asked is in
    ap hand_ins handed.gained_are
    ∙ none_of_both handed.first handed.rest (none_of_bounce_log task handed.first asked none handed.of_bounce_log)
    (none_once task handed.rest asked none handed.of_own_log)

-- ---- appends

-- an append is carried out on the log of its service alone
append_alone : (service : Service) (terms : Terms) (request : AppendRequest) (bytes : List ℕ) (answer : RequestAnswer) (gained : List Deed)
    → MatchOption (first_flush service (Append request)) (IsCarriedOut terms (Append request) bytes answer gained) (λ first. IsFlushedInTurn terms first (Append request) bytes answer gained)
    → IsCarriedOut terms (Append request) bytes answer gained
append_alone Bounce terms request bytes answer gained is = is
append_alone Defer terms request bytes answer gained is = is
append_alone TraceLog terms request bytes answer gained is = is

pub answered_append : (terms : Terms) (request : AppendRequest) (bytes : List ℕ) (answer : RequestAnswer) (gained : List Deed)
    → IsAnswered terms (Append request) bytes answer gained → answer ≡ Ok 0 → StandsOrIsPassedOn terms.service request bytes gained
answered_append terms request bytes answer gained is zero =
    answered_append_stands terms request bytes answer gained (append_alone terms.service terms request bytes answer gained is) zero
