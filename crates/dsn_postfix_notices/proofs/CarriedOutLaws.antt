-- The laws of requests that were carried out.
use Rattle.std.proofs.Common.{◌≡◌, ℕ, Bool, true, false, List, [], ◌∷◌, ◌++◌, Option, Some, None, Result, Ok, Err, refl, sym, ap, subst, ◌∙◌, append_assoc, append-nil, inl, inr}
use Rattle.std.specs.Prelude.{◌⊎◌, ◌&&◌, is_err, not, unwrap_or}
use Rattle.dsn_outcome.specs.Letter.{Letter}
use Rattle.dsn_text.specs.declared.no_memory.NoMemory.{NoMemory}
use Rattle.dsn_text.specs.declared.service.Service.{Service}
use Rattle.dsn_postfix.specs.NoticePlan.{notice_asked, notices_of}
use Rattle.dsn_postfix.specs.PlannedNotice.{NoticeFacts}
use Rattle.dsn_postfix.specs.RequestFlags.{asks_clean}
use Rattle.dsn_postfix.specs.Wanted.{is_no_sender}
use Rattle.dsn_postfix.specs.declared.cant_say.CantSay.{CantSay}
use Rattle.dsn_postfix.specs.declared.postfix_request.AppendRequest.{AppendRequest}
use Rattle.dsn_postfix.specs.declared.postfix_request.NoticeRequest.{NoticeRequest}
use Rattle.dsn_postfix.specs.declared.postfix_request.PostfixRequest.{PostfixRequest}
use Rattle.dsn_postfix.specs.declared.postfix_request.PostfixRequest.TheVariants.{Append, Flush, Warn, Verp, One, Trace}
use Rattle.dsn_postfix_files.specs.QueueRecipients.{RecipientFacts}
use Rattle.dsn_postfix_notices.specs.declared.requests.deed_fault.DeedFault.{DeedFault}
use Rattle.dsn_postfix_notices.specs.declared.requests.untold.Untold.{Untold}
use Rattle.dsn_postfix_notices.specs.declared.requests.untold.Untold.TheVariants.{Failed, NoMemory as UntoldNoMemory, PassedOn}
use Rattle.dsn_postfix_notices.specs.requests.AppendDeeds.{IsAppended, IsLogged, record_bytes}
use Rattle.dsn_postfix_notices.specs.requests.AppendDeeds as append
use Rattle.dsn_postfix_notices.specs.requests.CarriedOut.{Cleans, IsCarriedOut, IsDone, must_clean, queue_id_of, task_of}
use Rattle.dsn_postfix_notices.specs.requests.Deed.{Answer, Appended, Deed, HandedIn, LogRead, LogReleased, LogRemoved, LogSought, MarkedDone, MessageRead, PassedOn}
use Rattle.dsn_postfix_notices.specs.requests.MailFound.{readings}
use Rattle.dsn_postfix_notices.specs.requests.NoticeDeeds.{EndsTelling, IsNotified}
use Rattle.dsn_postfix_notices.specs.requests.RequestLaws.{AreAllTold, AreHandedIn, AreToldFirst, HandsInOnce, IsLeftOver, IsLeftToPostfix, IsRemovedAfter, IsTellingDone, StandsOrIsPassedOn, hand_ins}
use Rattle.dsn_postfix_notices.specs.requests.RequestLetters.{AreLettersOf, first_serial, message_said}
use Rattle.dsn_postfix_notices.specs.requests.RequestStatus.{RequestAnswer, carried_out, is_carried_out, not_carried_out, status_after, status_passed_on}
use Rattle.dsn_postfix_notices.specs.requests.Task.{Task, Terms}
use Rattle.dsn_postfix_notices.proofs.RequestLawLemmas.{Block, RemovesNone, hand_ins-append, is_removal}
use Rattle.dsn_postfix_notices.proofs.TellingParts.{IsRemovalPart, NotifiedParts, ToldSo, notified_parts, nothing_removed, removed_told}

-- ---- which requests

some_is : {X : Type 0} → (x y : X) → Some x ≡ Some y → x ≡ y
some_is x y e = ap (λ (o : Option _). unwrap_or o x) e

no_notice : (notice : NoticeRequest) → None ≡ Some notice → ⊥
no_notice notice e = cc

done_notified : (terms : Terms) (request : PostfixRequest) (notice : NoticeRequest) (bytes : List ℕ) (answer : RequestAnswer) (gained : List Deed)
    → notice_asked request ≡ Some notice → IsDone terms request bytes answer gained → IsNotified (task_of terms request notice) bytes answer gained
done_notified terms (Append append) notice bytes answer gained e is = absurd (no_notice notice e)
done_notified terms (Flush own) notice bytes answer gained e is = subst (λ (n : NoticeRequest). IsNotified (task_of terms (Flush own) n) bytes answer gained) (some_is own notice e) is
done_notified terms (Warn own) notice bytes answer gained e is = subst (λ (n : NoticeRequest). IsNotified (task_of terms (Warn own) n) bytes answer gained) (some_is own notice e) is
done_notified terms (Verp own delimiters) notice bytes answer gained e is = subst (λ (n : NoticeRequest). IsNotified (task_of terms (Verp own delimiters) n) bytes answer gained) (some_is own notice e) is
done_notified terms (One own recipient report) notice bytes answer gained e is = subst (λ (n : NoticeRequest). IsNotified (task_of terms (One own recipient report) n) bytes answer gained) (some_is own notice e) is
done_notified terms (Trace own) notice bytes answer gained e is = subst (λ (n : NoticeRequest). IsNotified (task_of terms (Trace own) n) bytes answer gained) (some_is own notice e) is

id_of : (request : PostfixRequest) (notice : NoticeRequest) → notice_asked request ≡ Some notice → queue_id_of request ≡ notice.queue_id
id_of (Append append) notice e = absurd (no_notice notice e)
id_of (Flush own) notice e = ap (λ (n : NoticeRequest). n.queue_id) (some_is own notice e)
id_of (Warn own) notice e = ap (λ (n : NoticeRequest). n.queue_id) (some_is own notice e)
id_of (Verp own delimiters) notice e = ap (λ (n : NoticeRequest). n.queue_id) (some_is own notice e)
id_of (One own recipient report) notice e = ap (λ (n : NoticeRequest). n.queue_id) (some_is own notice e)
id_of (Trace own) notice e = ap (λ (n : NoticeRequest). n.queue_id) (some_is own notice e)

-- ---- places of deeds

abbrev pub first_or : Deed → List Deed → Deed
first_or other [] = other
first_or other (deed ∷ deeds) = deed

abbrev pub later : List Deed → List Deed
later [] = []
later (deed ∷ deeds) = deeds

nothing_is_some : (deed : Deed) (deeds : List Deed) → [] ≡ deed ∷ deeds → ⊥
nothing_is_some deed deeds e = cc

pub false_is_true : false ≡ true → ⊥
false_is_true e = cc

-- a removal after deeds that remove none
pub record AfterBlock (front rest before after : List Deed) (removal : Deed) : Type 0 where
  pub more : List Deed
  pub before_is : before ≡ front ++ more
  pub rest_is : rest ≡ more ++ removal ∷ after

pub past_block : (front rest before after : List Deed) (removal : Deed) → RemovesNone front → is_removal removal ≡ true → front ++ rest ≡ before ++ removal ∷ after → AfterBlock front rest before after removal
past_block [] rest before after removal keeps removes e = record { more = before; before_is = refl; rest_is = e }
past_block (deed ∷ front) rest [] after removal keeps removes e =
    absurd (false_is_true (sym keeps.0 ∙ ap (λ (deeds : List Deed). is_removal (first_or deed deeds)) e ∙ removes))
past_block (deed ∷ front) rest (other ∷ before) after removal keeps removes e =
    let more = past_block front rest before after removal keeps.1 removes (ap later e) in
    record {
      more = more.more;
      before_is = ap (λ (deeds : List Deed). first_or deed deeds ∷ before) (sym e) ∙ ap (λ (deeds : List Deed). deed ∷ deeds) more.before_is;
      rest_is = more.rest_is;
    }

abbrev removed_service : Service → Deed → Service
removed_service other (LogRemoved service id answer) = service
removed_service other (LogSought service id answer) = other
removed_service other (LogRead service id answer) = other
removed_service other (Appended service id bytes answer) = other
removed_service other (MessageRead queue id answer) = other
removed_service other (HandedIn path message answer) = other
removed_service other (MarkedDone queue id place answer) = other
removed_service other (PassedOn service bytes answer) = other
removed_service other LogReleased = other

abbrev removed_id : List ℕ → Deed → List ℕ
removed_id other (LogRemoved service id answer) = id
removed_id other (LogSought service id answer) = other
removed_id other (LogRead service id answer) = other
removed_id other (Appended service id bytes answer) = other
removed_id other (MessageRead queue id answer) = other
removed_id other (HandedIn path message answer) = other
removed_id other (MarkedDone queue id place answer) = other
removed_id other (PassedOn service bytes answer) = other
removed_id other LogReleased = other

-- a removal that is the first of some deeds
pub record SameRemoval (service other : Service) (id named : List ℕ) (rest after : List Deed) : Type 0 where
  pub of_service : other ≡ service
  pub of_message : named ≡ id
  pub rest_is : rest ≡ after

same_removal : (service other : Service) (id named : List ℕ) (answer given : Answer) (rest after : List Deed) → LogRemoved service id answer ∷ rest ≡ LogRemoved other named given ∷ after → SameRemoval service other id named rest after
same_removal service other id named answer given rest after e = record {
  of_service = sym (ap (λ (deeds : List Deed). removed_service service (first_or LogReleased deeds)) e);
  of_message = sym (ap (λ (deeds : List Deed). removed_id id (first_or LogReleased deeds)) e);
  rest_is = ap later e;
}

-- the removal that CLEAN asks for
pub record CleansLast (service other : Service) (id named : List ℕ) (due : Bool) (after : List Deed) : Type 0 where
  pub is_due : due ≡ true
  pub of_service : other ≡ service
  pub of_message : named ≡ id
  pub none_after : after ≡ []

pub nothing_after : (more after : List Deed) (removal : Deed) → [] ≡ more ++ removal ∷ after → ⊥
nothing_after [] after removal e = nothing_is_some removal after e
nothing_after (deed ∷ more) after removal e = nothing_is_some deed (more ++ removal ∷ after) e

one_removal : (service other : Service) (id named : List ℕ) (answer given : Answer) (more after : List Deed) → LogRemoved service id answer ∷ [] ≡ more ++ LogRemoved other named given ∷ after → CleansLast service other id named true after
one_removal service other id named answer given [] after e =
    let same = same_removal service other id named answer given [] after e in
    record { is_due = refl; of_service = same.of_service; of_message = same.of_message; none_after = sym same.rest_is }
one_removal service other id named answer given (deed ∷ more) after e = absurd (nothing_after more after (LogRemoved other named given) (ap later e))

cleaned_last : (service other : Service) (request : PostfixRequest) (named : List ℕ) (due : Bool) (cleaned more after : List Deed) (given : Answer) → Cleans service request due cleaned
    → cleaned ≡ more ++ LogRemoved other named given ∷ after → CleansLast service other (queue_id_of request) named due after
cleaned_last service other request named true cleaned more after given cleans e = one_removal service other (queue_id_of request) named cleans.given given more after (sym cleans.removed ∙ e)
cleaned_last service other request named false cleaned more after given cleans e = absurd (nothing_after more after (LogRemoved other named given) (sym cleans ∙ e))

-- ---- a removal

-- after the sender was notified, only CLEAN removes a log
after_tail : (task : Task) (other : Service) (answer : RequestAnswer) (tail cleaned before more after : List Deed) (named : List ℕ) (given : Answer)
    → notice_asked task.request ≡ Some task.notice → Block tail [] → Cleans task.terms.service task.request (must_clean task.request answer) cleaned
    → tail ++ cleaned ≡ more ++ LogRemoved other named given ∷ after → IsRemovedAfter task answer before after other named
after_tail task other answer tail cleaned before more after named given asked block cleans e =
    let past = past_block tail cleaned more after (LogRemoved other named given) block.keeps refl e in
    let last = cleaned_last task.terms.service other task.request named (must_clean task.request answer) cleaned past.more after given cleans past.rest_is in
    record { of_service = last.of_service; of_message = last.of_message ∙ id_of task.request task.notice asked; told = inr (last.is_due, last.none_after) }

at_removal : (task : Task) (other : Service) (answer : RequestAnswer) (front removal tail cleaned before more after : List Deed) (named : List ℕ) (given : Answer)
    → notice_asked task.request ≡ Some task.notice → IsRemovalPart task front removal → Block tail [] → Cleans task.terms.service task.request (must_clean task.request answer) cleaned
    → before ≡ front ++ more → removal ++ (tail ++ cleaned) ≡ more ++ LogRemoved other named given ∷ after → IsRemovedAfter task answer before after other named
at_removal task other answer front removal tail cleaned before more after named given asked (nothing_removed none) tail_block cleans before_is e =
    after_tail task other answer tail cleaned before more after named given asked tail_block cleans
    (ap (λ (deeds : List Deed). deeds ++ (tail ++ cleaned)) (sym none) ∙ e)
at_removal task other answer front removal tail cleaned before [] after named given asked (removed_told came is told) tail_block cleans before_is e =
    let same = same_removal task.terms.service other task.notice.queue_id named came given (tail ++ cleaned) after (ap (λ (deeds : List Deed). deeds ++ (tail ++ cleaned)) (sym is) ∙ e) in
    record {
      of_service = same.of_service;
      of_message = same.of_message;
      told = inl (subst (λ (deeds : List Deed). AreAllTold task deeds) (sym (before_is ∙ append-nil front)) told);
    }
at_removal task other answer front removal tail cleaned before (deed ∷ more) after named given asked (removed_told came is told) tail_block cleans before_is e =
    after_tail task other answer tail cleaned before more after named given asked tail_block cleans
    (ap later (ap (λ (deeds : List Deed). deeds ++ (tail ++ cleaned)) (sym is) ∙ e))

-- the deeds of a request for notices, in one list
one_row : (front removal tail cleaned told done gained : List Deed) → gained ≡ done ++ cleaned → done ≡ told ++ tail → told ≡ front ++ removal → gained ≡ front ++ (removal ++ (tail ++ cleaned))
one_row front removal tail cleaned told done gained g d t =
    g ∙ ap (λ (deeds : List Deed). deeds ++ cleaned) d ∙ append_assoc told tail cleaned
    ∙ ap (λ (deeds : List Deed). deeds ++ (tail ++ cleaned)) t ∙ append_assoc front removal (tail ++ cleaned)

pub removed_only_after : (task : Task) (bytes : List ℕ) (answer : RequestAnswer) (gained before after : List Deed) (other : Service) (named : List ℕ) (given : Answer)
    → IsTellingDone task bytes answer gained → gained ≡ before ++ LogRemoved other named given ∷ after
    → IsRemovedAfter task answer before after other named
removed_only_after task bytes answer gained before after other named given done e =
    let out = done.carried_out in
    let parts = notified_parts task bytes answer out.done (done_notified task.terms task.request task.notice bytes answer out.done done.asked out.is_done) in
    let row = one_row parts.telling.front parts.telling.removal parts.tail out.cleaned parts.told out.done gained out.gained_are parts.all parts.telling.parts in
    let past = past_block parts.telling.front (parts.telling.removal ++ (parts.tail ++ out.cleaned)) before after (LogRemoved other named given) parts.telling.keeps refl (sym row ∙ e) in
    at_removal task other answer parts.telling.front parts.telling.removal parts.tail out.cleaned before past.more after named given done.asked
    parts.telling.removal_is parts.tail_block out.clean past.before_is past.rest_is

-- ---- what is submitted

removal_hands_in_none : (task : Task) (front removal : List Deed) → IsRemovalPart task front removal → hand_ins removal ≡ []
removal_hands_in_none task front removal (nothing_removed is) = ap hand_ins is
removal_hands_in_none task front removal (removed_told answer is told) = ap hand_ins is

cleaning_hands_in_none : (service : Service) (request : PostfixRequest) (due : Bool) (cleaned : List Deed) → Cleans service request due cleaned → hand_ins cleaned ≡ []
cleaning_hands_in_none service request true cleaned cleans = ap hand_ins cleans.removed
cleaning_hands_in_none service request false cleaned cleans = ap hand_ins cleans

pub none_of_both : (one two : List Deed) → hand_ins one ≡ [] → hand_ins two ≡ [] → hand_ins (one ++ two) ≡ []
none_of_both one two first second = hand_ins-append one two ∙ (λ i. first i ++ second i)

none_after : (one two : List Deed) → hand_ins two ≡ [] → hand_ins (one ++ two) ≡ hand_ins one
none_after one two none = hand_ins-append one two ∙ ap (λ (deeds : List Deed). hand_ins one ++ deeds) none ∙ append-nil (hand_ins one)

-- the deeds of a request: those that notify the sender, and others that submit nothing
pub record RequestRow (task : Task) (bytes : List ℕ) (answer : RequestAnswer) (done gained : List Deed) : Type 0 where
  pub parts : NotifiedParts task bytes answer done
  pub others : List Deed
  pub gained_are : gained ≡ parts.telling.front ++ others
  pub none_handed : hand_ins others ≡ []

row_of : (task : Task) (bytes : List ℕ) (answer : RequestAnswer) (gained : List Deed)
    → (telling_done : IsTellingDone task bytes answer gained) → RequestRow task bytes answer telling_done.carried_out.done gained
row_of task bytes answer gained telling_done =
    let out = telling_done.carried_out in
    let parts = notified_parts task bytes answer out.done (done_notified task.terms task.request task.notice bytes answer out.done telling_done.asked out.is_done) in
    let telling = parts.telling in
    record {
      parts = parts;
      others = telling.removal ++ (parts.tail ++ out.cleaned);
      gained_are = one_row telling.front telling.removal parts.tail out.cleaned parts.told out.done gained out.gained_are parts.all telling.parts;
      none_handed = none_of_both telling.removal (parts.tail ++ out.cleaned)
          (removal_hands_in_none task telling.front telling.removal telling.removal_is)
          (none_of_both parts.tail out.cleaned parts.tail_block.handed_are (cleaning_hands_in_none task.terms.service task.request (must_clean task.request answer) out.cleaned out.clean));
    }

-- other deeds after them submit nothing
once_longer : (task : Task) (front others : List Deed) → hand_ins others ≡ []
    → HandsInOnce task front → HandsInOnce task (front ++ others)
once_longer task front others none once = record {
  found = once.found;
  more = once.more ++ others;
  gained_are = ap (λ (deeds : List Deed). deeds ++ others) once.gained_are ∙ append_assoc (readings task once.found) once.more others;
  heading = once.heading;
  letters = once.letters;
  asked = once.asked;
  front = once.front;
  rest = once.rest;
  letters_are = once.letters_are;
  each = subst (λ (deeds : List Deed). AreHandedIn once.heading once.front deeds) (sym (none_after front others none)) once.each;
}

once_or_none : (task : Task) (front others : List Deed) → hand_ins others ≡ []
    → (hand_ins front ≡ []) ⊎ HandsInOnce task front → (hand_ins (front ++ others) ≡ []) ⊎ HandsInOnce task (front ++ others)
once_or_none task front others none (inl is) = inl (none_of_both front others is none)
once_or_none task front others none (inr once) = inr (once_longer task front others none once)

pub handed_in_once : (task : Task) (bytes : List ℕ) (answer : RequestAnswer) (gained : List Deed)
    → IsTellingDone task bytes answer gained → (hand_ins gained ≡ []) ⊎ HandsInOnce task gained
handed_in_once task bytes answer gained done =
    let row = row_of task bytes answer gained done in
    subst (λ (deeds : List Deed). (hand_ins deeds ≡ []) ⊎ HandsInOnce task deeds) (sym row.gained_are)
    (once_or_none task row.parts.telling.front row.others row.none_handed row.parts.telling.once)

-- ---- nobody to be notified

no_sender_plan : (task : Task) (queued : List RecipientFacts) (log : Option (List ℕ))
    → notice_asked task.request ≡ Some task.notice → is_no_sender task.terms.settings.double_bounce task.notice.sender ≡ true
    → notices_of task.terms.settings.double_bounce task.terms.service task.request queued log ≡ Ok []
unfolding notices_of
no_sender_plan task queued log asked none = rw asked (rw none refl)

abbrev notices_or : List NoticeFacts → Result (List NoticeFacts) CantSay → List NoticeFacts
notices_or other (Ok notices) = notices
notices_or other (Err reason) = other

same_notices : (one two : List NoticeFacts) (plan : Result (List NoticeFacts) CantSay) → plan ≡ Ok one → plan ≡ Ok two → one ≡ two
same_notices one two plan first second = sym (ap (notices_or one) first) ∙ ap (notices_or one) second

no_letter_more : (letter : Letter) (letters : List Letter) → [] ≡ letter ∷ letters → ⊥
no_letter_more letter letters e = cc

empty_front : (front rest : List Letter) → [] ≡ front ++ rest → front ≡ []
empty_front [] rest e = refl
empty_front (letter ∷ front) rest e = absurd (no_letter_more letter (front ++ rest) e)

pub none_once : (task : Task) (gained : List Deed) → notice_asked task.request ≡ Some task.notice → is_no_sender task.terms.settings.double_bounce task.notice.sender ≡ true
    → (hand_ins gained ≡ []) ⊎ HandsInOnce task gained → hand_ins gained ≡ []
none_once task gained asked none (inl is) = is
none_once task gained asked none (inr once) =
    let letters = once.asked.each in
    let no_notices : letters.notices ≡ [] = sym (same_notices [] letters.notices _ (no_sender_plan task _ once.found.log asked none) letters.planned) in
    let no_letters : once.letters ≡ [] = subst (λ (ns : List NoticeFacts). AreLettersOf (message_said task letters.records) task.terms.moment (first_serial task once.found.log) ns once.letters) no_notices letters.each in
    let no_front : once.front ≡ [] = empty_front once.front once.rest (sym no_letters ∙ once.letters_are) in
    subst (λ (ls : List Letter). AreHandedIn once.heading ls (hand_ins gained)) no_front once.each

pub nobody_is_told : (task : Task) (bytes : List ℕ) (answer : RequestAnswer) (gained : List Deed)
    → IsTellingDone task bytes answer gained → is_no_sender task.terms.settings.double_bounce task.notice.sender ≡ true → hand_ins gained ≡ []
nobody_is_told task bytes answer gained done none =
    none_once task gained done.asked none (handed_in_once task bytes answer gained done)

-- ---- appends

abbrev pub status_or : ℕ → RequestAnswer → ℕ
status_or other (Ok status) = status
status_or other (Err refused) = other

pub not_zero : not_carried_out ≡ carried_out → ⊥
not_zero e = cc

no_status : (refused : NoMemory) (status : ℕ) → Err refused ≡ Ok status → ⊥
no_status refused status e = cc

pub status_is : (one : ℕ) (answer : RequestAnswer) → answer ≡ Ok one → status_or one answer ≡ one
status_is one answer e = ap (status_or one) e

stands_if_tried : (service : Service) (request : AppendRequest) (bytes : List ℕ) (gained : List Deed) (given : Answer) → gained ≡ Appended service request.queue_id (record_bytes service request) given ∷ [] → status_after given ≡ 0 → StandsOrIsPassedOn service request bytes gained
stands_if_tried service request bytes gained (Ok done) is zero = inl is
stands_if_tried service request bytes gained (Err why) is zero = absurd (not_zero zero)

-- Postfix's own service answered 0
pub passed_with_zero : (service : Service) (bytes : List ℕ) (gained : List Deed) (given : Result ℕ DeedFault) → gained ≡ PassedOn service bytes given ∷ [] → status_passed_on given ≡ 0 → gained ≡ PassedOn service bytes (Ok 0) ∷ []
passed_with_zero service bytes gained (Ok status) is zero = is ∙ ap (λ (n : ℕ). PassedOn service bytes (Ok n) ∷ []) zero
passed_with_zero service bytes gained (Err why) is zero = absurd (not_zero zero)

logged_stands : (service : Service) (request : AppendRequest) (bytes : List ℕ) (status : ℕ) (gained : List Deed) → IsLogged service request bytes status gained → status ≡ 0 → StandsOrIsPassedOn service request bytes gained
logged_stands service request bytes status gained (append.tried none given is comes) zero = stands_if_tried service request bytes gained given is (sym comes ∙ zero)
logged_stands service request bytes status gained (append.unsayable field some passes) zero =
    inr (passed_with_zero service bytes gained passes.given passes.passed (sym (status_is (status_passed_on passes.given) (Ok status) passes.answer_is) ∙ zero))

append_stands : (service : Service) (request : AppendRequest) (bytes : List ℕ) (answer : RequestAnswer) (gained : List Deed) → IsAppended service request bytes answer gained → answer ≡ Ok 0 → StandsOrIsPassedOn service request bytes gained
append_stands service request bytes (Ok status) gained is zero = logged_stands service request bytes status gained is (status_is 0 (Ok status) zero)
append_stands service request bytes (Err refused) gained is zero = absurd (no_status refused 0 zero)

pub and_false : (b : Bool) → (b && false) ≡ false
and_false true = refl
and_false false = refl

pub nothing_to_clean : (service : Service) (request : PostfixRequest) (answer : RequestAnswer) (cleaned : List Deed) → answer ≡ Ok 0 → Cleans service request (must_clean request answer) cleaned → cleaned ≡ []
nothing_to_clean service request answer cleaned zero cleans =
    subst (λ (due : Bool). Cleans service request due cleaned)
    (ap (λ (a : RequestAnswer). asks_clean request && not (is_carried_out a)) zero ∙ and_false (asks_clean request)) cleans

pub answered_append_stands : (terms : Terms) (request : AppendRequest) (bytes : List ℕ) (answer : RequestAnswer) (gained : List Deed)
    → IsCarriedOut terms (Append request) bytes answer gained → answer ≡ Ok 0 → StandsOrIsPassedOn terms.service request bytes gained
answered_append_stands terms request bytes answer gained out zero =
    subst (λ (deeds : List Deed). StandsOrIsPassedOn terms.service request bytes deeds)
    (sym (out.gained_are ∙ ap (λ (deeds : List Deed). out.done ++ deeds) (nothing_to_clean terms.service (Append request) answer out.cleaned zero out.clean) ∙ append-nil out.done))
    (append_stands terms.service request bytes answer out.done out.is_done zero)

-- ---- requests for notices that are answered 0

end_told : (task : Task) (bytes : List ℕ) (answer : RequestAnswer) (telling : Result (Unit {0}) Untold) (front told last : List Deed)
    → ToldSo task telling front told → EndsTelling task.terms.service bytes telling answer last → answer ≡ Ok 0
    → AreAllTold task front ⊎ (IsLeftOver task told × (last ≡ PassedOn task.terms.service bytes (Ok 0) ∷ []))
end_told task bytes answer (Ok done) front told last so ends zero = inl so
end_told task bytes answer (Err (PassedOn why)) front told last so passes zero =
    inr (so, passed_with_zero task.terms.service bytes last passes.given passes.passed (status_is 0 (Ok (status_passed_on passes.given)) (sym passes.answer_is ∙ zero)))
end_told task bytes answer (Err Failed) front told last so ends zero = absurd (not_zero (status_is 0 (Ok not_carried_out) (sym ends.1 ∙ zero)))
end_told task bytes answer (Err UntoldNoMemory) front told last so ends zero = absurd (false_is_true (ap is_err (sym zero) ∙ ends.1))

told_or_passed : (task : Task) (bytes : List ℕ) (told last front others gained : List Deed) → gained ≡ told ++ LogReleased ∷ last → gained ≡ front ++ others → hand_ins others ≡ []
    → AreAllTold task front ⊎ (IsLeftOver task told × (last ≡ PassedOn task.terms.service bytes (Ok 0) ∷ []))
    → AreToldFirst task gained ⊎ IsLeftToPostfix task bytes gained
told_or_passed task bytes told last front others gained is row none (inl all) = inl (record { first = front; after = others; gained_are = row; told = all; none_handed = none })
told_or_passed task bytes told last front others gained is row none (inr passed) =
    inr (record { tried = told; gained_are = is ∙ ap (λ (deeds : List Deed). told ++ LogReleased ∷ deeds) passed.1; why = passed.0 })

pub told_or_left : (task : Task) (bytes : List ℕ) (answer : RequestAnswer) (gained : List Deed)
    → IsTellingDone task bytes answer gained → answer ≡ Ok 0
    → AreToldFirst task gained ⊎ IsLeftToPostfix task bytes gained
told_or_left task bytes answer gained done zero =
    let out = done.carried_out in
    let row = row_of task bytes answer gained done in
    let parts = row.parts in
    let none_cleaned = nothing_to_clean task.terms.service task.request answer out.cleaned zero out.clean in
    told_or_passed task bytes parts.told parts.last parts.telling.front row.others gained
    (out.gained_are ∙ ap (λ (deeds : List Deed). out.done ++ deeds) none_cleaned ∙ append-nil out.done ∙ parts.all ∙ ap (λ (deeds : List Deed). parts.told ++ deeds) parts.tail_is)
    row.gained_are row.none_handed
    (end_told task bytes answer parts.ended parts.telling.front parts.told parts.last parts.telling.so parts.ends zero)
