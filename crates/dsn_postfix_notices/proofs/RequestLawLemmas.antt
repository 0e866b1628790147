-- Lemmas on the deeds of a carried out request: its parts, which of them remove a log, and which submit.
use Rattle.std.proofs.Common.{◌≡◌, ℕ, Bool, true, false, List, [], ◌∷◌, ◌++◌, Option, Result, Ok, Err, refl, sym, ap, subst, ◌∙◌, append_assoc, append-nil, map}
use Rattle.std.specs.Prelude.{if◌then◌else◌}
use Rattle.dsn_outcome.specs.Letter.{Letter}
use Rattle.dsn_text.specs.declared.service.Service.{Service}
use Rattle.dsn_postfix.specs.declared.postfix_request.NoticeRequest.{NoticeRequest}
use Rattle.dsn_postfix.specs.declared.postfix_request.PostfixRequest.{PostfixRequest}
use Rattle.dsn_smtp.specs.declared.hand_in_fault.HandInFault.{HandInFault}
use Rattle.dsn_postfix_notices.specs.declared.requests.deed_fault.DeedFault.{DeedFault}
use Rattle.dsn_postfix_notices.specs.declared.requests.pass_reason.PassReason.{PassReason}
use Rattle.dsn_postfix_notices.specs.declared.requests.pass_reason.PassReason.TheVariants.{Refused}
use Rattle.dsn_postfix_notices.specs.declared.requests.untold.Untold.{Untold}
use Rattle.dsn_postfix_notices.specs.declared.requests.untold.Untold.TheVariants.{Failed, NoMemory, PassedOn}
use Rattle.dsn_smtp.specs.HandIn.{is_refused_for_good}
use Rattle.dsn_postfix_notices.specs.requests.Deed.{Appended, Deed, HandedIn, LogRead, LogReleased, LogRemoved, LogSought, MarkedDone, MessageRead, PassedOn}
use Rattle.dsn_postfix_notices.specs.requests.Finishing.{AreMarked, StopsAtPlace, marking}
use Rattle.dsn_postfix_notices.specs.requests.HandingIn.{AreAccepted, IsNotAccepted, StopsAtLetter, hand_in_of, is_first_after}
use Rattle.dsn_postfix_notices.specs.requests.HandingIn as handing
use Rattle.dsn_postfix_notices.specs.requests.Heading.{Heading}
use Rattle.dsn_postfix_notices.specs.requests.MailFound.{FailsToRead, MailRead, log_reading, log_unread, message_reading, message_unread, readings, tells_of_log}
use Rattle.dsn_postfix_notices.specs.requests.Task.{Task}
use Rattle.dsn_postfix_notices.specs.requests.RequestLaws.{AreHandedIn, hand_ins, is_hand_in, onto_if}

-- ---- deeds that remove no log

abbrev pub is_removal : Deed → Bool
is_removal (LogSought service id answer) = false
is_removal (LogRead service id answer) = false
is_removal (Appended service id bytes answer) = false
is_removal (LogRemoved service id answer) = true
is_removal (MessageRead queue id answer) = false
is_removal (HandedIn path message answer) = false
is_removal (MarkedDone queue id place answer) = false
is_removal (PassedOn service bytes answer) = false
is_removal LogReleased = false

abbrev pub RemovesNone : List Deed → Type 0
RemovesNone [] = Unit {0}
RemovesNone (deed ∷ deeds) = (is_removal deed ≡ false) × RemovesNone deeds

-- deeds that remove no log, and those of them that submit
pub record Block (deeds handed : List Deed) : Type 0 where
  pub keeps : RemovesNone deeds
  pub handed_are : hand_ins deeds ≡ handed

keeps_append : (one two : List Deed) → RemovesNone one → RemovesNone two → RemovesNone (one ++ two)
keeps_append [] two first second = second
keeps_append (deed ∷ one) two first second = (first.0, keeps_append one two first.1 second)

onto_append : (b : Bool) (deed : Deed) (one two : List Deed) → onto_if b deed (one ++ two) ≡ onto_if b deed one ++ two
onto_append true deed one two = refl
onto_append false deed one two = refl

pub hand_ins-append : (one two : List Deed) → hand_ins (one ++ two) ≡ hand_ins one ++ hand_ins two
hand_ins-append [] two = refl
hand_ins-append (deed ∷ one) two = ap (onto_if (is_hand_in deed) deed) (hand_ins-append one two) ∙ onto_append (is_hand_in deed) deed (hand_ins one) (hand_ins two)

pub both : (one two h k : List Deed) → Block one h → Block two k → Block (one ++ two) (h ++ k)
both one two h k first second = record {
  keeps = keeps_append one two first.keeps second.keeps;
  handed_are = hand_ins-append one two ∙ (λ i. first.handed_are i ++ second.handed_are i);
}

pub block_is : (one two h : List Deed) → one ≡ two → Block two h → Block one h
block_is one two h is block = subst (λ (deeds : List Deed). Block deeds h) (sym is) block

pub no_deeds : Block [] []
no_deeds = record { keeps = tt; handed_are = refl }

-- ---- what is read

reading_block : (tells : Bool) (service : Service) (notice : NoticeRequest) (log : Result (Option (List ℕ)) DeedFault) (file : Result (List ℕ) DeedFault) → Block (log_reading tells service notice log ++ message_reading notice file) []
reading_block true service notice log file = record { keeps = (refl, (refl, tt)); handed_are = refl }
reading_block false service notice log file = record { keeps = (refl, tt); handed_are = refl }

pub readings_block : (task : Task) (found : MailRead) → Block (readings task found) []
readings_block task found = reading_block (tells_of_log task.request) task.terms.service task.notice (Ok found.log) (Ok found.file)

log_alone : (service : Service) (notice : NoticeRequest) (why : DeedFault) → Block (log_reading true service notice (Err why)) []
log_alone service notice why = record { keeps = (refl, tt); handed_are = refl }

pub unread_block : (task : Task) (gained : List Deed) → FailsToRead task gained → Block gained []
unread_block task gained (log_unread why tells is) = block_is gained _ [] is (log_alone task.terms.service task.notice why)
unread_block task gained (message_unread log why is) = block_is gained _ [] is (reading_block (tells_of_log task.request) task.terms.service task.notice (Ok log) (Err why))

-- ---- letters

hand_in_alone : (deed : Deed) (heading : Heading) (letter : Letter) (answer : Result (List ℕ) _) → deed ≡ hand_in_of heading letter answer → (is_removal deed ≡ false) × (is_hand_in deed ≡ true)
hand_in_alone deed heading letter answer is = (ap is_removal is, ap is_hand_in is)

pub accepted_block : (heading : Heading) (letters : List Letter) (gained : List Deed) → AreAccepted heading letters gained → Block gained gained
accepted_block heading [] gained are = subst (λ (deeds : List Deed). Block deeds deeds) (sym are) no_deeds
accepted_block heading (letter ∷ letters) [] are = absurd are
accepted_block heading (letter ∷ letters) (deed ∷ gained) are =
    let alone = hand_in_alone deed heading letter (Ok are.0.reply) are.0.deed_is in
    let rest = accepted_block heading letters gained are.1 in
    record {
      keeps = (alone.0, rest.keeps);
      handed_are = ap (λ (b : Bool). onto_if b deed (hand_ins gained)) alone.1 ∙ ap (λ (deeds : List Deed). deed ∷ deeds) rest.handed_are;
    }

pub accepted_handed : (heading : Heading) (letters : List Letter) (gained : List Deed) → AreAccepted heading letters gained → AreHandedIn heading letters gained
accepted_handed heading [] gained are = are
accepted_handed heading (letter ∷ letters) [] are = absurd are
accepted_handed heading (letter ∷ letters) (deed ∷ gained) are = (record { answer = Ok are.0.reply; deed_is = are.0.deed_is }, accepted_handed heading letters gained are.1)

handed_more : (heading : Heading) (front back : List Letter) (one two : List Deed) → AreHandedIn heading front one → AreHandedIn heading back two → AreHandedIn heading (front ++ back) (one ++ two)
handed_more heading [] back one two first second = subst (λ (deeds : List Deed). AreHandedIn heading back (deeds ++ two)) (sym first) second
handed_more heading (letter ∷ front) back [] two first second = absurd first
handed_more heading (letter ∷ front) back (deed ∷ one) two first second = (first.0, handed_more heading front back one two first.1 second)

-- a prefix of some letters was submitted, and no log was removed
pub record FrontHanded (heading : Heading) (letters : List Letter) (gained : List Deed) : Type 0 where
  pub front : List Letter
  pub rest : List Letter
  pub letters_are : letters ≡ front ++ rest
  pub block : Block gained gained
  pub each : AreHandedIn heading front gained

one_tried : (heading : Heading) (letter : Letter) (why : _) → Block (hand_in_of heading letter (Err why) ∷ []) (hand_in_of heading letter (Err why) ∷ [])
one_tried heading letter why = record { keeps = (refl, tt); handed_are = refl }

last_handed : (heading : Heading) (first : Bool) (before after : List Letter) (stopped : Letter) (why : Untold) (taken last : List Deed) → AreAccepted heading before taken → IsNotAccepted heading first stopped why last
    → FrontHanded heading (before ++ stopped ∷ after) (taken ++ last)
last_handed heading first before after stopped why taken last accepted (handing.refused fault why_is is) =
    let tried : List Deed = hand_in_of heading stopped (Err fault) ∷ [] in
    subst (λ (deeds : List Deed). FrontHanded heading (before ++ stopped ∷ after) (taken ++ deeds)) (sym is) (record {
      front = before ++ stopped ∷ [];
      rest = after;
      letters_are = sym (append_assoc before (stopped ∷ []) after);
      block = both taken tried taken tried (accepted_block heading before taken accepted) (one_tried heading stopped fault);
      each = handed_more heading before (stopped ∷ []) taken tried (accepted_handed heading before taken accepted) (record { answer = Err fault; deed_is = refl }, refl);
    })
last_handed heading first before after stopped why taken last accepted (handing.no_memory why_is is) =
    subst (λ (deeds : List Deed). FrontHanded heading (before ++ stopped ∷ after) (taken ++ deeds)) (sym is)
    (subst (λ (deeds : List Deed). FrontHanded heading (before ++ stopped ∷ after) deeds) (sym (append-nil taken)) (record {
      front = before;
      rest = stopped ∷ after;
      letters_are = refl;
      block = accepted_block heading before taken accepted;
      each = accepted_handed heading before taken accepted;
    }))

pub stopped_front : (heading : Heading) (letters : List Letter) (why : Untold) (gained : List Deed) → StopsAtLetter heading letters why gained → FrontHanded heading letters gained
stopped_front heading letters why gained stops =
    subst (λ (deeds : List Deed). FrontHanded heading letters deeds) (sym stops.gained_are)
    (subst (λ (ls : List Letter). FrontHanded heading ls (stops.taken ++ stops.last)) (sym stops.letters_are)
    (last_handed heading (is_first_after stops.before) stops.before stops.after stops.stopped why stops.taken stops.last stops.accepted stops.not_accepted))

-- the first of some letters was refused for good, and no other was submitted
pub record FirstRefused (heading : Heading) (letters : List Letter) (gained : List Deed) : Type 0 where
  pub letter : Letter
  pub others : List Letter
  pub fault : HandInFault
  pub letters_are : letters ≡ letter ∷ others
  pub for_good : is_refused_for_good fault ≡ true
  pub tried : gained ≡ hand_in_of heading letter (Err fault) ∷ []

refused_now : (reason : PassReason) → PassedOn reason ≡ Failed → ⊥
refused_now reason e = cc

without_memory : (reason : PassReason) → PassedOn reason ≡ NoMemory → ⊥
without_memory reason e = cc

for_good_if : (reason : PassReason) (b : Bool) → PassedOn reason ≡ (if b then PassedOn Refused else Failed) → b ≡ true
for_good_if reason true e = refl
for_good_if reason false e = absurd (refused_now reason e)

first_of : (heading : Heading) (letters before after : List Letter) (stopped : Letter) (reason : PassReason) (gained taken last : List Deed) → letters ≡ before ++ stopped ∷ after → gained ≡ taken ++ last → AreAccepted heading before taken
    → IsNotAccepted heading (is_first_after before) stopped (PassedOn reason) last → FirstRefused heading letters gained
first_of heading letters [] after stopped reason gained taken last letters_are is accepted (handing.refused fault why_is tried) = record {
  letter = stopped;
  others = after;
  fault = fault;
  letters_are = letters_are;
  for_good = for_good_if reason (is_refused_for_good fault) why_is;
  tried = is ∙ ap (λ (deeds : List Deed). deeds ++ last) accepted ∙ tried;
}
first_of heading letters (other ∷ before) after stopped reason gained taken last letters_are is accepted (handing.refused fault why_is tried) = absurd (refused_now reason why_is)
first_of heading letters [] after stopped reason gained taken last letters_are is accepted (handing.no_memory why_is none) = absurd (without_memory reason why_is)
first_of heading letters (other ∷ before) after stopped reason gained taken last letters_are is accepted (handing.no_memory why_is none) = absurd (without_memory reason why_is)

pub first_refused : (heading : Heading) (letters : List Letter) (reason : PassReason) (gained : List Deed) → StopsAtLetter heading letters (PassedOn reason) gained → FirstRefused heading letters gained
first_refused heading letters reason gained stops =
    first_of heading letters stops.before stops.after stops.stopped reason gained stops.taken stops.last stops.letters_are stops.gained_are stops.accepted stops.not_accepted

-- ---- recipients

marks_block : (notice : NoticeRequest) (places : List ℕ) → Block (map (marking notice) places) []
marks_block notice [] = no_deeds
marks_block notice (place ∷ places) = record { keeps = (refl, (marks_block notice places).keeps); handed_are = (marks_block notice places).handed_are }

pub marked_block : (notice : NoticeRequest) (places : List ℕ) (gained : List Deed) → AreMarked notice places gained → Block gained []
marked_block notice places gained are = block_is gained _ [] are (marks_block notice places)

mark_alone : (notice : NoticeRequest) (place : ℕ) (why : DeedFault) → Block (MarkedDone notice.queue_name notice.queue_id place (Err why) ∷ []) []
mark_alone notice place why = record { keeps = (refl, tt); handed_are = refl }

pub stopped_marks : (notice : NoticeRequest) (places : List ℕ) (gained : List Deed) → StopsAtPlace notice places gained → Block gained []
stopped_marks notice places gained stops =
    block_is gained (stops.marks ++ stops.last) [] stops.gained_are
    (both stops.marks stops.last [] [] (marked_block notice stops.before stops.marks stops.marked)
    (block_is stops.last _ [] stops.unmarked.tried (mark_alone notice stops.stopped stops.unmarked.fault)))
