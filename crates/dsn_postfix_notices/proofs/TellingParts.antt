-- The parts of the deeds of a request for notices: deeds that remove no log, then the removal, then deeds that remove
-- no log.
use Rattle.std.proofs.Common.{◌≡◌, ℕ, Bool, true, false, List, [], ◌∷◌, ◌++◌, Option, Result, Ok, Err, refl, sym, ap, subst, ◌∙◌, append_assoc, append-nil, inl, inr}
use Rattle.std.specs.Prelude.{◌⊎◌, MatchBool}
use Rattle.dsn_outcome.specs.Letter.{Letter}
use Rattle.dsn_text.specs.declared.service.Service.{Service}
use Rattle.dsn_postfix_notices.specs.declared.requests.deed_fault.DeedFault.{DeedFault}
use Rattle.dsn_postfix_notices.specs.declared.requests.pass_reason.PassReason.TheVariants.{Postmaster}
use Rattle.dsn_postfix_notices.specs.declared.requests.untold.Untold.{Untold}
use Rattle.dsn_postfix_notices.specs.declared.requests.untold.Untold.TheVariants.{Failed, NoMemory, PassedOn}
use Rattle.dsn_postfix_notices.specs.requests.Deed.{Answer, Deed, LogReleased, LogRemoved, PassedOn}
use Rattle.dsn_postfix_notices.specs.requests.Finishing.{AreMarked, FinishesAt, RemovesLog}
use Rattle.dsn_postfix_notices.specs.requests.Finishing as finishing
use Rattle.dsn_postfix_notices.specs.requests.HandingIn.{AreAccepted, StopsAtLetter}
use Rattle.dsn_postfix_notices.specs.requests.Heading.{AreNoticesAsked, Heading}
use Rattle.dsn_postfix_notices.specs.requests.MailFound.{MailRead, readings}
use Rattle.dsn_postfix_notices.specs.requests.NoticeDeeds.{EndsTelling, IsNotified, Tells}
use Rattle.dsn_postfix_notices.specs.requests.NoticeDeeds as notices
use Rattle.dsn_postfix_notices.specs.requests.PostmasterCopies.{is_copied}
use Rattle.dsn_postfix_notices.specs.requests.RequestLaws.{AreAllTold, AreHandedIn, HandsInOnce, IsLeftOver, hand_ins}
use Rattle.dsn_postfix_notices.specs.requests.RequestLaws as laws
use Rattle.dsn_postfix_notices.specs.requests.RequestLetters.{places_done}
use Rattle.dsn_postfix_notices.specs.requests.RequestStatus.{RequestAnswer}
use Rattle.dsn_postfix_notices.specs.requests.Task.{Task}
use Rattle.dsn_postfix_notices.proofs.RequestLawLemmas.{Block, RemovesNone, accepted_block, accepted_handed, block_is, both, first_refused, marked_block, no_deeds, readings_block, stopped_front, stopped_marks, unread_block}

-- ---- what is done after all are accepted

-- no log was removed, or one was, after all places were marked
abbrev pub RemovesMarked : Task → List ℕ → List Deed → List Deed → Type 0
RemovesMarked task places marks removal =
    (removal ≡ []) ⊎ ((answer : Answer) × (removal ≡ LogRemoved task.terms.service task.notice.queue_id answer ∷ []) × AreMarked task.notice places marks)

pub record FinishParts (task : Task) (places : List ℕ) (telling : Result (Unit {0}) Untold) (gained : List Deed) : Type 0 where
  pub marks : List Deed
  pub removal : List Deed
  pub parts : gained ≡ marks ++ removal
  pub block : Block marks []
  pub removal_is : RemovesMarked task places marks removal
  pub ends : ((telling ≡ Ok tt) × AreMarked task.notice places marks) ⊎ (telling ≡ Err Failed)

removal_of : (task : Task) (places : List ℕ) (due : Bool) (telling : Result (Unit {0}) Untold) (marks gained : List Deed) → AreMarked task.notice places marks
    → RemovesLog task.terms.service task.notice.queue_id due telling gained → RemovesMarked task places marks gained
removal_of task places due telling marks gained are (finishing.kept e d is) = inl is
removal_of task places due telling marks gained are (finishing.removed e d is) = inr (Ok tt, is, are)
removal_of task places due telling marks gained are (finishing.unremoved why e d is) = inr (Err why, is, are)

end_of : (task : Task) (places : List ℕ) (due : Bool) (telling : Result (Unit {0}) Untold) (marks gained : List Deed) → AreMarked task.notice places marks
    → RemovesLog task.terms.service task.notice.queue_id due telling gained → ((telling ≡ Ok tt) × AreMarked task.notice places marks) ⊎ (telling ≡ Err Failed)
end_of task places due telling marks gained are (finishing.kept e d is) = inl (d, are)
end_of task places due telling marks gained are (finishing.removed e d is) = inl (d, are)
end_of task places due telling marks gained are (finishing.unremoved why e d is) = inr d

finish_parts : (task : Task) (log : Option (List ℕ)) (places : List ℕ) (telling : Result (Unit {0}) Untold) (gained : List Deed)
    → FinishesAt task log places telling gained → FinishParts task places telling gained
finish_parts task log places telling gained (finishing.unmarked d stops) = record {
  marks = gained;
  removal = [];
  parts = sym (append-nil gained);
  block = stopped_marks task.notice places gained stops;
  removal_is = inl refl;
  ends = inr d;
}
finish_parts task log places telling gained (finishing.marked marks removal is are removes) = record {
  marks = marks;
  removal = removal;
  parts = is;
  block = marked_block task.notice places marks are;
  removal_is = removal_of task places (finishing.is_removal_due task.request log) telling marks removal are removes;
  ends = end_of task places (finishing.is_removal_due task.request log) telling marks removal are removes;
}

-- ---- notifying the sender

-- what was removed after `front`
pub data IsRemovalPart (task : Task) (front removal : List Deed) : Type 0 where
  nothing_removed : removal ≡ [] → IsRemovalPart task front removal
  removed_told : (answer : Answer) → removal ≡ LogRemoved task.terms.service task.notice.queue_id answer ∷ [] → AreAllTold task front
      → IsRemovalPart task front removal

-- the deeds for each result of notifying the sender; they begin with `front`, which removes no log
abbrev pub ToldSo : Task → Result (Unit {0}) Untold → List Deed → List Deed → Type 0
ToldSo task (Ok done) front told = AreAllTold task front
ToldSo task (Err (PassedOn why)) front told = IsLeftOver task told
ToldSo task (Err Failed) front told = Unit {0}
ToldSo task (Err NoMemory) front told = Unit {0}

told_as : (task : Task) (one two : Result (Unit {0}) Untold) (front told : List Deed) → one ≡ two → ToldSo task two front told → ToldSo task one front told
told_as task one two front told is so = subst (λ (telling : Result (Unit {0}) Untold). ToldSo task telling front told) (sym is) so

told_if_done : (task : Task) (telling : Result (Unit {0}) Untold) (Marked : Type 0) (front told : List Deed) → (Marked → AreAllTold task front)
    → ((telling ≡ Ok tt) × Marked) ⊎ (telling ≡ Err Failed) → ToldSo task telling front told
told_if_done task telling Marked front told all (inl done) = told_as task telling (Ok tt) front told done.0 (all done.1)
told_if_done task telling Marked front told all (inr failed) = told_as task telling (Err Failed) front told failed tt

told_if_stopped : (task : Task) (found : MailRead) (heading : Heading) (made : List Letter) (why : Untold) (front gained : List Deed)
    → AreNoticesAsked task found heading made → StopsAtLetter heading made why gained → ToldSo task (Err why) front (readings task found ++ gained)
told_if_stopped task found heading made Failed front gained asked stops = tt
told_if_stopped task found heading made NoMemory front gained asked stops = tt
told_if_stopped task found heading made (PassedOn reason) front gained asked stops =
    let first = first_refused heading made reason gained stops in
    laws.refused found heading first.letter first.others first.fault
    (subst (λ (letters : List Letter). AreNoticesAsked task found heading letters) first.letters_are asked) first.for_good
    (ap (λ (tried : List Deed). readings task found ++ tried) first.tried)

pub record TellingParts (task : Task) (telling : Result (Unit {0}) Untold) (gained : List Deed) : Type 0 where
  pub front : List Deed
  pub removal : List Deed
  pub parts : gained ≡ front ++ removal
  pub keeps : RemovesNone front
  pub once : (hand_ins front ≡ []) ⊎ HandsInOnce task front
  pub removal_is : IsRemovalPart task front removal
  pub so : ToldSo task telling front gained

-- nothing was submitted, and nothing removed
quiet_parts : (task : Task) (telling : Result (Unit {0}) Untold) (gained : List Deed) → ToldSo task telling gained gained → Block gained [] → TellingParts task telling gained
quiet_parts task telling gained so block = record {
  front = gained;
  removal = [];
  parts = sym (append-nil gained);
  keeps = block.keeps;
  once = inl block.handed_are;
  removal_is = nothing_removed refl;
  so = so;
}

removal_told : (task : Task) (places : List ℕ) (front marks removal : List Deed) → (AreMarked task.notice places marks → AreAllTold task front)
    → RemovesMarked task places marks removal → IsRemovalPart task front removal
removal_told task places front marks removal told (inl none) = nothing_removed none
removal_told task places front marks removal told (inr some) = removed_told some.0 some.1 (told some.2)

stopped_parts : (task : Task) (found : MailRead) (heading : Heading) (made : List Letter) (why : Untold) (gained : List Deed)
    → AreNoticesAsked task found heading made → StopsAtLetter heading made why gained → TellingParts task (Err why) (readings task found ++ gained)
stopped_parts task found heading made why gained asked stops =
    let tried = stopped_front heading made why gained stops in
    let read = readings task found in
    let block = both read gained [] gained (readings_block task found) tried.block in
    record {
      front = read ++ gained;
      removal = [];
      parts = sym (append-nil (read ++ gained));
      keeps = block.keeps;
      once = inr (record {
        found = found;
        more = gained;
        gained_are = refl;
        heading = heading;
        letters = made;
        asked = asked;
        front = tried.front;
        rest = tried.rest;
        letters_are = tried.letters_are;
        each = subst (λ (deeds : List Deed). AreHandedIn heading tried.front deeds) (sym block.handed_are) tried.each;
      });
      removal_is = nothing_removed refl;
      so = told_if_stopped task found heading made why (read ++ gained) gained asked stops;
    }

accepted_parts : (task : Task) (found : MailRead) (heading : Heading) (made : List Letter) (telling : Result (Unit {0}) Untold) (taken rest : List Deed)
    → AreNoticesAsked task found heading made → AreAccepted heading made taken → FinishesAt task found.log (places_done task found.log) telling rest
    → TellingParts task telling (readings task found ++ (taken ++ rest))
accepted_parts task found heading made telling taken rest asked accepted finishes =
    let places = places_done task found.log in
    let finish = finish_parts task found.log places telling rest finishes in
    let read = readings task found in
    let front : List Deed = read ++ (taken ++ finish.marks) in
    let block : Block front taken = both read (taken ++ finish.marks) [] taken (readings_block task found)
    (subst (λ (handed : List Deed). Block (taken ++ finish.marks) handed) (append-nil taken)
    (both taken finish.marks taken [] (accepted_block heading made taken accepted) finish.block)) in
    let told : AreMarked task.notice places finish.marks → AreAllTold task front =
    λ marked. record { found = found; heading = heading; letters = made; handed = taken; marks = finish.marks; gained_are = refl; asked = asked; accepted = accepted; marked = marked } in
    record {
      front = front;
      removal = finish.removal;
      parts = ap (λ (deeds : List Deed). read ++ deeds) (ap (λ (deeds : List Deed). taken ++ deeds) finish.parts ∙ sym (append_assoc taken finish.marks finish.removal))
          ∙ sym (append_assoc read (taken ++ finish.marks) finish.removal);
      keeps = block.keeps;
      once = inr (record {
        found = found;
        more = taken ++ finish.marks;
        gained_are = refl;
        heading = heading;
        letters = made;
        asked = asked;
        front = made;
        rest = [];
        letters_are = sym (append-nil made);
        each = subst (λ (deeds : List Deed). AreHandedIn heading made deeds) (sym block.handed_are) (accepted_handed heading made taken accepted);
      });
      removal_is = removal_told task places front finish.marks finish.removal told finish.removal_is;
      so = told_if_done task telling (AreMarked task.notice places finish.marks) front (read ++ (taken ++ rest)) told finish.ends;
    }

telling_parts : (task : Task) (telling : Result (Unit {0}) Untold) (gained : List Deed) → Tells task telling gained → TellingParts task telling gained
telling_parts task telling gained (notices.unread t fails) =
    quiet_parts task telling gained (told_as task telling (Err Failed) gained gained t tt) (unread_block task gained fails)
telling_parts task telling gained (notices.no_memory found t is) =
    quiet_parts task telling gained (told_as task telling (Err NoMemory) gained gained t tt) (block_is gained _ [] is (readings_block task found))
telling_parts task telling gained (notices.unsayable found why t is unsaid) =
    quiet_parts task telling gained
    (told_as task telling (Err (PassedOn why)) gained gained t (laws.unsayable found unsaid is))
    (block_is gained _ [] is (readings_block task found))
telling_parts task telling gained (notices.stopped found heading made tried why t is asked stops) =
    subst (λ (end : Result (Unit {0}) Untold). TellingParts task end gained) (sym t)
    (subst (λ (deeds : List Deed). TellingParts task (Err why) deeds) (sym is) (stopped_parts task found heading made why tried asked stops))
telling_parts task telling gained (notices.accepted found heading made taken rest is asked accepted finishes) =
    subst (λ (deeds : List Deed). TellingParts task telling deeds) (sym is) (accepted_parts task found heading made telling taken rest asked accepted finishes)

telling_parts_by : (task : Task) (copied : Bool) (telling : Result (Unit {0}) Untold) (gained : List Deed) → is_copied task.terms.settings task.request ≡ copied
    → MatchBool copied ((telling ≡ Err (PassedOn Postmaster)) × (gained ≡ [])) (Tells task telling gained) → TellingParts task telling gained
telling_parts_by task true telling gained is leaves =
    quiet_parts task telling gained (told_as task telling (Err (PassedOn Postmaster)) gained gained leaves.0 (laws.copied is leaves.1)) (block_is gained [] [] leaves.1 no_deeds)
telling_parts_by task false telling gained is tells = telling_parts task telling gained tells

-- ---- the end

passed_alone : (service : Service) (bytes : List ℕ) (answer : Result ℕ DeedFault) → Block (PassedOn service bytes answer ∷ []) []
passed_alone service bytes answer = record { keeps = (refl, tt); handed_are = refl }

ends_block : (service : Service) (bytes : List ℕ) (telling : Result (Unit {0}) Untold) (answer : RequestAnswer) (last : List Deed) → EndsTelling service bytes telling answer last → Block last []
ends_block service bytes (Ok done) answer last ends = block_is last [] [] ends.0 no_deeds
ends_block service bytes (Err Failed) answer last ends = block_is last [] [] ends.0 no_deeds
ends_block service bytes (Err NoMemory) answer last ends = block_is last [] [] ends.0 no_deeds
ends_block service bytes (Err (PassedOn why)) answer last ends = block_is last _ [] ends.passed (passed_alone service bytes ends.given)

released_block : (last : List Deed) → Block last [] → Block (LogReleased ∷ last) []
released_block last block = record { keeps = (refl, block.keeps); handed_are = block.handed_are }

pub record NotifiedParts (task : Task) (bytes : List ℕ) (answer : RequestAnswer) (gained : List Deed) : Type 0 where
  pub told : List Deed
  pub last : List Deed
  pub tail : List Deed
  pub tail_is : tail ≡ LogReleased ∷ last
  pub all : gained ≡ told ++ tail
  pub ended : Result (Unit {0}) Untold
  pub telling : TellingParts task ended told
  pub ends : EndsTelling task.terms.service bytes ended answer last
  pub tail_block : Block tail []

pub notified_parts : (task : Task) (bytes : List ℕ) (answer : RequestAnswer) (gained : List Deed)
    → IsNotified task bytes answer gained → NotifiedParts task bytes answer gained
notified_parts task bytes answer gained is = record {
  told = is.told;
  last = is.last;
  tail = LogReleased ∷ is.last;
  tail_is = refl;
  all = is.gained_are;
  ended = is.telling;
  telling = telling_parts_by task (is_copied task.terms.settings task.request) is.telling is.told refl is.tells;
  ends = is.ends;
  tail_block = released_block is.last (ends_block task.terms.service bytes is.telling answer is.last is.ends);
}
