-- The deeds of a request, composed of those of its steps.
use Rattle.std.proofs.Common.{◌≡◌, ℕ, Bool, true, false, List, [], ◌∷◌, ◌++◌, Option, Some, None, Result, Ok, Err, refl, sym, ap, subst, ◌∙◌, append_assoc, map, drop, drop-cons, get_or, length, suc, ◌<◌, ◌+◌, arith}
use Rattle.std.specs.Prelude.{◌==◌, unwrap_or}
use Rattle.dsn_outcome.specs.Letter.{Letter}
use Rattle.dsn_report.specs.Notice.{return_path_of}
use Rattle.dsn_text.specs.declared.service.Service.{Service}
use Rattle.dsn_text.specs.declared.service.Service.TheVariants.{Bounce}
use Rattle.dsn_postfix.specs.LoggedAppend.{unlogged_field}
use Rattle.dsn_postfix.specs.declared.postfix_request.AppendRequest.{AppendRequest}
use Rattle.dsn_postfix.specs.declared.postfix_request.NoticeRequest.{NoticeRequest}
use Rattle.dsn_postfix.specs.declared.postfix_request.PostfixRequest.{PostfixRequest}
use Rattle.dsn_smtp.specs.declared.hand_in_fault.HandInFault.{HandInFault}
use Rattle.dsn_postfix_notices.specs.declared.requests.deed_fault.DeedFault.{DeedFault}
use Rattle.dsn_postfix_notices.specs.requests.AnsweredRequest.{FlushesBounceLog, IsBounceLogTold, IsFlushedInTurn, in_turn, told}
use Rattle.dsn_postfix_notices.specs.requests.AppendDeeds.{IsAppended, record_bytes, tried}
use Rattle.dsn_postfix_notices.specs.requests.CarriedOut.{IsCarriedOut, queue_id_of}
use Rattle.dsn_postfix_notices.specs.requests.Deed.{Answer, Appended, Deed, HandedIn, LogReleased, LogSought, MessageRead}
use Rattle.dsn_postfix_notices.specs.requests.Finishing.{FailsToMark, FinishesAt, StopsAtPlace, marking}
use Rattle.dsn_postfix_notices.specs.requests.Gains.{Gains, with_deeds}
use Rattle.dsn_postfix_notices.specs.requests.HandingIn.{AreAccepted, IsNotAccepted, StopsAtLetter, hand_in_of, is_first_after, refusal_of, refused}
use Rattle.dsn_postfix_notices.specs.requests.Heading.{AreNoticesAsked, Heading, submitted_data}
use Rattle.dsn_postfix_notices.specs.requests.MailFound.{FailsToRead, MailRead, log_reading, log_unread, message_reading, message_unread, readings}
use Rattle.dsn_postfix_notices.specs.inner.MailFound.{ReadsLog}
use Rattle.dsn_postfix_notices.specs.requests.NoticeDeeds.{EndsTelling, IsNotified, Tells, TellsOrLeaves, accepted, no_memory, unsayable}
use Rattle.dsn_postfix_notices.specs.requests.PostmasterCopies.{is_copied}
use Rattle.dsn_postfix_notices.specs.requests.RequestLetters.{CantBeSaid, places_done}
use Rattle.dsn_postfix_notices.specs.inner.RequestLetters.{IsReason}
use Rattle.dsn_postfix_notices.specs.requests.RequestStatus.{RequestAnswer, carried_out, is_carried_out, status_after}
use Rattle.dsn_postfix_notices.specs.requests.Task.{Task, Terms}
use Rattle.dsn_postfix_notices.specs.declared.requests.untold.Untold.{Untold}
use Rattle.dsn_postfix_notices.specs.declared.requests.untold.Untold.TheVariants.{Failed, NoMemory as no_memory_left, PassedOn}

false_not_true : false ≡ true → ⊥
false_not_true e = cc

suc_not_zero : (n : ℕ) → suc n ≡ 0 → ⊥
suc_not_zero n e = cc

abbrev Are : Type 1
Are = List Deed → Type 0

-- ---- steps

with_both : (done : Option (List Deed)) (one two : List Deed) → with_deeds (with_deeds done one) two ≡ with_deeds done (one ++ two)
with_both None one two = refl
with_both (Some done) one two = ap (λ (deeds : List Deed). Some deeds) (append_assoc done one two)

pub gains_one : {S : Type 0} → (deeds : S → Option (List Deed)) (old new : S) (deed : Deed) (P : Are) → deeds new ≡ with_deeds (deeds old) (deed ∷ []) → P (deed ∷ []) → Gains deeds old new P
gains_one deeds old new deed P after are = record { gained = deed ∷ []; after = after; are = are }

pub gains_as : {S : Type 0} → (deeds : S → Option (List Deed)) (old new : S) (P Q : Are) → Gains deeds old new P → ((gained : List Deed) → P gained → Q gained) → Gains deeds old new Q
gains_as deeds old new P Q gains follows = record { gained = gains.gained; after = gains.after; are = follows gains.gained gains.are }

after_both : {S : Type 0} → (deeds : S → Option (List Deed)) (old between new : S) (one two : List Deed) → deeds between ≡ with_deeds (deeds old) one → deeds new ≡ with_deeds (deeds between) two → deeds new ≡ with_deeds (deeds old) (one ++ two)
after_both deeds old between new one two first second =
    second ∙ ap (λ (done : Option (List Deed)). with_deeds done two) first ∙ with_both (deeds old) one two

pub gains_more : {S : Type 0} → (deeds : S → Option (List Deed)) (old between new : S) (P Q R : Are) → Gains deeds old between P → Gains deeds between new Q
    → ((one two : List Deed) → P one → Q two → R (one ++ two)) → Gains deeds old new R
gains_more deeds old between new P Q R first second both = record {
  gained = first.gained ++ second.gained;
  after = after_both deeds old between new first.gained second.gained first.after second.after;
  are = both first.gained second.gained first.are second.are;
}

path_is : (letter : Letter) (path : List ℕ) → letter.draft.return_path ≡ Some path → return_path_of letter ≡ path
path_is letter path e = ap (λ (p : Option (List ℕ)). unwrap_or p []) e

-- the part of a list from an index on
pub left_from : {X : Type 0} → (xs : List X) (i : ℕ) (x : X) → i < length xs → x ≡ get_or xs i x → drop i xs ≡ x ∷ drop (i + 1) xs
left_from xs i x within is =
    let next : suc i ≡ i + 1 = omega arith in
    drop-cons xs i x within
    ∙ ap (λ (y : _). y ∷ drop (suc i) xs) (sym is)
    ∙ ap (λ (n : ℕ). x ∷ drop n xs) next

pub left_at : {X : Type 0} → (xs : List X) (i : ℕ) (other : X) → i < length xs → drop i xs ≡ get_or xs i other ∷ drop (i + 1) xs
left_at xs i other within =
    let next : suc i ≡ i + 1 = omega arith in
    drop-cons xs i other within ∙ ap (λ (n : ℕ). get_or xs i other ∷ drop n xs) next

pub empty_list : {X : Type 0} → (xs : List X) → length xs ≡ 0 → xs ≡ []
empty_list [] none = refl
empty_list (x ∷ xs) none = absurd (suc_not_zero (length xs) none)

-- ---- an append

pub appended : {S : Type 0} → (deeds : S → Option (List Deed)) (old new : S) (service : Service) (request : AppendRequest) (bytes : List ℕ) (status : ℕ) (written : List ℕ) (given : Answer)
    → unlogged_field service request ≡ None → written ≡ record_bytes service request → status ≡ status_after given
    → deeds new ≡ with_deeds (deeds old) (Appended service request.queue_id written given ∷ []) → Gains deeds old new (IsAppended service request bytes (Ok status))
appended deeds old new service request bytes status written given none is status_is after = record {
  gained = Appended service request.queue_id (record_bytes service request) given ∷ [];
  after = after ∙ ap (λ (b : List ℕ). with_deeds (deeds old) (Appended service request.queue_id b given ∷ [])) is;
  are = tried none given refl status_is;
}

-- ---- what is read

pub unread_message : {S : Type 0} → (deeds : S → Option (List Deed)) (old between new : S) (task : Task) (log : Option (List ℕ)) (why : DeedFault)
    → Gains deeds old between (ReadsLog task (Ok log)) → deeds new ≡ with_deeds (deeds between) (MessageRead task.notice.queue_name task.notice.queue_id (Err why) ∷ [])
    → Gains deeds old new (FailsToRead task)
unread_message deeds old between new task log why first second = record {
  gained = first.gained ++ message_reading task.notice (Err why);
  after = after_both deeds old between new first.gained (message_reading task.notice (Err why)) first.after second;
  are = message_unread log why (ap (λ (read : List Deed). read ++ message_reading task.notice (Err why)) first.are.0);
}

pub unread_log : {S : Type 0} → (deeds : S → Option (List Deed)) (old new : S) (task : Task) (why : DeedFault)
    → Gains deeds old new (ReadsLog task (Err why)) → Gains deeds old new (FailsToRead task)
unread_log deeds old new task why first = record {
  gained = first.gained;
  after = first.after;
  are = log_unread why (first.are.1 refl) (first.are.0 ∙ ap (λ (tells : Bool). log_reading tells task.terms.service task.notice (Err why)) (first.are.1 refl));
}

-- ---- letters

pub one_accepted : {S : Type 0} → (deeds : S → Option (List Deed)) (old new : S) (heading : Heading) (letter : Letter) (path data' reply : List ℕ)
    → letter.draft.return_path ≡ Some path → data' ≡ submitted_data heading letter → deeds new ≡ with_deeds (deeds old) (HandedIn path data' (Ok reply) ∷ [])
    → Gains deeds old new (AreAccepted heading (letter ∷ []))
one_accepted deeds old new heading letter path data' reply to is after = record {
  gained = hand_in_of heading letter (Ok reply) ∷ [];
  after = after ∙ (λ i. with_deeds (deeds old) (HandedIn (sym (path_is letter path to) i) (is i) (Ok reply) ∷ []));
  are = (record { reply = reply; deed_is = refl }, refl);
}

pub one_refused : {S : Type 0} → (deeds : S → Option (List Deed)) (old new : S) (heading : Heading) (first : Bool) (letter : Letter) (path data' : List ℕ) (fault : HandInFault) (why : Untold)
    → letter.draft.return_path ≡ Some path → data' ≡ submitted_data heading letter → why ≡ refusal_of first fault → deeds new ≡ with_deeds (deeds old) (HandedIn path data' (Err fault) ∷ [])
    → Gains deeds old new (IsNotAccepted heading first letter why)
one_refused deeds old new heading first letter path data' fault why to is why_is after = record {
  gained = hand_in_of heading letter (Err fault) ∷ [];
  after = after ∙ (λ i. with_deeds (deeds old) (HandedIn (sym (path_is letter path to) i) (is i) (Err fault) ∷ []));
  are = refused fault why_is refl;
}

pub accepted_more : (heading : Heading) (front back : List Letter) (taken more : List Deed) → AreAccepted heading front taken → AreAccepted heading back more → AreAccepted heading (front ++ back) (taken ++ more)
accepted_more heading [] back taken more first second = subst (λ (deeds : List Deed). AreAccepted heading back (deeds ++ more)) (sym first) second
accepted_more heading (letter ∷ front) back [] more first second = absurd first
accepted_more heading (letter ∷ front) back (deed ∷ taken) more first second = (first.0, accepted_more heading front back taken more first.1 second)

-- letters up to one, and those after it
pub past_one : {X : Type 0} → (xs front rest after : List X) (x : X) → xs ≡ front ++ rest → rest ≡ x ∷ after → xs ≡ (front ++ x ∷ []) ++ after
past_one xs front rest after x split first =
    split ∙ ap (λ (left : List _). front ++ left) first ∙ sym (append_assoc front (x ∷ []) after)

pub at_one : {X : Type 0} → (xs front rest after : List X) (x : X) → xs ≡ front ++ rest → rest ≡ x ∷ after → xs ≡ front ++ x ∷ after
at_one xs front rest after x split first = split ∙ ap (λ (left : List _). front ++ left) first

-- the letters so far were accepted, and the next is the first or not
pub record AcceptedSoFar {S : Type 0} (deeds : S → Option (List Deed)) (old new : S) (heading : Heading) (letters rest : List Letter) (first : Bool) : Type 0 where
  pub front : List Letter
  pub taken : List Deed
  pub split : letters ≡ front ++ rest
  pub after : deeds new ≡ with_deeds (deeds old) taken
  pub accepted : AreAccepted heading front taken
  pub first_is : first ≡ is_first_after front

not_first : (front : List Letter) (letter : Letter) → false ≡ is_first_after (front ++ letter ∷ [])
not_first [] letter = refl
not_first (other ∷ front) letter = refl

pub accepted_one_more : {S : Type 0} → (deeds : S → Option (List Deed)) (old between new : S) (heading : Heading) (letters rest after : List Letter) (first : Bool) (letter : Letter)
    → AcceptedSoFar deeds old between heading letters rest first → rest ≡ letter ∷ after → Gains deeds between new (AreAccepted heading (letter ∷ [])) → AcceptedSoFar deeds old new heading letters after false
accepted_one_more deeds old between new heading letters rest after first letter so_far next one = record {
  front = so_far.front ++ letter ∷ [];
  taken = so_far.taken ++ one.gained;
  split = past_one letters so_far.front rest after letter so_far.split next;
  after = after_both deeds old between new so_far.taken one.gained so_far.after one.after;
  accepted = accepted_more heading so_far.front (letter ∷ []) so_far.taken one.gained so_far.accepted one.are;
  first_is = not_first so_far.front letter;
}

pub stopped_at : {S : Type 0} → (deeds : S → Option (List Deed)) (old between new : S) (heading : Heading) (letters rest after : List Letter) (first : Bool) (letter : Letter) (why : Untold)
    → AcceptedSoFar deeds old between heading letters rest first → rest ≡ letter ∷ after → Gains deeds between new (IsNotAccepted heading first letter why) → Gains deeds old new (StopsAtLetter heading letters why)
stopped_at deeds old between new heading letters rest after first letter why so_far next one = record {
  gained = so_far.taken ++ one.gained;
  after = after_both deeds old between new so_far.taken one.gained so_far.after one.after;
  are = record {
    before = so_far.front;
    stopped = letter;
    after = after;
    letters_are = at_one letters so_far.front rest after letter so_far.split next;
    taken = so_far.taken;
    last = one.gained;
    gained_are = refl;
    accepted = so_far.accepted;
    not_accepted = subst (λ (is_first : Bool). IsNotAccepted heading is_first letter why one.gained) so_far.first_is one.are;
  };
}

-- ---- recipients

pub record MarkedSoFar {S : Type 0} (deeds : S → Option (List Deed)) (old new : S) (notice : NoticeRequest) (places rest : List ℕ) : Type 0 where
  pub front : List ℕ
  pub split : places ≡ front ++ rest
  pub after : deeds new ≡ with_deeds (deeds old) (map (marking notice) front)

pub map_append : {X Y : Type 0} → (f : X → Y) (xs ys : List X) → map f xs ++ map f ys ≡ map f (xs ++ ys)
map_append f [] ys = refl
map_append f (x ∷ xs) ys = ap (λ (rest : List _). f x ∷ rest) (map_append f xs ys)

pub marked_one_more : {S : Type 0} → (deeds : S → Option (List Deed)) (old between new : S) (notice : NoticeRequest) (places rest after : List ℕ) (place : ℕ)
    → MarkedSoFar deeds old between notice places rest → rest ≡ place ∷ after → Gains deeds between new (λ gained. gained ≡ marking notice place ∷ []) → MarkedSoFar deeds old new notice places after
marked_one_more deeds old between new notice places rest after place so_far first one = record {
  front = so_far.front ++ place ∷ [];
  split = past_one places so_far.front rest after place so_far.split first;
  after = after_both deeds old between new (map (marking notice) so_far.front) (marking notice place ∷ []) so_far.after (one.after ∙ ap (λ (more : List Deed). with_deeds (deeds between) more) one.are)
      ∙ ap (λ (all : List Deed). with_deeds (deeds old) all) (map_append (marking notice) so_far.front (place ∷ []));
}

pub stopped_marking : {S : Type 0} → (deeds : S → Option (List Deed)) (old between new : S) (notice : NoticeRequest) (places rest after : List ℕ) (place : ℕ)
    → MarkedSoFar deeds old between notice places rest → rest ≡ place ∷ after → Gains deeds between new (FailsToMark notice place) → Gains deeds old new (StopsAtPlace notice places)
stopped_marking deeds old between new notice places rest after place so_far first one = record {
  gained = map (marking notice) so_far.front ++ one.gained;
  after = after_both deeds old between new (map (marking notice) so_far.front) one.gained so_far.after one.after;
  are = record {
    before = so_far.front;
    stopped = place;
    after = after;
    places_are = at_one places so_far.front rest after place so_far.split first;
    marks = map (marking notice) so_far.front;
    last = one.gained;
    gained_are = refl;
    marked = refl;
    unmarked = one.are;
  };
}

-- ---- a request for notices

-- there are no letters
pub none_made : (task : Task) (found : MailRead) (why : Untold) (gained : List Deed) → gained ≡ readings task found → IsReason (CantBeSaid task found) why → Tells task (Err why) gained
none_made task found (PassedOn reason) gained is unsaid = unsayable found reason refl is unsaid
none_made task found Failed gained is none = absurd none
none_made task found no_memory_left gained is none = no_memory found refl is

pub all_told : {S : Type 0} → (deeds : S → Option (List Deed)) (old read handed new : S) (task : Task) (found : MailRead) (heading : Heading) (made : List Letter) (telling : Result (Unit {0}) Untold)
    → AreNoticesAsked task found heading made → Gains deeds old read (λ gained. gained ≡ readings task found) → Gains deeds read handed (AreAccepted heading made)
    → Gains deeds handed new (FinishesAt task found.log (places_done task found.log) telling) → Gains deeds old new (Tells task telling)
all_told deeds old read handed new task found heading made telling asked reads accepts finishes = record {
  gained = reads.gained ++ (accepts.gained ++ finishes.gained);
  after = after_both deeds old read new reads.gained (accepts.gained ++ finishes.gained) reads.after
      (after_both deeds read handed new accepts.gained finishes.gained accepts.after finishes.after);
  are = accepted found heading made accepts.gained finishes.gained (ap (λ (deeds : List Deed). deeds ++ (accepts.gained ++ finishes.gained)) reads.are) asked accepts.are finishes.are;
}

pub told_if_not_copied : (task : Task) (telling : Result (Unit {0}) Untold) (gained : List Deed) → is_copied task.terms.settings task.request ≡ false
    → Tells task telling gained → TellsOrLeaves task telling gained
told_if_not_copied task telling gained none tells = rw none tells

pub notified : {S : Type 0} → (deeds : S → Option (List Deed)) (old between released new : S) (task : Task) (bytes : List ℕ) (answer : RequestAnswer) (telling : Result (Unit {0}) Untold)
    → Gains deeds old between (TellsOrLeaves task telling) → deeds released ≡ with_deeds (deeds between) (LogReleased ∷ []) → Gains deeds released new (EndsTelling task.terms.service bytes telling answer)
    → Gains deeds old new (IsNotified task bytes answer)
notified deeds old between released new task bytes answer telling first release last = record {
  gained = first.gained ++ LogReleased ∷ last.gained;
  after = after_both deeds old between new first.gained (LogReleased ∷ last.gained) first.after (after_both deeds between released new (LogReleased ∷ []) last.gained release last.after);
  are = record { telling = telling; told = first.gained; last = last.gained; gained_are = refl; tells = first.are; ends = last.are };
}

-- ---- the bounce log, and then another

pub bounce_log_told : {S : Type 0} → (deeds : S → Option (List Deed)) (old between new : S) (terms : Terms) (flush : PostfixRequest) (answer : RequestAnswer) (id : List ℕ) (found : Bool)
    → id ≡ queue_id_of flush → found ≡ true → deeds between ≡ with_deeds (deeds old) (LogSought Bounce id (Ok found) ∷ []) → Gains deeds between new (FlushesBounceLog terms flush answer)
    → Gains deeds old new (IsBounceLogTold terms flush answer)
bounce_log_told deeds old between new terms flush answer id found named is first last = record {
  gained = LogSought Bounce (queue_id_of flush) (Ok true) ∷ last.gained;
  after = after_both deeds old between new (LogSought Bounce (queue_id_of flush) (Ok true) ∷ []) last.gained
      (first ∙ (λ i. with_deeds (deeds old) (LogSought Bounce (named i) (Ok (is i)) ∷ []))) last.after;
  are = told last.gained refl last.are;
}

zero_is : (n : ℕ) → (n == 0) ≡ true → n ≡ 0
zero_is n e = grind (arith, e)

pub carried_out_is : (answer : RequestAnswer) → is_carried_out answer ≡ true → answer ≡ Ok carried_out
carried_out_is (Ok status) e = ap (λ (n : ℕ). Ok n) (zero_is status e)
carried_out_is (Err why) e = absurd (false_not_true e)

pub flushed_in_turn : {S : Type 0} → (deeds : S → Option (List Deed)) (old between new : S) (terms : Terms) (flush request : PostfixRequest) (bytes : List ℕ) (before answer : RequestAnswer)
    → is_carried_out before ≡ true → Gains deeds old between (IsBounceLogTold terms flush before) → Gains deeds between new (IsCarriedOut terms request bytes answer)
    → Gains deeds old new (IsFlushedInTurn terms flush request bytes answer)
flushed_in_turn deeds old between new terms flush request bytes before answer done first last =
    gains_more deeds old between new _ _ _ first last
    (λ one two told out. in_turn one two refl (subst (λ (a : RequestAnswer). IsBounceLogTold terms flush a one) (carried_out_is before done) told) out)
