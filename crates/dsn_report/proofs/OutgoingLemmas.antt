-- Letters that are written to the outbox: the effect of one more letter, and of QUIT.
use Rattle.std.proofs.Common.{◌≡◌, inl, inr, ⊎_elim, ℕ, Bool, true, false, List, [], ◌∷◌, ◌++◌, refl, ap, sym, subst, ◌∙◌, append_assoc}
use Rattle.std.specs.Prelude.{length, take, Option, None, Some, if◌then◌else◌, not}
use Rattle.std.specs.Io.KnownBytes.{Appends}
use Rattle.std.proofs.KnownBytes.{Appends-trans}
use Rattle.std.specs.List.{flat_map}
use Rattle.std.proofs.lemmas.List.{append-nil}
use Rattle.std.proofs.lemmas.Grind.{flat_map-append}
use Rattle.dsn_device.proofs.FlatMapLemmas.{flat_map-more}
use Rattle.dsn_outcome.specs.Letter.{Letter}
use Rattle.dsn_device.specs.Failures.{counted}
use Rattle.dsn_device.specs.Flushes.{flushed, flushed_times}
use Rattle.dsn_device.specs.Marking.{SayCount, SayCountOrNext, marked_by}
use Rattle.dsn_device.proofs.ThroughoutLemmas.{joined, stood_still, weaker}
use Rattle.dsn_device.specs.UntilFailure.{LeavesMarked, LeavesMarkedOrNext, TakesNoTime, Lost, TakenAndMarked, Unmarked, WrittenAndFlushed, WrittenAndMarked, counts_failure}
use Rattle.dsn_device.specs.UntilFailure as until
use Rattle.dsn_device.specs.declared.drain.Drain.{Ghosts as Drain}
use Rattle.dsn_device.specs.Transfer.{AppendsFront, AppendsPart}
use Rattle.dsn_device.proofs.UntilFailureLemmas.{leaves_still}
use Rattle.dsn_device.proofs.TransferLemmas.{Appends-part, AppendsFront-all, AppendsPart-longer}
use Rattle.dsn_report.specs.declared.post_fault.PostFault.{PostFault}
use Rattle.dsn_report.specs.Outbox.{greeting, goodbye, mail_transaction, outbox_of}
use Rattle.dsn_report.specs.Site.{Site}
use Rattle.dsn_report.specs.Poster.{Poster, post_text, finish_text, post_fault, letter_handed_back}
use Rattle.dsn_report.specs.Outgoing.{written_of, are_some, text_until, AppendsAtLeast, FailedIn, in_text, at_flush, at_mark, MarksAllOf, MarksFirstOf, SayCountOfFirst, marked_with, FrontWritten, StaysSteady, Delivered, IsOutbox}

-- the text of one more letter, if the greeting is written
pub written_of-more : (site : Site) (letters : List Letter) (letter : Letter) → written_of site true (letters ++ letter ∷ []) ≡ written_of site true letters ++ mail_transaction site letter
written_of-more site letters letter =
    rw (flat_map-more (mail_transaction site) letters letter) (simp append_assoc)

due : (site : Site) (greeted : Bool) (letters : List Letter) (text : List ℕ) → (greeted ≡ false → letters ≡ []) → written_of site greeted letters ++ ((if greeted then [] else greeting site) ++ text) ≡ written_of site true letters ++ text
due site true letters text first = refl
due site false letters text first = rw (first refl) (simp (append-nil {A = ℕ}))

-- the text that a poster has written, followed by that of one more letter
pub post_text-after : {W : Type 0} (poster : Poster W) (letters : List Letter) (letter : Letter) → (poster.greeted ≡ false → letters ≡ []) → written_of poster.site poster.greeted letters ++ post_text poster letter ≡ written_of poster.site true (letters ++ letter ∷ [])
unfolding post_text
post_text-after poster letters letter first =
    due poster.site poster.greeted letters (mail_transaction poster.site letter) first ∙ sym (written_of-more poster.site letters letter)

-- the text that a poster has written, followed by QUIT
pub finish_text-after : {W : Type 0} (poster : Poster W) (letters : List Letter) → (poster.greeted ≡ false → letters ≡ []) → written_of poster.site poster.greeted letters ++ finish_text poster ≡ outbox_of poster.site letters
unfolding finish_text outbox_of
finish_text-after poster letters first = due poster.site poster.greeted letters goodbye first

-- the fault returns the letter unchanged
handed_back : (failed : Bool) (letter : Letter) → letter_handed_back (post_fault failed letter) ≡ letter
handed_back true letter = refl
handed_back false letter = refl

not-both : (b : Bool) → b ≡ true → b ≡ false → ⊥
not-both true done lost = cc
not-both false done lost = cc

-- known bytes that grow by a text, and then by a front of another
Appends-least : (a b c : Option (List ℕ)) (least text : List ℕ) → Appends a b least → AppendsFront b c text → AppendsAtLeast a c least (least ++ text)
Appends-least a b c least text all front = record {
  more = front.front;
  unsent = front.unsent;
  split = rw front.split (sym (append_assoc least front.front front.unsent));
  appended = Appends-trans a b c least front.front all front.appended;
}

are_some-more : (letters : List Letter) (letter : Letter) → are_some (letters ++ letter ∷ []) ≡ true
are_some-more [] letter = refl
are_some-more (first ∷ rest) letter = refl

none-where : (letters : List Letter) (greeted : Bool) → greeted ≡ are_some letters → greeted ≡ false → letters ≡ []
none-where [] greeted is none = refl
none-where (first ∷ rest) greeted is none = absurd (not-both greeted is none)

-- one more letter means one more flush
flushed_times-more : (letters : List Letter) (letter : Letter) (count : ℕ) → flushed (flushed_times (length letters) count) ≡ flushed_times (length (letters ++ letter ∷ [])) count
flushed_times-more [] letter count = refl
flushed_times-more (first ∷ rest) letter count = ap flushed (flushed_times-more rest letter count)

-- what is written and flushed without a failure was flushed once
once-flushed : {W : Type 0} (drain : Drain W) (a b : Bool) (old new : W) (text : List ℕ) → a ≡ false → b ≡ false → WrittenAndFlushed drain a b old new text → (drain.flushes new ≡ flushed (drain.flushes old)) × (drain.unflushed new ≡ false) × (drain.flushes_surely old → drain.flushes_surely new)
once-flushed drain false false old new text good well made = (made.once, made.passed_on, made.surely)
once-flushed drain true b old new text good well made = absurd (not-both true refl good)
once-flushed drain false true old new text good well made = absurd (not-both true refl well)

-- what is written, flushed and marked without a failure was flushed once and marked
once-marked : {W : Type 0} (drain : Drain W) (a b : Bool) (old new : W) (text : List ℕ) (serial : ℕ) → a ≡ false → b ≡ false → WrittenAndMarked drain a b old new text serial → TakenAndMarked drain old new text serial
once-marked drain false false old new text serial good well made = made
once-marked drain true b old new text serial good well made = absurd (not-both true refl good)
once-marked drain false true old new text serial good well made = absurd (not-both true refl well)

-- a letter in whose call the outbox failed is not marked
unmarked-now : {W : Type 0} (drain : Drain W) (a b : Bool) (old new : W) (text : List ℕ) (serial : ℕ) → a ≡ false → b ≡ true → WrittenAndMarked drain a b old new text serial → Unmarked drain old new text serial
unmarked-now drain false true old new text serial good failed made = made
unmarked-now drain true b old new text serial good failed made = absurd (not-both true refl good)
unmarked-now drain false false old new text serial good failed made = absurd (not-both false failed refl)

-- the count after one more letter is marked
marked_with-more : (letters : List Letter) (letter : Letter) (count : Option ℕ) → marked_by true letter.serial (marked_with letters count) ≡ marked_with (letters ++ letter ∷ []) count
marked_with-more [] letter count = refl
marked_with-more (first ∷ rest) letter count = marked_with-more rest letter (marked_by true first.serial count)

-- a device that marks letters still does after more are marked
marked_with-some : (letters : List Letter) (count : Option ℕ) → ¬ (marked_with letters count ≡ None) → ¬ (count ≡ None)
marked_with-some letters None some none = some (still letters)
  where
    still : (letters : List Letter) → marked_with letters None ≡ None
    still [] = refl
    still (first ∷ rest) = still rest
marked_with-some letters (Some n) some none = cc

-- if a letter is not marked, the count is unchanged
not-marked : {W : Type 0} (drain : Drain W) (old new : W) (text : List ℕ) (serial : ℕ) → Unmarked drain old new text serial → drain.marked new ≡ drain.marked old
not-marked drain old new text serial (until.unflushed lost same still) = same
not-marked drain old new text serial (until.at_mark all once passed_on same some unsure any_moment) = same

-- ---- the marks that a crash leaves

-- bytes that count the first part of some letters count a first part of one letter more
first_of_more : (say : List ℕ → ℕ → Type 0) (count : Option ℕ) (letters : List Letter) (letter : Letter) (left : List ℕ) → SayCountOfFirst say count letters left → SayCountOfFirst say count (letters ++ letter ∷ []) left
first_of_more say count letters letter left some = record {
  first = some.first;
  rest = some.rest ++ letter ∷ [];
  split = ap (λ all. all ++ letter ∷ []) some.split ∙ append_assoc some.first some.rest (letter ∷ []);
  counted_are = some.counted_are;
}

-- so do bytes that count all of them, or one more
all_or_more : (say : List ℕ → ℕ → Type 0) (count now : Option ℕ) (letters : List Letter) (letter : Letter) (left : List ℕ) → now ≡ marked_with letters count → SayCountOrNext say now letter.serial left → SayCountOfFirst say count (letters ++ letter ∷ []) left
all_or_more say count now letters letter left is (inl all) = record {
  first = letters;
  rest = letter ∷ [];
  split = refl;
  counted_are = subst (λ it. SayCount say it left) is all;
}
all_or_more say count now letters letter left is (inr more) = record {
  first = letters ++ letter ∷ [];
  rest = [];
  split = sym (append-nil (letters ++ letter ∷ []));
  counted_are = subst (λ it. SayCount say it left) (ap (marked_by true letter.serial) is ∙ marked_with-more letters letter count) more;
}

module _ {W : Type 0} (drain : Drain W) (start old new : W) (letters : List Letter) where
  -- one more letter is marked, or may be marked after a crash
  marks-more : (letter : Letter) → MarksFirstOf drain start old letters → (LeavesMarked drain start → LeavesMarked drain old) → drain.marked old ≡ marked_with letters (drain.marked start)
      → (LeavesMarked drain old → LeavesMarkedOrNext drain old new letter.serial) → MarksFirstOf drain start new (letters ++ letter ∷ [])
  marks-more letter so_far leaves is marking begun =
      joined drain.moment drain.left_since start old new _
      (weaker drain.moment drain.left_since start old _ _ (λ left some. first_of_more drain.say (drain.marked start) letters letter left some) (so_far begun))
      (weaker drain.moment drain.left_since old new _ _ (λ left some. all_or_more drain.say (drain.marked start) (drain.marked old) letters letter left is some) (marking (leaves begun)))

  -- a call takes no time and marks nothing
  marks-still : MarksAllOf drain start old letters → TakesNoTime drain old new → drain.marked new ≡ drain.marked old → MarksAllOf drain start new letters
  marks-still so_far still same = (
    λ begun. stood_still drain.moment drain.left_since start old new _ still.0 still.1 (so_far.0 begun),
    λ begun. leaves_still drain old new still same (so_far.1 begun),
  )

-- a text in whose call the outbox failed is lost
lost-now : {W : Type 0} (drain : Drain W) (a b : Bool) (old new : W) (text : List ℕ) → a ≡ false → b ≡ true → WrittenAndFlushed drain a b old new text → Lost drain old new text
lost-now drain false true old new text good failed made = made
lost-now drain true b old new text good failed made = absurd (not-both true refl good)
lost-now drain false false old new text good failed made = absurd (not-both false failed refl)

-- the text was lost after these letters were written and flushed
failed-in : {W : Type 0} (drain : Drain W) (start old new : W) (posted with_next : List Letter) (least text : List ℕ) → Appends (drain.contents start) (drain.contents old) least → drain.flushes old ≡ flushed_times (length posted) (drain.flushes start) → (drain.flushes_surely start → drain.flushes_surely old) → MarksAllOf drain start new posted → Lost drain old new text → FailedIn drain start new posted with_next (least ++ text)
failed-in drain start old new posted with_next least text all flushes surely marks (until.in_text part none) =
    in_text (Appends-part (drain.contents start) (drain.contents old) (drain.contents new) least text all part) (none ∙ flushes) marks
failed-in drain start old new posted with_next least text all flushes surely marks (until.at_flush whole once unsure) =
    at_flush (Appends-trans (drain.contents start) (drain.contents old) (drain.contents new) least text all whole) (once ∙ ap flushed flushes) (λ h. unsure (surely h)) marks

-- the text was not marked after these letters were written and flushed
failed-unmarked : {W : Type 0} (drain : Drain W) (start old new : W) (posted : List Letter) (letter : Letter) (least text : List ℕ) → Appends (drain.contents start) (drain.contents old) least → drain.flushes old ≡ flushed_times (length posted) (drain.flushes start) → drain.marked old ≡ marked_with posted (drain.marked start) → (drain.flushes_surely start → drain.flushes_surely old) → MarksAllOf drain start old posted → Unmarked drain old new text letter.serial → FailedIn drain start new posted (posted ++ letter ∷ []) (least ++ text)
failed-unmarked drain start old new posted letter least text all flushes marked surely marks (until.unflushed lost same still) =
    failed-in drain start old new posted (posted ++ letter ∷ []) least text all flushes surely (marks-still drain start old new posted marks still same) lost
failed-unmarked drain start old new posted letter least text all flushes marked surely marks (until.at_mark whole once passed_on same some unsure any_moment) =
    at_mark (Appends-trans (drain.contents start) (drain.contents old) (drain.contents new) least text all whole) (once ∙ ap flushed flushes) passed_on
    (marked_with-some posted (drain.marked start) (λ none. some (marked ∙ none))) (λ h. unsure (surely h))
    (marks-more drain start old new posted letter marks.0 marks.1 marked any_moment)

-- the longest possible text of an outbox is a front of the text of all letters
until-front : (site : Site) (posted unsent : List Letter) → (more : List ℕ) × (outbox_of site (posted ++ unsent) ≡ text_until site posted unsent ++ more)
unfolding outbox_of
until-front site posted [] = ([], rw (append-nil posted) (sym (append-nil (outbox_of site posted))))
until-front site posted (first ∷ rest) =
    let f = mail_transaction site in
    (flat_map f rest ++ goodbye, rw (flat_map-append f posted (first ∷ rest), flat_map-more f posted first) (simp append_assoc))

-- if the device flushes surely, an outbox that failed lacks some of the text of all letters
short-of : {W : Type 0} (drain : Drain W) (site : Site) (start end : W) (posted with_next unsent letters : List Letter) → letters ≡ posted ++ unsent → FailedIn drain start end posted with_next (text_until site posted unsent) → drain.flushes_surely start → AppendsPart (drain.contents start) (drain.contents end) (outbox_of site letters)
short-of drain site start end posted with_next unsent letters split (in_text part none marks) surely =
    let front = until-front site posted unsent in
    rw (split, front.1) (AppendsPart-longer (drain.contents start) (drain.contents end) _ front.0 part)
short-of drain site start end posted with_next unsent letters split (at_flush whole once unsure marks) surely = absurd (unsure surely)
short-of drain site start end posted with_next unsent letters split (at_mark whole once passed_on some unsure marks) surely = absurd (unsure surely)

-- a device that stays steady in two steps stays steady in both together
stays-steady : {W : Type 0} (drain : Drain W) (a b c : W) → StaysSteady drain a b → StaysSteady drain b c → StaysSteady drain a c
stays-steady drain a b c first second steady =
    let one = first steady in
    let two = second one.0 in
    (two.0, two.1 ∙ one.1)

module _ {W : Type 0} (drain : Drain W) (site : Site) (start : W) (old new : Poster W) (unsent letters : List Letter) (letter : Letter) (before : Delivered drain site start (record { poster = old; unsent = unsent }) letters) where
  -- a poster that wrote a letter had not failed before
  was-good : (failed : Bool) → old.failed ≡ failed → (old.failed ≡ true → new ≡ old) → new.failed ≡ false → old.failed ≡ false
  was-good true is nothing good = absurd (not-both new.failed (ap (λ (p : Poster W). p.failed) (nothing is) ∙ is) good)
  was-good false is nothing good = is

  still-good : (failed : Bool) (count : ℕ) → failed ≡ false → counts_failure failed false count ≡ count
  still-good true count is = absurd (not-both true refl is)
  still-good false count is = refl

  -- one more letter was written
  pub hand-ok : Appends (drain.contents old.outbox) (drain.contents new.outbox) (post_text old letter) → (old.failed ≡ true → new ≡ old) → new.failed ≡ false → new.greeted ≡ true → new.site ≡ old.site → drain.failures new.outbox ≡ counts_failure old.failed false (drain.failures old.outbox) → WrittenAndMarked drain old.failed new.failed old.outbox new.outbox (post_text old letter) letter.serial → StaysSteady drain old.outbox new.outbox → Delivered drain site start (record { poster = new; unsent = unsent }) (letters ++ letter ∷ [])
  hand-ok sent nothing good greeted same_site count made steady =
      let was : old.failed ≡ false = was-good old.failed refl nothing good in
      let all = before.while_good was in
      let now = once-marked drain old.failed new.failed old.outbox new.outbox _ _ was good made in record {
        site_kept = same_site ∙ before.site_kept;
        while_good = λ _. record {
          none_unsent = all.none_unsent;
          written = rw (same_site, greeted, ← post_text-after old letters letter (none-where letters old.greeted all.greeted_is)) (Appends-trans (drain.contents start) (drain.contents old.outbox) (drain.contents new.outbox) _ _ all.written sent);
          greeted_is = greeted ∙ sym (are_some-more letters letter);
          good = count ∙ still-good old.failed (drain.failures old.outbox) was ∙ all.good;
          flushes = now.flushed.once ∙ ap flushed all.flushes ∙ flushed_times-more letters letter (drain.flushes start);
          marked = now.marked ∙ ap (marked_by true letter.serial) all.marked ∙ marked_with-more letters letter (drain.marked start);
          passed_on = λ _. now.flushed.passed_on;
          marks = (marks-more drain start old.outbox new.outbox letters letter all.marks.0 all.marks.1 all.marked now.any_moment, λ begun. now.leaves (all.marks.1 begun));
          surely = λ h. now.flushed.surely (all.surely h);
        };
        after_fault = λ is. absurd (not-both new.failed is good);
        steady = stays-steady drain start old.outbox new.outbox before.steady steady;
      }

  -- the first letter that could not be written
  first-lost : old.failed ≡ false → AppendsFront (drain.contents old.outbox) (drain.contents new.outbox) (post_text old letter) → WrittenAndMarked drain old.failed new.failed old.outbox new.outbox (post_text old letter) letter.serial → new.failed ≡ true → new.site ≡ old.site → drain.failures new.outbox ≡ counts_failure old.failed true (drain.failures old.outbox) → FrontWritten drain start (record { poster = new; unsent = unsent ++ letter ∷ [] }) (letters ++ letter ∷ [])
  first-lost good front made failed same_site count =
      let all = before.while_good good in
      let first = none-where letters old.greeted all.greeted_is in record {
        posted = letters;
        failed = letter;
        later = [];
        unsent_is = rw all.none_unsent refl;
        split = refl;
        written = rw (same_site, ← all.greeted_is, ← post_text-after old letters letter first) (Appends-least (drain.contents start) (drain.contents old.outbox) (drain.contents new.outbox) _ _ all.written front);
        lost = rw (same_site, ← post_text-after old letters letter first) (failed-unmarked drain start old.outbox new.outbox letters letter _ _ all.written all.flushes all.marked all.surely all.marks (unmarked-now drain old.failed new.failed old.outbox new.outbox _ _ good failed made));
        marked = not-marked drain old.outbox new.outbox _ _ (unmarked-now drain old.failed new.failed old.outbox new.outbox _ _ good failed made) ∙ all.marked;
        count = rw good at count ∙ ap (counted true) all.good;
      }

  -- a later letter that could not be written
  later-lost : old.failed ≡ true → new ≡ old → FrontWritten drain start (record { poster = new; unsent = unsent ++ letter ∷ [] }) (letters ++ letter ∷ [])
  later-lost failed same =
      let some = before.after_fault failed in record {
        posted = some.posted;
        failed = some.failed;
        later = some.later ++ letter ∷ [];
        unsent_is = rw some.unsent_is refl;
        split = rw some.split (append_assoc some.posted (some.failed ∷ some.later) (letter ∷ []));
        written = rw same some.written;
        lost = rw same some.lost;
        marked = rw same some.marked;
        count = rw same some.count;
      }

  any-lost : (failed : Bool) → old.failed ≡ failed → AppendsFront (drain.contents old.outbox) (drain.contents new.outbox) (post_text old letter) → WrittenAndMarked drain old.failed new.failed old.outbox new.outbox (post_text old letter) letter.serial → new.failed ≡ true → (old.failed ≡ true → new ≡ old) → new.site ≡ old.site → drain.failures new.outbox ≡ counts_failure old.failed true (drain.failures old.outbox) → FrontWritten drain start (record { poster = new; unsent = unsent ++ letter ∷ [] }) (letters ++ letter ∷ [])
  any-lost true is front made now nothing same_site count = later-lost is (nothing is)
  any-lost false is front made now nothing same_site count = first-lost is front made now same_site count

  -- one more letter could not be written
  pub hand-err : (fault : PostFault) → fault ≡ post_fault old.failed letter → AppendsFront (drain.contents old.outbox) (drain.contents new.outbox) (post_text old letter) → WrittenAndMarked drain old.failed new.failed old.outbox new.outbox (post_text old letter) letter.serial → (old.failed ≡ true → new ≡ old) → new.failed ≡ true → new.site ≡ old.site → drain.failures new.outbox ≡ counts_failure old.failed true (drain.failures old.outbox) → StaysSteady drain old.outbox new.outbox → Delivered drain site start (record { poster = new; unsent = unsent ++ letter_handed_back fault ∷ [] }) (letters ++ letter ∷ [])
  hand-err fault is front made nothing failed same_site count steady =
      let back : letter_handed_back fault ≡ letter = ap letter_handed_back is ∙ handed_back old.failed letter in record {
        site_kept = same_site ∙ before.site_kept;
        while_good = λ good. absurd (not-both new.failed failed good);
        after_fault = λ _. rw back (any-lost old.failed refl front made failed nothing same_site count);
        steady = stays-steady drain start old.outbox new.outbox before.steady steady;
      }

module _ {W : Type 0} (drain : Drain W) (site : Site) (start : W) (old : Poster W) (unsent letters : List Letter) (before : Delivered drain site start (record { poster = old; unsent = unsent }) letters) where
  any-front : (outbox : W) (whole : Bool) (text : List ℕ) → (whole ≡ true → Appends (drain.contents old.outbox) (drain.contents outbox) text) → (whole ≡ false → AppendsFront (drain.contents old.outbox) (drain.contents outbox) text) → AppendsFront (drain.contents old.outbox) (drain.contents outbox) text
  any-front outbox true text sent front = AppendsFront-all (drain.contents old.outbox) (drain.contents outbox) text (sent refl)
  any-front outbox false text sent front = front refl

  finished-good : old.failed ≡ false → (outbox : W) (whole : Bool) → (whole ≡ true → Appends (drain.contents old.outbox) (drain.contents outbox) (finish_text old)) → (whole ≡ false → AppendsFront (drain.contents old.outbox) (drain.contents outbox) (finish_text old)) → drain.failures outbox ≡ counts_failure old.failed (not whole) (drain.failures old.outbox) → WrittenAndFlushed drain old.failed (not whole) old.outbox outbox (finish_text old) → StaysSteady drain old.outbox outbox → drain.marked outbox ≡ drain.marked old.outbox → TakesNoTime drain old.outbox outbox → IsOutbox drain site start outbox whole unsent letters
  finished-good good outbox whole sent front count made steady same still =
      let all = before.while_good good in
      let ends = finish_text-after old letters (none-where letters old.greeted all.greeted_is) in
      let marks = marks-still drain start old.outbox outbox letters all.marks still same in
      let lost : (whole ≡ false → FailedIn drain start outbox letters (letters ++ take 1 unsent) (text_until site letters unsent)) = λ part. rw (all.none_unsent, ← before.site_kept, ← ends) (failed-in drain start old.outbox outbox letters _ _ _ all.written all.flushes all.surely marks (lost-now drain old.failed (not whole) old.outbox outbox _ good (ap not part) made)) in record {
        posted = letters;
        split = rw all.none_unsent (sym (append-nil letters));
        written = rw (all.none_unsent, ← before.site_kept, ← all.greeted_is, ← ends) (Appends-least (drain.contents start) (drain.contents old.outbox) (drain.contents outbox) _ _ all.written (any-front outbox whole _ sent front));
        all_written = λ done. rw (← before.site_kept, ← ends) (Appends-trans (drain.contents start) (drain.contents old.outbox) (drain.contents outbox) _ _ all.written (sent done));
        none_unsent = λ _. all.none_unsent;
        count = rw good at count ∙ ap (counted (not whole)) all.good;
        flushes = λ done. (once-flushed drain old.failed (not whole) old.outbox outbox _ good (ap not done) made).0 ∙ ap flushed all.flushes;
        passed_on = λ done. (once-flushed drain old.failed (not whole) old.outbox outbox _ good (ap not done) made).1;
        marked = same ∙ all.marked;
        marks = λ done. marks;
        lost = lost;
        short = λ part. short-of drain site start outbox letters _ unsent letters (rw all.none_unsent (sym (append-nil letters))) (lost part);
        steady = stays-steady drain start old.outbox outbox before.steady steady;
      }

  finished-lost : old.failed ≡ true → (outbox : W) (whole : Bool) → (outbox ≡ old.outbox) × (whole ≡ false) → StaysSteady drain old.outbox outbox → IsOutbox drain site start outbox whole unsent letters
  finished-lost failed outbox whole nothing steady =
      let some = before.after_fault failed in
      let lost : FailedIn drain start outbox some.posted (some.posted ++ take 1 unsent) (text_until site some.posted unsent) = rw (nothing.0, some.unsent_is, ← before.site_kept) some.lost in record {
        posted = some.posted;
        split = rw some.unsent_is some.split;
        written = rw (nothing.0, some.unsent_is, ← before.site_kept) some.written;
        all_written = λ done. absurd (not-both whole done nothing.1);
        none_unsent = λ done. absurd (not-both whole done nothing.1);
        count = rw (nothing.0, nothing.1) some.count;
        flushes = λ done. absurd (not-both whole done nothing.1);
        passed_on = λ done. absurd (not-both whole done nothing.1);
        marked = rw nothing.0 some.marked;
        marks = λ done. absurd (not-both whole done nothing.1);
        lost = λ _. lost;
        short = λ _. short-of drain site start outbox some.posted _ unsent letters (rw some.unsent_is some.split) lost;
        steady = stays-steady drain start old.outbox outbox before.steady steady;
      }

  finished-by : (failed : Bool) → old.failed ≡ failed → (outbox : W) (whole : Bool) → (whole ≡ true → Appends (drain.contents old.outbox) (drain.contents outbox) (finish_text old)) → (whole ≡ false → AppendsFront (drain.contents old.outbox) (drain.contents outbox) (finish_text old)) → (old.failed ≡ true → (outbox ≡ old.outbox) × (whole ≡ false)) → drain.failures outbox ≡ counts_failure old.failed (not whole) (drain.failures old.outbox) → WrittenAndFlushed drain old.failed (not whole) old.outbox outbox (finish_text old) → StaysSteady drain old.outbox outbox → drain.marked outbox ≡ drain.marked old.outbox → TakesNoTime drain old.outbox outbox → IsOutbox drain site start outbox whole unsent letters
  finished-by true is outbox whole sent front nothing count made steady same still = finished-lost is outbox whole (nothing is) steady
  finished-by false is outbox whole sent front nothing count made steady same still = finished-good is outbox whole sent front count made steady same still

  -- the outbox ended
  pub finished : (outbox : W) (whole : Bool) → (whole ≡ true → Appends (drain.contents old.outbox) (drain.contents outbox) (finish_text old)) → (whole ≡ false → AppendsFront (drain.contents old.outbox) (drain.contents outbox) (finish_text old)) → (old.failed ≡ true → (outbox ≡ old.outbox) × (whole ≡ false)) → drain.failures outbox ≡ counts_failure old.failed (not whole) (drain.failures old.outbox) → WrittenAndFlushed drain old.failed (not whole) old.outbox outbox (finish_text old) → StaysSteady drain old.outbox outbox → drain.marked outbox ≡ drain.marked old.outbox → TakesNoTime drain old.outbox outbox → IsOutbox drain site start outbox whole unsent letters
  finished outbox whole = finished-by old.failed refl outbox whole
