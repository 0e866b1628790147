-- What holds of an outlet after every course from one to which no letter was passed.
use Rattle.std.specs.Prelude.{◌≡◌, ◌≢◌, ◌⊎◌, ℕ, ◌+◌, Bool, true, false, List, [], ◌∷◌, ◌++◌, Some, None, map, slice_get, Result}
use Rattle.std.specs.List.{AllByRecursion}
use Rattle.dsn_device.specs.declared.drain.Drain
use Rattle.dsn_device.specs.declared.source.Source
use Rattle.dsn_journal.specs.Marks.{LeavesTheEdges, Marks, SayEdges}
use Rattle.dsn_journal.specs.Moments.{LeavesOnly}
use Rattle.dsn_journal.specs.Records.{recovered}
use Rattle.dsn_journal.specs.SettledLetters.{AreEdges, first_edge, is_settled}
use Rattle.dsn_journal.specs.declared.disk.Disk
use Rattle.dsn_outcome.specs.Letter.{Letter}
use Rattle.dsn_smtp.specs.declared.hand_in_fault.HandInFault.{HandInFault}
use Rattle.dsn_submission.specs.Verdict.{reason_of}
use Rattle.dsn_submission.specs.Submitter.{is_settled_by}
use Rattle.dsn_submission.specs.Waiting.{IsSettledIn, Queue, empty_queue}
use Rattle.dsn_submission.specs.declared.deeds.Marks.{Ghosts as MarkPlace}
use Rattle.dsn_submission.specs.WaitingLaws.{HasEach}
use Rattle.dsn_submission.specs.declared.verdict.Verdict.{Verdict}
use Rattle.dsn_submission.specs.declared.verdict.Verdict.TheVariants.{Accepted, RefusedForGood}
use Rattle.dsn_submission.specs.declared.waiting.Waits.{Waits}
use Rattle.dsn_hand_in.specs.MailOutlet.{MailDeed, MailOutlet}
use Rattle.dsn_hand_in.specs.SitedLetter.{SitedLetter, sited_message, sited_path}

module _ {S C K M : Type 0} where
  -- an outlet to which no letter was passed, whose mark is this one
  pub record BeginsEmpty (mark : ℕ) (start : MailOutlet S C K M) : Type 0 where
    pub none_waits : start.parts.submitter.waiting ≡ empty_queue mark
    pub enough : start.short ≡ false

  -- The letters that were passed to an outlet are those that it kept and behind them those that it dropped, which are
  -- none unless memory was refused. The kept ones are those below the mark, which began at `mark`, and behind them those
  -- that wait or are settled, in the order in which they were passed: so each has exactly one place.
  pub record HavePlaces (mark : ℕ) (start now : MailOutlet S C K M) (letters : List Letter) : Type 0 where
    pub kept : List Letter
    pub dropped : List Letter
    pub split : letters ≡ kept ++ dropped
    pub all_kept : now.short ≡ false → dropped ≡ []
    pub places : HasEach mark now.parts.submitter.waiting (map (λ letter. record { site = start.site; letter = letter }) kept)

  module _ (source : Source.Ghosts S) (drain : Drain.Ghosts S)
      (gives : C → C → Result S HandInFault → Type 0) (keeps : K → List ℕ → List ℕ → List ℕ → Bool → K → Type 0)
      (marks : MarkPlace M) where
    -- none of these deeds settles the letter with this serial
    abbrev pub NoneSettles : ℕ → List (MailDeed source drain gives keeps marks) → Type 0
    NoneSettles serial deeds = AllByRecursion (λ deed. deed.serial ≡ serial → is_settled_by deed.verdict ≡ false) deeds

    -- the letter with this serial isn't submitted in these deeds
    abbrev pub NoneSubmits : ℕ → List (MailDeed source drain gives keeps marks) → Type 0
    NoneSubmits serial deeds = AllByRecursion (λ deed. deed.serial ≢ serial) deeds

    -- one of these deeds settles this letter, which has this serial; after it, the letter isn't submitted again
    pub record IsSettledOnce (deeds : List (MailDeed source drain gives keeps marks)) (serial : ℕ) (letter : Letter) : Type 0 where
      pub before : List (MailDeed source drain gives keeps marks)
      pub deed : MailDeed source drain gives keeps marks
      pub after : List (MailDeed source drain gives keeps marks)
      pub split : deeds ≡ before ++ deed ∷ after
      pub its_serial : deed.serial ≡ serial
      pub its_letter : deed.letter.item.letter ≡ letter
      pub settles : is_settled_by deed.verdict ≡ true
      pub not_earlier : NoneSettles serial before
      pub not_again : NoneSubmits serial after

    -- The server accepted the letter of a deed without a fault if the verdict says so. The letter was kept with the
    -- reason if the verdict is a refusal for good.
    pub record IsMeant (deed : MailDeed source drain gives keeps marks) : Type 0 where
      pub accepted : deed.verdict ≡ Accepted → deed.fault ≡ None
      pub refused : deed.verdict ≡ RefusedForGood
          → keeps deed.old.refused (sited_path deed.letter.item) (sited_message deed.letter.item)
          (reason_of deed.fault deed.new.submitter.reply) true deed.new.refused

    -- each letter that is settled was settled before `start`, or once since, by a deed of its own. The first one's serial
    -- is `mark`
    abbrev pub AreSettledOnce : ℕ → MailOutlet S C K M → MailOutlet S C K M → List Letter → List (MailDeed source drain gives keeps marks) → Type 0
    AreSettledOnce mark start now letters deeds =
        (place : ℕ) (letter : Letter) → slice_get letters place ≡ Some letter
        → IsSettledIn now.parts.submitter.waiting (mark + place)
        → (marks.has_settled start.parts.marks (mark + place) ≡ true) ⊎ IsSettledOnce deeds (mark + place) letter

    -- no deed settled a letter that waits, and none submitted one that was settled before `start`
    pub record AreUnsettled (start now : MailOutlet S C K M) (deeds : List (MailDeed source drain gives keeps marks)) : Type 0 where
      pub waiting : (place : ℕ) (letter : Waits SitedLetter)
          → slice_get now.parts.submitter.waiting.letters place ≡ Some (Some letter)
          → NoneSettles (now.parts.submitter.waiting.mark + place) deeds
      pub known : (serial : ℕ) → marks.has_settled start.parts.marks serial ≡ true → NoneSubmits serial deeds

-- the letters that wait begin with the first that isn't settled in an outlet's marks, and a crash leaves the marks
pub record BeginsMarked {S C K D : Type 0} (disk : Disk.Ghosts D) (mark : ℕ) (start : MailOutlet S C K (Marks D)) : Type 0 where
  pub mark_is : first_edge start.parts.marks.edges ≡ mark
  pub valid : AreEdges start.parts.marks.edges
  pub going : start.parts.submitter.stopped ≡ false
  pub leaves : LeavesTheEdges disk start.parts.marks

-- a file of letters that are settled, in these letters or before with these edges
pub record SaysOnlySettled (edges : List ℕ) (queue : Queue SitedLetter) (file : List ℕ) : Type 0 where
  pub said : List ℕ
  pub says : SayEdges (recovered file) said
  pub only : (serial : ℕ) → is_settled said serial ≡ true → (is_settled edges serial ≡ true) ⊎ IsSettledIn queue serial

-- a file of all letters that are settled in these
pub record SaysAllSettled (queue : Queue SitedLetter) (file : List ℕ) : Type 0 where
  pub said : List ℕ
  pub says : SayEdges (recovered file) said
  pub all : (serial : ℕ) → IsSettledIn queue serial → is_settled said serial ≡ true

-- A crash at any moment leaves only letters that are settled. A crash now leaves all of them, unless the marks couldn't
-- keep one, so that nothing is submitted any more.
pub record LeavesSettled {S C K D : Type 0} (disk : Disk.Ghosts D) (start now : MailOutlet S C K (Marks D)) : Type 0 where
  pub only :
      LeavesOnly disk start.parts.marks.journal.disk now.parts.marks.journal.disk
      (SaysOnlySettled start.parts.marks.edges now.parts.submitter.waiting)
  pub all : now.parts.submitter.stopped ≡ false → (left : List ℕ)
      → disk.left_since now.parts.marks.journal.disk (disk.moment now.parts.marks.journal.disk) left
      → SaysAllSettled now.parts.submitter.waiting left
