-- An outlet that submits letters to a mail server: what it went through.
use Rattle.std.specs.Prelude.{◌≡◌, ℕ, Bool, true, false, not, ◌&&◌, List, [], ◌∷◌, ◌++◌, Option, Some, None, Result}
use Rattle.dsn_crew.specs.declared.post.outlet.Outlet
use Rattle.dsn_crew.specs.lane.Lane.{most_waiting}
use Rattle.dsn_device.specs.declared.drain.Drain
use Rattle.dsn_device.specs.declared.source.Source
use Rattle.dsn_outcome.specs.Letter.{Letter}
use Rattle.dsn_report.specs.declared.outbox_end.OutboxEnd.{OutboxEnd}
use Rattle.dsn_report.specs.Site.{Site}
use Rattle.dsn_smtp.specs.declared.hand_in_fault.HandInFault.{HandInFault}
use Rattle.dsn_submission.specs.Submitter.{Handles, next_place, with_next_taken}
use Rattle.dsn_submission.specs.Waiting.{empty_queue, letter_at, next_serial, pushed, pushed_settled, serial_in_hand}
use Rattle.dsn_submission.specs.declared.deeds.Marks.{Ghosts as MarkPlace}
use Rattle.dsn_submission.specs.declared.verdict.Verdict.{Verdict}
use Rattle.dsn_submission.specs.declared.waiting.Waits.{Waits}
use Rattle.dsn_hand_in.specs.SitedLetter.{SitedLetter, sited_message, sited_path}
use Rattle.dsn_hand_in.specs.declared.mail_parts.MailParts.{MailParts}

-- The mail system that the notices are from; the letters that wait, the server, and what is kept; and
-- whether memory for a letter was refused.
pub record MailOutlet (S C K M : Type 0) : Type 0 where
  pub site : Site
  pub parts : MailParts S C K M
  pub short : Bool

module _ {S C K M : Type 0} where
  -- an outlet once a letter came at a moment, which waits then
  abbrev pub with_letter : MailOutlet S C K M → Letter → ℕ → MailOutlet S C K M
  with_letter outlet letter now = record outlet {
    parts = record outlet.parts {
      submitter = record outlet.parts.submitter {
        waiting = pushed outlet.parts.submitter.waiting (record { site = outlet.site; letter = letter }) now;
      };
    };
  }

  -- an outlet once memory for a letter was refused
  abbrev pub without_memory : MailOutlet S C K M → MailOutlet S C K M
  without_memory outlet = record outlet { short = true }

  -- an outlet once a letter came that was settled already
  abbrev pub with_settled : MailOutlet S C K M → MailOutlet S C K M
  with_settled outlet = record outlet {
    parts = record outlet.parts {
      submitter = record outlet.parts.submitter { waiting = pushed_settled outlet.parts.submitter.waiting };
    };
  }

  -- whether the next letter is one that was settled before it comes
  abbrev pub is_next_settled : MarkPlace M → MailOutlet S C K M → Bool
  is_next_settled marks outlet = marks.has_settled outlet.parts.marks (next_serial outlet.parts.submitter.waiting)

  -- An outlet becomes this one as a letter is passed to it: the letter waits from some moment on, unless it was settled
  -- before, or it is dropped since memory was refused. The server isn't asked, and no file changes.
  pub data AddsToWaiting (marks : MarkPlace M) (old : MailOutlet S C K M) (letter : Letter) : MailOutlet S C K M → Type 0 where
    it_waits : (now : ℕ) → old.short ≡ false → is_next_settled marks old ≡ false → AddsToWaiting marks old letter (with_letter old letter now)
    it_is_settled : old.short ≡ false → is_next_settled marks old ≡ true → AddsToWaiting marks old letter (with_settled old)
    it_is_dropped : AddsToWaiting marks old letter (without_memory old)

  -- an outlet without a session
  abbrev pub without_session : MailOutlet S C K M → MailOutlet S C K M
  without_session outlet = record outlet {
    parts = record outlet.parts { submitter = record outlet.parts.submitter { session = None } };
  }

  module _ (source : Source.Ghosts S) (drain : Drain.Ghosts S)
      (gives : C → C → Result S HandInFault → Type 0) (keeps : K → List ℕ → List ℕ → List ℕ → Bool → K → Type 0)
      (marks : MarkPlace M) where
    -- A deed: the letter that was the next one at a moment was submitted. It has the parts before and after, the letter
    -- and its serial, why the server didn't accept it, and the verdict. So an accepted letter is one whose message the
    -- server accepted for its path.
    pub record MailDeed : Type 0 where
      pub old : MailParts S C K M
      pub new : MailParts S C K M
      pub now : ℕ
      pub letter : Waits SitedLetter
      pub serial : ℕ
      pub fault : Option HandInFault
      pub verdict : Verdict
      pub is_next : letter_at old.submitter.waiting.letters (next_place old.submitter now) ≡ Some letter
      pub its_serial : Some serial ≡ serial_in_hand (with_next_taken old.submitter (next_place old.submitter now)).waiting
      pub handled : Handles source drain gives keeps marks.settles
          (with_next_taken old.submitter (next_place old.submitter now)) new.submitter old.server new.server
          old.refused new.refused old.marks new.marks
          (sited_path letter.item) (sited_message letter.item) now fault verdict

    -- From `start` an outlet became this one while these letters were passed to it and these deeds were done, each in
    -- order. A letter that comes waits, unless it was settled before, or memory was refused for it or for an earlier one:
    -- then it is dropped.
    pub data Course (start : MailOutlet S C K M) : List Letter → List MailDeed → MailOutlet S C K M → Type 0 where
      begins : Course start [] [] start
      comes : (letters : List Letter) (deeds : List MailDeed) (old : MailOutlet S C K M) (letter : Letter) (now : ℕ)
          → Course start letters deeds old → old.short ≡ false → is_next_settled marks old ≡ false
          → Course start (letters ++ letter ∷ []) deeds (with_letter old letter now)
      comes_settled : (letters : List Letter) (deeds : List MailDeed) (old : MailOutlet S C K M) (letter : Letter)
          → Course start letters deeds old → old.short ≡ false → is_next_settled marks old ≡ true
          → Course start (letters ++ letter ∷ []) deeds (with_settled old)
      is_dropped : (letters : List Letter) (deeds : List MailDeed) (old : MailOutlet S C K M) (letter : Letter)
          → Course start letters deeds old
          → Course start (letters ++ letter ∷ []) deeds (without_memory old)
      is_submitted : (letters : List Letter) (deeds : List MailDeed) (old : MailOutlet S C K M) (deed : MailDeed)
          → Course start letters deeds old → deed.old ≡ old.parts
          → Course start letters (deeds ++ deed ∷ []) (record old { parts = deed.new })
      ends_session : (letters : List Letter) (deeds : List MailDeed) (old : MailOutlet S C K M)
          → Course start letters deeds old
          → Course start letters deeds (without_session old)

    -- these letters were passed to an outlet, and some deeds were done
    pub record Passes (start : MailOutlet S C K M) (letters : List Letter) (now : MailOutlet S C K M) : Type 0 where
      pub deeds : List MailDeed
      pub course : Course start letters deeds now

    -- The end of an outlet after these letters: its parts without a session. It is whole unless a letter couldn't be
    -- kept as settled or memory was refused. A letter that waits isn't unsent, since the next run submits it.
    pub record EndsAfter (start : MailOutlet S C K M) (letters : List Letter) (end : OutboxEnd (MailParts S C K M)) : Type 0 where
      pub last : MailOutlet S C K M
      pub passed : Passes start letters last
      pub parts : end.outbox ≡ last.parts
      pub closed : last.parts.submitter.session ≡ None
      pub whole : end.whole ≡ (not last.parts.submitter.stopped && not last.short)
      pub sent : end.unsent ≡ []

    -- what is left of an outlet to which no further letter was passed
    pub record IsLeftOf (outlet : MailOutlet S C K M) (left : MailParts S C K M) : Type 0 where
      pub last : MailOutlet S C K M
      pub passed : Passes outlet [] last
      pub parts : left ≡ last.parts

-- an outlet that submits to a mail server, as an outlet of a crew's letters
abbrev pub mail_outlet : {S C K M : Type 0} → Source.Ghosts S → Drain.Ghosts S → (C → C → Result S HandInFault → Type 0)
    → (K → List ℕ → List ℕ → List ℕ → Bool → K → Type 0) → MarkPlace M
    → Outlet.Ghosts (MailOutlet S C K M) (MailParts S C K M)
mail_outlet source drain gives keeps marks = record {
  posted = Passes source drain gives keeps marks;
  ended = EndsAfter source drain gives keeps marks;
  untouched = IsLeftOf source drain gives keeps marks;
  room = λ _. most_waiting;
  unsent = λ _. 0;
}

-- an outlet to which no letter was passed: the client's name, after how many milliseconds a letter is given up, and the
-- mark of the letters that are settled
abbrev pub mail_start : {S C K M : Type 0} → Site → List ℕ → ℕ → ℕ → C → K → M → MailOutlet S C K M
mail_start site name give_up mark server refused marks = record {
  site = site;
  parts = record {
    submitter = record {
      waiting = empty_queue mark;
      session = None;
      reply = [];
      host = name;
      give_up = give_up;
      stopped = false;
    };
    server = server;
    refused = refused;
    marks = marks;
  };
  short = false;
}
