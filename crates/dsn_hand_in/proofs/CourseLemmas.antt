-- Trails of a mail outlet: how one goes on, and how two are joined.
use Rattle.std.proofs.Common.{◌≡◌, ℕ, Bool, true, false, List, [], ◌∷◌, ◌++◌, Option, Some, None, refl, sym, ap, subst, ◌∙◌, append_assoc}
use Rattle.std.specs.Prelude.{Result}
use Rattle.std.specs.Option.{option_map}
use Rattle.std.proofs.lemmas.List.{append-nil}
use Rattle.dsn_device.specs.declared.drain.Drain
use Rattle.dsn_device.specs.declared.source.Source
use Rattle.dsn_outcome.specs.Letter.{Letter}
use Rattle.dsn_smtp.specs.declared.hand_in_fault.HandInFault.{HandInFault}
use Rattle.dsn_submission.specs.Submitter.{Handles, Submitter, next_place, with_next_taken}
use Rattle.dsn_submission.specs.Waiting.{item_of, letter_at, pushed, pushed_settled, serial_in_hand, taken}
use Rattle.dsn_submission.specs.declared.deeds.Marks.{Ghosts as MarkPlace}
use Rattle.dsn_submission.specs.declared.verdict.Verdict.{Verdict}
use Rattle.dsn_submission.specs.declared.waiting.Waits.{Waits}
use Rattle.dsn_hand_in.specs.MailOutlet.{MailDeed, IsLeftOf, MailOutlet, Passes, AddsToWaiting, Course, begins, comes, comes_settled, is_dropped, is_next_settled, is_submitted, it_is_dropped, it_is_settled, it_waits, ends_session, with_letter, with_settled, without_memory, without_session}
use Rattle.dsn_hand_in.specs.SitedLetter.{SitedLetter, sited_message, sited_path}
use Rattle.dsn_hand_in.specs.declared.mail_parts.MailParts.{MailParts}
use Rattle.dsn_report.specs.Site.{Site}

module _ {S C K M : Type 0} (marks : MarkPlace M) where
  dropped_is : (old new : MailOutlet S C K M) (letter : Letter) → new ≡ without_memory old → AddsToWaiting marks old letter new
  dropped_is old new letter is = subst (λ outlet. AddsToWaiting marks old letter outlet) (sym is) it_is_dropped

  -- an outlet that is without memory stays as it is
  pub one_more_dropped : (old new : MailOutlet S C K M) (letter : Letter) → old.short ≡ true → new ≡ old → AddsToWaiting marks old letter new
  one_more_dropped old new letter short same =
      let stays : without_memory old ≡ old = ap (λ (b : Bool). record old { short = b }) (sym short) in
      dropped_is old new letter (cc (same, stays))

  -- an outlet with these parts got a letter, which waits
  pub come_to : (old : MailOutlet S C K M) (site : Site) (parts : MailParts S C K M) (short : Bool) (submitter : Submitter SitedLetter S) (letter : Letter) (item : SitedLetter) (now : ℕ)
      → record { site = site; parts = parts; short = short } ≡ old → short ≡ false → is_next_settled marks old ≡ false → item ≡ record { site = site; letter = letter }
      → submitter ≡ record parts.submitter { waiting = pushed parts.submitter.waiting item now }
      → AddsToWaiting marks old letter (record { site = site; parts = record parts { submitter = submitter }; short = short })
  come_to old site parts short submitter letter item now is enough new sited pushes =
      subst (λ outlet. AddsToWaiting marks old letter outlet)
      (sym (ap (λ (s : Submitter SitedLetter S). record { site = site; parts = record parts { submitter = s }; short = short })
      (pushes ∙ ap (λ (l : SitedLetter). record parts.submitter { waiting = pushed parts.submitter.waiting l now }) sited)
      ∙ ap (λ (o : MailOutlet S C K M). with_letter o letter now) is))
      (it_waits now (sym (ap (λ (o : MailOutlet S C K M). o.short) is) ∙ enough) new)

  -- an outlet with these parts got a letter that was settled before
  pub settled_to : (old : MailOutlet S C K M) (site : Site) (parts : MailParts S C K M) (short : Bool) (submitter : Submitter SitedLetter S) (letter : Letter)
      → record { site = site; parts = parts; short = short } ≡ old → short ≡ false → is_next_settled marks old ≡ true
      → submitter ≡ record parts.submitter { waiting = pushed_settled parts.submitter.waiting }
      → AddsToWaiting marks old letter (record { site = site; parts = record parts { submitter = submitter }; short = short })
  settled_to old site parts short submitter letter is enough before pushes =
      subst (λ outlet. AddsToWaiting marks old letter outlet)
      (sym (ap (λ (s : Submitter SitedLetter S). record { site = site; parts = record parts { submitter = s }; short = short }) pushes
      ∙ ap (λ (o : MailOutlet S C K M). with_settled o) is))
      (it_is_settled (sym (ap (λ (o : MailOutlet S C K M). o.short) is) ∙ enough) before)

  -- memory was refused for a letter, of an outlet with these parts
  pub refused_by : (old : MailOutlet S C K M) (site : Site) (parts : MailParts S C K M) (short : Bool) (submitter : Submitter SitedLetter S) (letter : Letter)
      → record { site = site; parts = parts; short = short } ≡ old → submitter ≡ parts.submitter
      → AddsToWaiting marks old letter (record { site = site; parts = record parts { submitter = submitter }; short = true })
  refused_by old site parts short submitter letter is same =
      dropped_is old _ letter
      (ap (λ (s : Submitter SitedLetter S). record { site = site; parts = record parts { submitter = s }; short = true }) same
      ∙ ap without_memory is)

module _ {S C K M : Type 0} (source : Source.Ghosts S) (drain : Drain.Ghosts S)
    (gives : C → C → Result S HandInFault → Type 0) (keeps : K → List ℕ → List ℕ → List ℕ → Bool → K → Type 0)
    (marks : MarkPlace M) where
  abbrev Goes : MailOutlet S C K M → List Letter → List (MailDeed source drain gives keeps marks) → MailOutlet S C K M → Type 0
  Goes = Course source drain gives keeps marks

  abbrev Passed : MailOutlet S C K M → List Letter → MailOutlet S C K M → Type 0
  Passed = Passes source drain gives keeps marks

  courses_joined : (start mid : MailOutlet S C K M) (first : List Letter) (firsts : List (MailDeed source drain gives keeps marks)) → Goes start first firsts mid
      → (letters : List Letter) (deeds : List (MailDeed source drain gives keeps marks)) (now : MailOutlet S C K M) → Goes mid letters deeds now
      → Goes start (first ++ letters) (firsts ++ deeds) now
  courses_joined start mid first firsts so_far letters deeds now begins =
      subst (λ ds. Goes start (first ++ []) ds mid) (sym (append-nil firsts)) (subst (λ ls. Goes start ls firsts mid) (sym (append-nil first)) so_far)
  courses_joined start mid first firsts so_far letters deeds now (comes ls ds old letter moment course enough new) =
      subst (λ all. Goes start all (firsts ++ ds) (with_letter old letter moment)) (append_assoc first ls (letter ∷ []))
      (comes (first ++ ls) (firsts ++ ds) old letter moment (courses_joined start mid first firsts so_far ls ds old course) enough new)
  courses_joined start mid first firsts so_far letters deeds now (comes_settled ls ds old letter course enough before) =
      subst (λ all. Goes start all (firsts ++ ds) (with_settled old)) (append_assoc first ls (letter ∷ []))
      (comes_settled (first ++ ls) (firsts ++ ds) old letter (courses_joined start mid first firsts so_far ls ds old course) enough before)
  courses_joined start mid first firsts so_far letters deeds now (is_dropped ls ds old letter course) =
      subst (λ all. Goes start all (firsts ++ ds) (without_memory old)) (append_assoc first ls (letter ∷ []))
      (is_dropped (first ++ ls) (firsts ++ ds) old letter (courses_joined start mid first firsts so_far ls ds old course))
  courses_joined start mid first firsts so_far letters deeds now (is_submitted ls ds old deed course same) =
      subst (λ all. Goes start (first ++ ls) all (record old { parts = deed.new })) (append_assoc firsts ds (deed ∷ []))
      (is_submitted (first ++ ls) (firsts ++ ds) old deed (courses_joined start mid first firsts so_far ls ds old course) same)
  courses_joined start mid first firsts so_far letters deeds now (ends_session ls ds old course) =
      ends_session (first ++ ls) (firsts ++ ds) old (courses_joined start mid first firsts so_far ls ds old course)

  pub joined : (start mid now : MailOutlet S C K M) (first letters : List Letter) → Passed start first mid → Passed mid letters now → Passed start (first ++ letters) now
  joined start mid now first letters one two = record {
    deeds = one.deeds ++ two.deeds;
    course = courses_joined start mid first one.deeds one.course letters two.deeds now two.course;
  }

  -- no further letter
  pub goes_on : (start mid now : MailOutlet S C K M) (letters : List Letter) → Passed start letters mid → Passed mid [] now → Passed start letters now
  goes_on start mid now letters one two = subst (λ all. Passed start all now) (append-nil letters) (joined start mid now letters [] one two)

  pub still : (old : MailOutlet S C K M) → Passed old [] old
  still old = record { deeds = []; course = begins }

  pub still_is : (old new : MailOutlet S C K M) → new ≡ old → Passed old [] new
  still_is old new same = subst (λ outlet. Passed old [] outlet) (sym same) (still old)

  -- a letter that is taken is passed
  one_taken : (old new : MailOutlet S C K M) (letter : Letter) → AddsToWaiting marks old letter new → Passed old (letter ∷ []) new
  one_taken old new letter (it_waits now enough next) = record { deeds = []; course = comes [] [] old letter now begins enough next }
  one_taken old new letter (it_is_settled enough next) = record { deeds = []; course = comes_settled [] [] old letter begins enough next }
  one_taken old new letter it_is_dropped = record { deeds = []; course = is_dropped [] [] old letter begins }

  pub then_taken : (start old new : MailOutlet S C K M) (letters : List Letter) (letter : Letter)
      → Passed start letters old → AddsToWaiting marks old letter new → Passed start (letters ++ letter ∷ []) new
  then_taken start old new letters letter passed takes = joined start old new letters (letter ∷ []) passed (one_taken old new letter takes)

  pub one_submitted : (old new : MailOutlet S C K M) (deed : MailDeed source drain gives keeps marks) → deed.old ≡ old.parts → new ≡ record old { parts = deed.new } → Passed old [] new
  one_submitted old new deed same is =
      subst (λ outlet. Passed old [] outlet) (sym is) (record { deeds = deed ∷ []; course = is_submitted [] [] old deed begins same })

  pub one_ended : (old new : MailOutlet S C K M) → new ≡ without_session old → Passed old [] new
  one_ended old new is = subst (λ outlet. Passed old [] outlet) (sym is) (record { deeds = []; course = ends_session [] [] old begins })

  -- what is left of an outlet that went on without letters is left of it
  pub left_still : (old new : MailOutlet S C K M) (left : MailParts S C K M) → Passed old [] new → IsLeftOf source drain gives keeps marks new left → IsLeftOf source drain gives keeps marks old left
  left_still old new left passed is = record { last = is.last; passed = joined old new is.last [] [] passed is.passed; parts = is.parts }

  -- the session was ended, of an outlet with these parts
  pub ended_by : (old : MailOutlet S C K M) (site : Site) (parts : MailParts S C K M) (short : Bool) (submitter : Submitter SitedLetter S)
      → record { site = site; parts = parts; short = short } ≡ old → submitter ≡ record parts.submitter { session = None }
      → Passed old [] (record { site = site; parts = record parts { submitter = submitter }; short = short })
  ended_by old site parts short submitter is ends =
      one_ended old _ (ap (λ (s : Submitter SitedLetter S). record { site = site; parts = record parts { submitter = s }; short = short }) ends ∙ ap without_session is)

  -- nothing changed, of an outlet with these parts
  pub unchanged_by : (old : MailOutlet S C K M) (site : Site) (parts : MailParts S C K M) (short : Bool)
      (submitter : Submitter SitedLetter S) (server : C) (refused : K) (kept : M)
      → record { site = site; parts = parts; short = short } ≡ old
      → submitter ≡ parts.submitter → server ≡ parts.server → refused ≡ parts.refused → kept ≡ parts.marks
      → Passed old [] (record { site = site; parts = record { submitter = submitter; server = server; refused = refused; marks = kept }; short = short })
  unchanged_by old site parts short submitter server refused kept is first second third fourth =
      still_is old _
      (ap (λ (s : Submitter SitedLetter S). record { site = site; parts = record { submitter = s; server = server; refused = refused; marks = kept }; short = short }) first
      ∙ (ap (λ (s : C). record { site = site; parts = record { submitter = parts.submitter; server = s; refused = refused; marks = kept }; short = short }) second
      ∙ (ap (λ (s : K). record { site = site; parts = record { submitter = parts.submitter; server = parts.server; refused = s; marks = kept }; short = short }) third
      ∙ (ap (λ (s : M). record { site = site; parts = record { submitter = parts.submitter; server = parts.server; refused = parts.refused; marks = s }; short = short }) fourth
      ∙ is))))

  -- a letter was submitted, of an outlet with these parts
  module _ (old : MailOutlet S C K M) (site : Site) (parts after : MailParts S C K M) (short : Bool) (now serial : ℕ) (fault : Option HandInFault) (verdict : Verdict)
      (is : record { site = site; parts = parts; short = short } ≡ old)
      (handled : (letter : Waits SitedLetter) → letter_at parts.submitter.waiting.letters (next_place parts.submitter now) ≡ Some letter
      → Handles source drain gives keeps marks.settles (with_next_taken parts.submitter (next_place parts.submitter now)) after.submitter
      parts.server after.server parts.refused after.refused parts.marks after.marks
      (sited_path letter.item) (sited_message letter.item) now fault verdict)
      (its_serial : Some serial ≡ serial_in_hand (taken parts.submitter.waiting (next_place parts.submitter now))) where
    submitted_at : (next : Option (Waits SitedLetter)) (item : SitedLetter) → letter_at parts.submitter.waiting.letters (next_place parts.submitter now) ≡ next
        → option_map item_of next ≡ Some item → Passed old [] (record { site = site; parts = after; short = short })
    submitted_at None item at found = cc
    submitted_at (Some letter) item at found =
        one_submitted old _
        (record {
          old = parts;
          new = after;
          now = now;
          letter = letter;
          serial = serial;
          fault = fault;
          verdict = verdict;
          is_next = at;
          its_serial = its_serial;
          handled = handled letter at;
        })
        (ap (λ (o : MailOutlet S C K M). o.parts) is)
        (ap (λ (o : MailOutlet S C K M). record o { parts = after }) is)

    pub submitted_by : (item : SitedLetter) (new : MailOutlet S C K M) → Some item ≡ option_map item_of (letter_at parts.submitter.waiting.letters (next_place parts.submitter now))
        → new ≡ record { site = site; parts = after; short = short } → Passed old [] new
    submitted_by item new found becomes =
        subst (λ outlet. Passed old [] outlet) (sym becomes) (submitted_at (letter_at parts.submitter.waiting.letters (next_place parts.submitter now)) item refl (sym found))
