-- The letters of a mail outlet, after every course: each has its place, by the law of letters that wait.
use Rattle.std.proofs.Common.{◌≡◌, ℕ, Bool, true, false, List, [], ◌∷◌, ◌++◌, map, Option, Some, None, refl, sym, ap, subst, ◌∙◌, append_assoc}
use Rattle.std.specs.Prelude.{Result, if◌then◌else◌}
use Rattle.std.proofs.lemmas.List.{append-nil, map-append}
use Rattle.dsn_device.specs.declared.drain.Drain
use Rattle.dsn_device.specs.declared.source.Source
use Rattle.dsn_outcome.specs.Letter.{Letter}
use Rattle.dsn_smtp.specs.declared.hand_in_fault.HandInFault.{HandInFault}
use Rattle.dsn_submission.specs.Submitter.{Submitter, concluded, next_place}
use Rattle.dsn_submission.specs.Waiting.{Queue, due_place, empty_queue, letter_at, taken}
use Rattle.dsn_submission.specs.WaitingLaws.{Event, Comes, ComesSettled, IsTaken, Settles, IsPutOff, FindsNoServer, HasEach, after_event, after_events, come, come_by}
use Rattle.dsn_submission.specs.declared.deeds.Marks.{Ghosts as MarkPlace}
use Rattle.dsn_submission.specs.declared.verdict.Verdict.{Verdict}
use Rattle.dsn_submission.specs.declared.verdict.Verdict.TheVariants.{Accepted, RefusedForGood, PutOff, ServerAway}
use Rattle.dsn_submission.specs.declared.waiting.Waits.{Waits}
use Rattle.dsn_hand_in.specs.MailLaws.{HavePlaces, BeginsEmpty}
use Rattle.dsn_hand_in.specs.MailOutlet.{MailDeed, MailOutlet, Course, begins, comes, comes_settled, is_dropped, is_submitted, ends_session}
use Rattle.dsn_hand_in.specs.SitedLetter.{SitedLetter}
use Rattle.dsn_report.specs.Site.{Site}

-- ---- events of letters that wait

-- what happens to the letter in hand by a verdict
abbrev pub verdict_event : ℕ → Verdict → Event SitedLetter
verdict_event now Accepted = Settles
verdict_event now RefusedForGood = Settles
verdict_event now PutOff = IsPutOff now
verdict_event now ServerAway = FindsNoServer now

verdict_does : (queue : Queue SitedLetter) (now : ℕ) (verdict : Verdict) → after_event queue (verdict_event now verdict) ≡ concluded queue now verdict
verdict_does queue now Accepted = refl
verdict_does queue now RefusedForGood = refl
verdict_does queue now PutOff = refl
verdict_does queue now ServerAway = refl

none_comes : (now : ℕ) (verdict : Verdict) → come_by (verdict_event now verdict) ≡ []
none_comes now Accepted = refl
none_comes now RefusedForGood = refl
none_comes now PutOff = refl
none_comes now ServerAway = refl

after_more : {T : Type 0} (queue : Queue T) (events more : List (Event T)) → after_events queue (events ++ more) ≡ after_events (after_events queue events) more
after_more queue [] more = refl
after_more queue (event ∷ events) more = after_more (after_event queue event) events more

come_more : {T : Type 0} (events more : List (Event T)) → come (events ++ more) ≡ come events ++ come more
come_more [] more = refl
come_more (event ∷ events) more = ap (λ (all : List _). come_by event ++ all) (come_more events more) ∙ sym (append_assoc (come_by event) (come events) (come more))

-- ---- the letter that is submitted next

if_some : {T : Type 0} (stopped : Bool) (place : Option ℕ) (letters : List (Option (Waits T))) (letter : Waits T)
    → letter_at letters (if stopped then None else place) ≡ Some letter → (stopped ≡ false) × ((if stopped then None else place) ≡ place)
if_some true place letters letter at = cc
if_some false place letters letter at = (refl, refl)

-- a letter is submitted only if nothing was stopped, and then it is the first that is due
pub next_is_due : {T S : Type 0} (submitter : Submitter T S) (now : ℕ) (letter : Waits T) → letter_at submitter.waiting.letters (next_place submitter now) ≡ Some letter
    → (submitter.stopped ≡ false) × (next_place submitter now ≡ due_place submitter.waiting now)
next_is_due submitter now letter at = if_some submitter.stopped (due_place submitter.waiting now) submitter.waiting.letters letter at

module _ {S C K M : Type 0} (source : Source.Ghosts S) (drain : Drain.Ghosts S)
    (gives : C → C → Result S HandInFault → Type 0) (keeps : K → List ℕ → List ℕ → List ℕ → Bool → K → Type 0)
    (marks : MarkPlace M) where
  -- the letters that wait after a deed
  pub deed_does : (deed : MailDeed source drain gives keeps marks)
      → deed.new.submitter.waiting ≡ concluded (taken deed.old.submitter.waiting (due_place deed.old.submitter.waiting deed.now)) deed.now deed.verdict
  deed_does deed =
      deed.handled.concluded_is
      ∙ ap (λ (place : Option ℕ). concluded (taken deed.old.submitter.waiting place) deed.now deed.verdict) (next_is_due deed.old.submitter deed.now deed.letter deed.is_next).1

  -- the letters that an outlet kept are those that came by some events of its queue
  pub record Keeps (mark : ℕ) (start now : MailOutlet S C K M) (letters : List Letter) : Type 0 where
    pub kept : List Letter
    pub dropped : List Letter
    pub split : letters ≡ kept ++ dropped
    pub all_kept : now.short ≡ false → dropped ≡ []
    pub events : List (Event SitedLetter)
    pub waiting : now.parts.submitter.waiting ≡ after_events (empty_queue mark) events
    pub came : come events ≡ map (λ letter. record { site = start.site; letter = letter }) kept
    pub same_site : now.site ≡ start.site

  module _ (mark : ℕ) (start : MailOutlet S C K M) (unused : BeginsEmpty mark start) where
    keeps_more : (old now : MailOutlet S C K M) (letters : List Letter) (event : List (Event SitedLetter)) → Keeps mark start old letters
        → come event ≡ [] → now.short ≡ old.short → now.site ≡ old.site
        → now.parts.submitter.waiting ≡ after_events old.parts.submitter.waiting event → Keeps mark start now letters
    keeps_more old now letters event so_far none short site goes = record {
      kept = so_far.kept;
      dropped = so_far.dropped;
      split = so_far.split;
      all_kept = λ enough. so_far.all_kept (sym short ∙ enough);
      events = so_far.events ++ event;
      waiting = goes ∙ (ap (λ (q : Queue SitedLetter). after_events q event) so_far.waiting ∙ sym (after_more (empty_queue mark) so_far.events event));
      came = come_more so_far.events event ∙ (ap (λ (all : List SitedLetter). come so_far.events ++ all) none ∙ (append-nil (come so_far.events) ∙ so_far.came));
      same_site = site ∙ so_far.same_site;
    }

    pub trail_keeps : (letters : List Letter) (deeds : List (MailDeed source drain gives keeps marks)) (now : MailOutlet S C K M)
        → Course source drain gives keeps marks start letters deeds now → Keeps mark start now letters
    trail_keeps letters deeds now begins = record {
      kept = [];
      dropped = [];
      split = refl;
      all_kept = λ enough. refl;
      events = [];
      waiting = unused.none_waits;
      came = refl;
      same_site = refl;
    }
    trail_keeps letters deeds now (comes ls ds old letter moment course enough new) =
        let so_far = trail_keeps ls ds old course in
        let none = so_far.all_kept enough in
        let item : SitedLetter = record { site = old.site; letter = letter } in
        let event : List (Event SitedLetter) = Comes item moment ∷ [] in record {
          kept = so_far.kept ++ letter ∷ [];
          dropped = [];
          split = ap (λ (all : List Letter). all ++ letter ∷ []) (so_far.split ∙ (ap (λ (d : List Letter). so_far.kept ++ d) none ∙ append-nil so_far.kept)) ∙ sym (append-nil (so_far.kept ++ letter ∷ []));
          all_kept = λ still. refl;
          events = so_far.events ++ event;
          waiting = ap (λ (q : Queue SitedLetter). after_events q event) so_far.waiting ∙ sym (after_more (empty_queue mark) so_far.events event);
          came =
              come_more so_far.events event
              ∙ (ap (λ (all : List SitedLetter). all ++ item ∷ []) so_far.came
              ∙ (ap (λ (h : Site). map (λ l. record { site = start.site; letter = l }) so_far.kept ++ record { site = h; letter = letter } ∷ []) so_far.same_site
              ∙ sym (map-append (λ (l : Letter). record { site = start.site; letter = l }) so_far.kept (letter ∷ []))));
          same_site = so_far.same_site;
        }
    trail_keeps letters deeds now (comes_settled ls ds old letter course enough before) =
        let so_far = trail_keeps ls ds old course in
        let none = so_far.all_kept enough in
        let item : SitedLetter = record { site = old.site; letter = letter } in
        let event : List (Event SitedLetter) = ComesSettled item ∷ [] in record {
          kept = so_far.kept ++ letter ∷ [];
          dropped = [];
          split = ap (λ (all : List Letter). all ++ letter ∷ []) (so_far.split ∙ (ap (λ (d : List Letter). so_far.kept ++ d) none ∙ append-nil so_far.kept)) ∙ sym (append-nil (so_far.kept ++ letter ∷ []));
          all_kept = λ still. refl;
          events = so_far.events ++ event;
          waiting = ap (λ (q : Queue SitedLetter). after_events q event) so_far.waiting ∙ sym (after_more (empty_queue mark) so_far.events event);
          came =
              come_more so_far.events event
              ∙ (ap (λ (all : List SitedLetter). all ++ item ∷ []) so_far.came
              ∙ (ap (λ (h : Site). map (λ l. record { site = start.site; letter = l }) so_far.kept ++ record { site = h; letter = letter } ∷ []) so_far.same_site
              ∙ sym (map-append (λ (l : Letter). record { site = start.site; letter = l }) so_far.kept (letter ∷ []))));
          same_site = so_far.same_site;
        }
    trail_keeps letters deeds now (is_dropped ls ds old letter course) =
        let so_far = trail_keeps ls ds old course in record {
          kept = so_far.kept;
          dropped = so_far.dropped ++ letter ∷ [];
          split = ap (λ (all : List Letter). all ++ letter ∷ []) so_far.split ∙ append_assoc so_far.kept so_far.dropped (letter ∷ []);
          all_kept = λ enough. cc;
          events = so_far.events;
          waiting = so_far.waiting;
          came = so_far.came;
          same_site = so_far.same_site;
        }
    trail_keeps letters deeds now (is_submitted ls ds old deed course same) =
        let event : List (Event SitedLetter) = IsTaken deed.now ∷ verdict_event deed.now deed.verdict ∷ [] in
        let waiting : deed.old.submitter.waiting ≡ old.parts.submitter.waiting = ap (λ (p : _). p.submitter.waiting) same in
        keeps_more old (record old { parts = deed.new }) ls event (trail_keeps ls ds old course)
        (ap (λ (all : List SitedLetter). all ++ []) (none_comes deed.now deed.verdict)) refl refl
        (deed_does deed
        ∙ (sym (verdict_does (taken deed.old.submitter.waiting (due_place deed.old.submitter.waiting deed.now)) deed.now deed.verdict)
        ∙ ap (λ (q : Queue SitedLetter). after_events q event) waiting))
    trail_keeps letters deeds now (ends_session ls ds old course) =
        keeps_more old _ ls [] (trail_keeps ls ds old course) refl refl refl refl

    -- so each letter has its place, by the law of letters that wait
    pub have_places : ((n : ℕ) (events : List (Event SitedLetter)) → HasEach n (after_events (empty_queue n) events) (come events))
        → (letters : List Letter) (deeds : List (MailDeed source drain gives keeps marks)) (now : MailOutlet S C K M)
        → Course source drain gives keeps marks start letters deeds now → HavePlaces mark start now letters
    have_places law letters deeds now course =
        let all = trail_keeps letters deeds now course in record {
          kept = all.kept;
          dropped = all.dropped;
          split = all.split;
          all_kept = all.all_kept;
          places =
              subst (λ (items : List SitedLetter). HasEach mark now.parts.submitter.waiting items) all.came
              (subst (λ (q : Queue SitedLetter). HasEach mark q (come all.events)) (sym all.waiting) (law mark all.events));
        }
