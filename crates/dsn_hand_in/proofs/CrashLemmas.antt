-- A crash at any moment of a mail outlet leaves only letters that are settled, and a crash now all of them.
use Rattle.std.proofs.Common.{◌≡◌, ◌≢◌, ◌⊎◌, inl, inr, ℕ, ◌+◌, Bool, true, false, List, Option, Some, None, refl, sym, ap, subst, ◌∙◌}
use Rattle.std.proofs.lemmas.Bool.{cases_eq}
use Rattle.std.specs.Prelude.{Result}
use Rattle.dsn_device.proofs.ThroughoutLemmas
use Rattle.dsn_device.specs.declared.drain.Drain
use Rattle.dsn_device.specs.declared.source.Source
use Rattle.dsn_journal.specs.Marks.{LeavesTheEdges, Marks}
use Rattle.dsn_journal.specs.SettledLetters.{SettlesAlso, is_settled}
use Rattle.dsn_journal.specs.Settling.{SaysEdgesOrAlso}
use Rattle.dsn_journal.proofs.SettledEdges.{settled_below}
use Rattle.dsn_journal.specs.Moments.{LeavesOnly}
use Rattle.dsn_journal.specs.declared.disk.Disk
use Rattle.dsn_outcome.specs.Letter.{Letter}
use Rattle.dsn_smtp.specs.declared.hand_in_fault.HandInFault.{HandInFault}
use Rattle.dsn_submission.specs.Submitter.{KeepsRefused, kept, not_kept, not_refused, TellsSettled, same, told, lost, concluded, given_up_verdict, is_settled_by, next_place, verdict_in, with_next_taken}
use Rattle.dsn_submission.specs.Verdict.{verdict_if, is_of_letter, is_of_server, reason_of}
use Rattle.dsn_submission.specs.Waiting.{IsSettledIn, Queue, empty_queue, is_given_up, letter_at, pushed, pushed_settled, serial_in_hand, taken}
use Rattle.dsn_submission.specs.declared.deeds.Marks.{Ghosts as MarkPlace}
use Rattle.dsn_submission.specs.declared.verdict.Verdict.{Verdict}
use Rattle.dsn_submission.specs.declared.verdict.Verdict.TheVariants.{Accepted, RefusedForGood, PutOff, ServerAway}
use Rattle.dsn_hand_in.specs.JournalMarks.{KeepsSettled, journal_marks}
use Rattle.dsn_hand_in.specs.MailLaws.{BeginsMarked, IsMeant, BeginsEmpty, LeavesSettled, SaysOnlySettled}
use Rattle.dsn_hand_in.specs.MailOutlet.{MailDeed, MailOutlet, Course, begins, comes, comes_settled, is_dropped, is_submitted, ends_session}
use Rattle.dsn_hand_in.specs.SitedLetter.{SitedLetter, sited_message, sited_path}
use Rattle.dsn_hand_in.proofs.PlacesLemmas.{next_is_due}
use Rattle.dsn_hand_in.proofs.SettledQueue.{come_only, come_stays, concluded_only, concluded_settles, concluded_stays, pushed_only, pushed_stays}

-- ---- what a verdict means

no_fault_accepted : (gives_up server for_good : Bool) → given_up_verdict gives_up (verdict_if server for_good) ≡ Accepted → ⊥
no_fault_accepted gives_up true for_good is = cc
no_fault_accepted gives_up false true is = cc
no_fault_accepted true false false is = cc
no_fault_accepted false false false is = cc

accepted_unfaulted : {T : Type 0} (queue : Queue T) (now limit : ℕ) (fault : Option HandInFault) → verdict_in queue now limit fault ≡ Accepted → fault ≡ None
accepted_unfaulted queue now limit None is = refl
accepted_unfaulted queue now limit (Some fault) is =
    absurd (no_fault_accepted (is_given_up queue now limit) (is_of_server fault) (is_of_letter fault) is)

module _ {K : Type 0} (keeps : K → List ℕ → List ℕ → List ℕ → Bool → K → Type 0) (old new : K) (path message reply : List ℕ) where
  accepted_before : (first second : Verdict) → KeepsRefused keeps old new path message reply first second → second ≡ Accepted → first ≡ Accepted
  accepted_before first second (kept k) is = cc
  accepted_before first second (not_kept k) is = cc
  accepted_before first second (not_refused verdict other stays) is = is

  refused_kept : (first second : Verdict) → KeepsRefused keeps old new path message reply first second → second ≡ RefusedForGood → keeps old path message reply true new
  refused_kept first second (kept k) is = k
  refused_kept first second (not_kept k) is = cc
  refused_kept first second (not_refused verdict other stays) is = absurd (other is)

module _ {S C K : Type 0} (source : Source.Ghosts S) (drain : Drain.Ghosts S)
    (gives : C → C → Result S HandInFault → Type 0) (keeps : K → List ℕ → List ℕ → List ℕ → Bool → K → Type 0) where
  pub deed_meant : {M : Type 0} (marks : MarkPlace M) (deed : MailDeed source drain gives keeps marks) → IsMeant source drain gives keeps marks deed
  deed_meant marks deed =
      let at = with_next_taken deed.old.submitter (next_place deed.old.submitter deed.now) in
      let verdict = verdict_in at.waiting deed.now at.give_up deed.fault in
      let refusal = deed.handled.refusal in record {
        accepted = λ is. accepted_unfaulted at.waiting deed.now at.give_up deed.fault (accepted_before keeps deed.old.refused deed.new.refused (sited_path deed.letter.item) (sited_message deed.letter.item) (reason_of deed.fault deed.new.submitter.reply) verdict deed.verdict refusal is);
        refused = λ is. refused_kept keeps deed.old.refused deed.new.refused (sited_path deed.letter.item) (sited_message deed.letter.item) (reason_of deed.fault deed.new.submitter.reply) verdict deed.verdict refusal is;
      }

  -- ---- what a crash leaves

  module _ {D : Type 0} (disk : Disk.Ghosts D) where
    abbrev Says : List ℕ → Queue SitedLetter → List ℕ → Type 0
    Says = SaysOnlySettled

    -- so far a crash left only letters that are settled. The marks have no others, and unless the submitter is stopped,
    -- they have all, and a crash leaves them
    pub record Counts (first : Marks D) (now : Marks D) (waiting : Queue SitedLetter) (stopped : Bool) : Type 0 where
      pub so_far : LeavesOnly disk first.journal.disk now.journal.disk (Says first.edges waiting)
      pub only : (serial : ℕ) → is_settled now.edges serial ≡ true → (is_settled first.edges serial ≡ true) ⊎ IsSettledIn waiting serial
      pub all : stopped ≡ false → (serial : ℕ) → IsSettledIn waiting serial → is_settled now.edges serial ≡ true
      pub leaves : stopped ≡ false → LeavesTheEdges disk now

    -- letters that are settled stay so
    later : (first old new : Marks D) (before after : Queue SitedLetter) → ((serial : ℕ) → IsSettledIn before serial → IsSettledIn after serial)
        → LeavesOnly disk old.journal.disk new.journal.disk (Says first.edges before) → LeavesOnly disk old.journal.disk new.journal.disk (Says first.edges after)
    later first old new before after stays run =
        ThroughoutLemmas.weaker disk.moment disk.left_since old.journal.disk new.journal.disk (Says first.edges before) (Says first.edges after)
        (λ left says. record {
          said = says.said;
          says = says.says;
          only = λ serial settled. elim (says.only serial settled) [ inl was ↦ inl was | inr is ↦ inr (stays serial is) ];
        })
        run

    -- the queue changes, and the marks don't
    counts_queue : (first now : Marks D) (before after : Queue SitedLetter) (stopped : Bool)
        → ((serial : ℕ) → IsSettledIn before serial → IsSettledIn after serial)
        → ((serial : ℕ) → IsSettledIn after serial → IsSettledIn before serial ⊎ (is_settled now.edges serial ≡ true))
        → Counts first now before stopped → Counts first now after stopped
    counts_queue first now before after stopped stays only counts = record {
      so_far = later first first now before after stays counts.so_far;
      only = λ serial settled. elim (counts.only serial settled) [ inl was ↦ inl was | inr is ↦ inr (stays serial is) ];
      all = λ going serial is. elim (only serial is) [ inl was ↦ counts.all going serial was | inr known ↦ known ];
      leaves = counts.leaves;
    }

    -- a letter is kept as settled, or isn't
    kept_moment : (first old new : Marks D) (before after : Queue SitedLetter) (serial : ℕ) (ok : Bool)
        → ((other : ℕ) → IsSettledIn before other → IsSettledIn after other) → IsSettledIn after serial
        → Counts first old before false → KeepsSettled disk old serial ok new
        → LeavesOnly disk first.journal.disk new.journal.disk (Says first.edges after)
    kept_moment first old new before after serial ok stays here counts keeps_it =
        ThroughoutLemmas.joined disk.moment disk.left_since first.journal.disk old.journal.disk new.journal.disk (Says first.edges after)
        (later first first old before after stays counts.so_far)
        (ThroughoutLemmas.weaker disk.moment disk.left_since old.journal.disk new.journal.disk (SaysEdgesOrAlso serial old.edges) (Says first.edges after)
        (λ left says. elim says [
          | inl unchanged ↦ record {
            said = old.edges;
            says = unchanged;
            only = λ other settled. elim (counts.only other settled) [ inl was ↦ inl was | inr is ↦ inr (stays other is) ];
          }
          | inr also ↦ record {
            said = also.next;
            says = also.say;
            only = λ other settled. one_of also.next also.also other settled;
          }
        ])
        (keeps_it.any_moment (counts.leaves refl)))
      where
        one_of : (next : List ℕ) → SettlesAlso serial old.edges next → (other : ℕ) → is_settled next other ≡ true → (is_settled first.edges other ≡ true) ⊎ IsSettledIn after other
        one_of next also other settled = elim (cases_eq other serial) [
          | inl its ↦ inr (subst (λ (n : ℕ). IsSettledIn after n) (sym its) here)
          | inr ne ↦ elim (counts.only other (sym (also.others other ne) ∙ settled)) [ inl was ↦ inl was | inr is ↦ inr (stays other is) ]
        ]

    counts_told : (first old new : Marks D) (before after : Queue SitedLetter) (its : Option ℕ) (serial : ℕ) (verdict : Verdict) (stopped : Bool)
        → its ≡ Some serial → TellsSettled (KeepsSettled disk) old new its verdict stopped
        → ((other : ℕ) → IsSettledIn before other → IsSettledIn after other)
        → ((other : ℕ) → IsSettledIn after other → IsSettledIn before other ⊎ ((is_settled_by verdict ≡ true) × (other ≡ serial)))
        → (is_settled_by verdict ≡ true → IsSettledIn after serial)
        → Counts first old before false → Counts first new after stopped
    counts_told first old new before after its serial verdict stopped is (same by not same_marks) stays only here counts =
        subst (λ (m : Marks D). Counts first m after false) (sym same_marks)
        (counts_queue first old before after false stays (λ other settled. elim (only other settled) [ inl was ↦ inl was | inr one ↦ absurd (cc (not, one.0)) ]) counts)
    counts_told first old new before after its serial verdict stopped is (told by it settles its_is keeps_it) stays only here counts =
        let at : it ≡ serial = cc (is, its_is) in
        let keeps : KeepsSettled disk old serial true new = subst (λ (n : ℕ). KeepsSettled disk old n true new) at keeps_it in
        let also = keeps.keeps.also refl in
        record {
          so_far = kept_moment first old new before after serial true stays (here settles) counts keeps;
          only = λ other settled. elim (cases_eq other serial) [
            | inl one ↦ inr (subst (λ (n : ℕ). IsSettledIn after n) (sym one) (here settles))
            | inr ne ↦ elim (counts.only other (sym (also.others other ne) ∙ settled)) [ inl was ↦ inl was | inr there ↦ inr (stays other there) ]
          ];
          all = λ going other settled. elim (cases_eq other serial) [
            | inl one ↦ subst (λ (n : ℕ). is_settled new.edges n ≡ true) (sym one) also.its
            | inr ne ↦ also.others other ne ∙ (elim (only other settled) [ inl was ↦ counts.all refl other was | inr one ↦ absurd (ne one.1) ])
          ];
          leaves = λ going. keeps.durable refl;
        }
    counts_told first old new before after its serial verdict stopped is (lost by it settles its_is keeps_it) stays only here counts =
        let at : it ≡ serial = cc (is, its_is) in
        let keeps : KeepsSettled disk old serial false new = subst (λ (n : ℕ). KeepsSettled disk old n false new) at keeps_it in
        record {
          so_far = kept_moment first old new before after serial false stays (here settles) counts keeps;
          only = λ other settled.
              elim (counts.only other (sym (ap (λ (es : List ℕ). is_settled es other) (keeps.keeps.stays refl)) ∙ settled)) [ inl was ↦ inl was | inr there ↦ inr (stays other there) ];
          all = λ going. cc;
          leaves = λ going. cc;
        }

    module _ (mark : ℕ) (start : MailOutlet S C K (Marks D)) (unused : BeginsEmpty mark start) (marked : BeginsMarked disk mark start) where
      abbrev CountsNow : MailOutlet S C K (Marks D) → Type 0
      CountsNow now = Counts start.parts.marks now.parts.marks now.parts.submitter.waiting now.parts.submitter.stopped

      deed_at : (old : MailOutlet S C K (Marks D)) (deed : MailDeed source drain gives keeps (journal_marks disk)) (place : Option ℕ) → next_place deed.old.submitter deed.now ≡ place
          → Counts start.parts.marks deed.old.marks deed.old.submitter.waiting false → Counts start.parts.marks deed.new.marks deed.new.submitter.waiting deed.new.submitter.stopped
      deed_at old deed None next counts =
          let at : letter_at deed.old.submitter.waiting.letters None ≡ Some deed.letter = subst (λ (p : Option ℕ). letter_at deed.old.submitter.waiting.letters p ≡ Some deed.letter) next deed.is_next in cc
      deed_at old deed (Some place) next counts =
          let queue = deed.old.submitter.waiting in
          let at : letter_at queue.letters (Some place) ≡ Some deed.letter = subst (λ (p : Option ℕ). letter_at queue.letters p ≡ Some deed.letter) next deed.is_next in
          let concludes : deed.new.submitter.waiting ≡ concluded (taken queue (Some place)) deed.now deed.verdict =
          subst (λ (p : Option ℕ). deed.new.submitter.waiting ≡ concluded (taken queue p) deed.now deed.verdict) next deed.handled.concluded_is in
          let tells : TellsSettled (KeepsSettled disk) deed.old.marks deed.new.marks (serial_in_hand (taken queue (Some place))) deed.verdict deed.new.submitter.stopped =
          subst (λ (p : Option ℕ). TellsSettled (KeepsSettled disk) deed.old.marks deed.new.marks (serial_in_hand (taken queue p)) deed.verdict deed.new.submitter.stopped) next deed.handled.settled_is in
          subst (λ (q : Queue SitedLetter). Counts start.parts.marks deed.new.marks q deed.new.submitter.stopped) (sym concludes)
          (counts_told start.parts.marks deed.old.marks deed.new.marks queue (concluded (taken queue (Some place)) deed.now deed.verdict)
          (serial_in_hand (taken queue (Some place))) (queue.mark + place) deed.verdict deed.new.submitter.stopped refl tells
          (concluded_stays queue place deed.now deed.verdict) (concluded_only queue place deed.now deed.verdict)
          (λ by. concluded_settles queue place deed.now deed.verdict deed.letter at by) counts)

      -- nothing is submitted once the submitter is stopped
      counts_deed : (old : MailOutlet S C K (Marks D)) (deed : MailDeed source drain gives keeps (journal_marks disk)) → deed.old ≡ old.parts → CountsNow old → CountsNow (record old { parts = deed.new })
      counts_deed old deed same_parts counts =
          let going : deed.old.submitter.stopped ≡ false = (next_is_due deed.old.submitter deed.now deed.letter deed.is_next).0 in
          let at_old : Counts start.parts.marks deed.old.marks deed.old.submitter.waiting deed.old.submitter.stopped =
          subst (λ (p : _). Counts start.parts.marks p.marks p.submitter.waiting p.submitter.stopped) (sym same_parts) counts in
          deed_at old deed (next_place deed.old.submitter deed.now) refl (subst (λ (b : Bool). Counts start.parts.marks deed.old.marks deed.old.submitter.waiting b) going at_old)

      -- the letters below the mark are settled at the start
      begin_only : (serial : ℕ) → IsSettledIn {T = SitedLetter} (empty_queue mark) serial → is_settled start.parts.marks.edges serial ≡ true
      begin_only serial (inl below) = settled_below start.parts.marks.edges mark serial marked.valid (sym marked.mark_is) below
      begin_only serial (inr held) = cc

      trail_counts : (letters : List Letter) (deeds : List (MailDeed source drain gives keeps (journal_marks disk))) (now : MailOutlet S C K (Marks D))
          → Course source drain gives keeps (journal_marks disk) start letters deeds now → CountsNow now
      trail_counts letters deeds now begins = record {
        so_far =
            ThroughoutLemmas.started disk.moment disk.left_since start.parts.marks.journal.disk (Says start.parts.marks.edges start.parts.submitter.waiting)
            (λ left since. record { said = start.parts.marks.edges; says = marked.leaves left since; only = λ serial settled. inl settled });
        only = λ serial settled. inl settled;
        all = λ going serial is. begin_only serial (subst (λ (q : Queue SitedLetter). IsSettledIn q serial) unused.none_waits is);
        leaves = λ going. marked.leaves;
      }
      trail_counts letters deeds now (comes ls ds old letter moment course enough next) =
          let item : SitedLetter = record { site = old.site; letter = letter } in
          counts_queue start.parts.marks old.parts.marks old.parts.submitter.waiting (pushed old.parts.submitter.waiting item moment) old.parts.submitter.stopped
          (λ serial is. pushed_stays old.parts.submitter.waiting item moment serial is)
          (λ serial is. inl (pushed_only old.parts.submitter.waiting item moment serial is))
          (trail_counts ls ds old course)
      trail_counts letters deeds now (comes_settled ls ds old letter course enough next) =
          counts_queue start.parts.marks old.parts.marks old.parts.submitter.waiting (pushed_settled old.parts.submitter.waiting) old.parts.submitter.stopped
          (λ serial is. come_stays old.parts.submitter.waiting serial is)
          (λ serial is. elim (come_only old.parts.submitter.waiting serial is) [
            | inl was ↦ inl was
            | inr last ↦ inr (subst (λ (n : ℕ). is_settled old.parts.marks.edges n ≡ true) (sym last) next)
          ])
          (trail_counts ls ds old course)
      trail_counts letters deeds now (is_dropped ls ds old letter course) = let counts = trail_counts ls ds old course in record {
        so_far = counts.so_far;
        only = counts.only;
        all = counts.all;
        leaves = counts.leaves;
      }
      trail_counts letters deeds now (is_submitted ls ds old deed course same_parts) = counts_deed old deed same_parts (trail_counts ls ds old course)
      trail_counts letters deeds now (ends_session ls ds old course) = let counts = trail_counts ls ds old course in record {
        so_far = counts.so_far;
        only = counts.only;
        all = counts.all;
        leaves = counts.leaves;
      }

      pub leaves_settled : (letters : List Letter) (deeds : List (MailDeed source drain gives keeps (journal_marks disk))) (now : MailOutlet S C K (Marks D))
          → Course source drain gives keeps (journal_marks disk) start letters deeds now → LeavesSettled disk start now
      leaves_settled letters deeds now course =
          let counts = trail_counts letters deeds now course in record {
            only = counts.so_far;
            all = λ going left since. record { said = now.parts.marks.edges; says = counts.leaves going left since; all = counts.all going };
          }
