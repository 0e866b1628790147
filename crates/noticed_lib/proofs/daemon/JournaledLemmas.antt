-- Runs over a journal: a ledger that awaits nothing is one to begin with.
use Rattle.std.proofs.Common.{◌≡◌, ◌⊎◌, inl, inr, ⊎_elim, ℕ, ◌+◌, ◌-◌, ◌^◌, ◌<◌, ◌≤◌, Bool, true, List, [], ◌∷◌, ◌++◌, length, arith, refl, sym, subst, ap, lt_of_not-le, ◌∙◌}
use Rattle.std.specs.Prelude.{Err, IsErrOf, Ok, OnOk, Option, Some, None, Result, is_some, min}
use Rattle.std.proofs.lemmas.Bool.{cases_lt, false≢true}
use Rattle.std.proofs.Math.Nat.{min-eq_left}
use Rattle.std.proofs.lemmas.List.{append-nil}
use Rattle.dsn_outcome.specs.History.{Limits, Exchange, answers_to, sealed_letters}
use Rattle.dsn_outcome.specs.Letter.{Letter}
use Rattle.dsn_outcome.specs.Request.{Request}
use Rattle.dsn_book.specs.Keeper.{MayCrash}
use Rattle.dsn_book.specs.Release.{history_under}
use Rattle.dsn_crew.specs.KeeperHistory.{BeginsWith}
use Rattle.dsn_ledger.specs.EarlierRuns.{HaveHistoryOfLedger, of_earlier_run}
use Rattle.dsn_journal.specs.Behind.{HasMoreBehind}
use Rattle.dsn_ledger.specs.Compacted.{compacted, raised}
use Rattle.dsn_ledger.specs.Header.{AreReplayedUnder, MayBeRaised, StandsForFile, base_limit, with_header}
use Rattle.dsn_ledger.specs.InPlace.{AreRecordsInPlaceOf, IsLedgerInPlaceOf, ReopensTo}
use Rattle.dsn_journal.specs.Journal.{IsSettled}
use Rattle.dsn_ledger.specs.KeepError.{keep_error_code, settled_once_kept}
use Rattle.dsn_ledger.specs.KeptBook.{HasKept, ledger_keeper}
use Rattle.dsn_ledger.specs.Ledger.{AreKept, earlier_agent, records_of}
use Rattle.dsn_ledger.specs.OpenLedger.{AwaitsInPlaceOf, AwaitsRequests, Ledger, rules_of}
use Rattle.dsn_journal.specs.MarkedOutbox.{MarkedOutbox}
use Rattle.dsn_report.specs.Outgoing.{Delivered, Outgoing}
use Rattle.dsn_report.specs.Site.{Site}
use Rattle.dsn_device.specs.declared.drain.Drain.{Ghosts as Drain}
use Rattle.dsn_journal.specs.Marks.{AreMarks, IsForeignToMarks, IsTooShortForMarks, LeavesTheEdges, Marks, SayEdges, SayNoMark}
use Rattle.dsn_journal.specs.SettledLetters.{first_edge, last_edge}
use Rattle.dsn_ledger.specs.Posting.{AreToPost}
use Rattle.dsn_ledger.specs.Staying.{MayGoOn, MayStay}
use Rattle.dsn_journal.specs.Moments.{LeavesOnly}
use Rattle.dsn_ledger.specs.Opening.{IsLeftByOpening}
use Rattle.dsn_journal.specs.Records.{StandsForSome, encoded, recovered}
use Rattle.dsn_journal.specs.declared.disk.Disk
use Rattle.dsn_journal.specs.declared.journal_error.JournalError.TheVariants.{Memory, Failed, Full}
use Rattle.dsn_ledger.specs.declared.keep_error.KeepError.{KeepError}
use Rattle.dsn_ledger.specs.declared.keep_error.KeepError.TheVariants.{Unsettled, Journal}
use Rattle.dsn_journal.specs.declared.marks_error.MarksError.{MarksError}
use Rattle.dsn_journal.specs.declared.marks_error.MarksError.TheVariants as no_marks_for
use Rattle.dsn_ledger.proofs.Goodbyes.{kept_to_carry_out}
use Rattle.dsn_ledger.proofs.KeptBooks.{has_kept, nothing_kept, some_kept}
use Rattle.dsn_ledger.proofs.LedgersInPlace.{headed}
use Rattle.dsn_ledger.proofs.ReplayLimits.{one_replay, replay_header, replay_in_place, replay_opened}
use Rattle.dsn_journal.proofs.Moments.{joined, started, weaker}
use Rattle.noticed_lib.specs.inner.Daemon.{BeginsAnew, NeedsMoreRoom}
use Rattle.noticed_lib.specs.daemon.Journaled.{IsFolderOpened, IsLedgerBegun, IsNotBegun, IsOnlyOpened, IsPostedFirst, LeavesMarksOpened, LeavesStart, SealTooMany, StartsWith, StaysAtStart, marking_drain, not_replaced, too_many_letters}
use Rattle.dsn_text.specs.FaultCode.{journal_full_code}
use Rattle.dsn_ledger.specs.JournalFolder.{AreMarksRefusedFor, IsOnlyRead, IsOpenedToRaise}
use Rattle.dsn_ledger.specs.declared.opening.Opened.{Opened}

-- a file by whose records too many letters were sealed is refused, whatever the cause is
refused_with_many : (limits : Limits) (file : List ℕ) (waiting : List Letter) (cause : KeepError) (code : ℕ) → code ≡ keep_error_code cause → (cause ≡ Unsettled → ⊥)
    → SealTooMany limits file → IsNotBegun limits file waiting code
refused_with_many limits file waiting Unsettled code code_is settled many = absurd (settled refl)
refused_with_many limits file waiting (Journal Memory) code code_is settled many = not_replaced (Journal Memory) code_is settled (λ is. absurd (cc is))
refused_with_many limits file waiting (Journal Failed) code code_is settled many = not_replaced (Journal Failed) code_is settled (λ is. absurd (cc is))
refused_with_many limits file waiting (Journal Full) code code_is settled many = too_many_letters code_is many

-- letters before no others are all of them
pub none_left : {A : Type 0} (all done rest : List A) → all ≡ done ++ rest → length rest ≡ 0 → done ≡ all
none_left all done [] split none = sym (split ∙ append-nil done)
none_left all done (first ∷ rest) split none = absurd (omega (arith, none))

module _ {D : Type 0} (disk : Disk.Ghosts D) (ledger : Ledger D) (settled : ledger.settled ≡ true) (awaits : AwaitsRequests disk ledger []) where
  has : IsSettled disk ledger.journal.disk ledger.journal.used → (long : List Exchange) → IsLedgerInPlaceOf ledger.book ledger.base (recovered (disk.seen ledger.journal.disk)) long → HasKept disk ledger long []
  has durable long in_place =
      has_kept disk ledger long []
      (record {
        many = awaits.many;
        front = recovered (disk.seen ledger.journal.disk);
        in_place = in_place;
        kept = awaits.kept;
        file = sym (append-nil (recovered (disk.seen ledger.journal.disk)));
      })
      settled durable

  -- its book and its base model all of its file
  pub stands_for_all : StandsForFile ledger.book ledger.base (recovered (disk.seen ledger.journal.disk))
  stands_for_all = subst (StandsForFile ledger.book ledger.base) (sym (awaits.file ∙ append-nil awaits.front)) awaits.stands

  module _ (releases : Bool) (by_rule : (long : List Exchange) → HasKept disk ledger long [] → HasKept disk (record ledger { releases = releases }) long []) (durable : IsSettled disk ledger.journal.disk ledger.journal.used) (earlier : (long : List Exchange) → IsLedgerInPlaceOf ledger.book ledger.base (recovered (disk.seen ledger.journal.disk)) long → IsLedgerInPlaceOf ledger.book ledger.base (recovered (disk.seen ledger.journal.disk)) (of_earlier_run long)) (unanswered : (agent : ℕ) (long : List Exchange) → agent < earlier_agent → answers_to agent (of_earlier_run long) ≡ []) where
    each : (long : List Exchange) → IsLedgerInPlaceOf ledger.book ledger.base (recovered (disk.seen ledger.journal.disk)) long → BeginsWith (ledger_keeper disk) (record ledger { releases = releases }) (of_earlier_run long)
    each long in_place = (kept_to_carry_out disk (record ledger { releases = releases }) (of_earlier_run long) [] (by_rule (of_earlier_run long) (has durable (of_earlier_run long) (earlier long in_place))), λ agent few. unanswered agent long few)

    pub begins_anew : HaveHistoryOfLedger ledger.book ledger.base (recovered (disk.seen ledger.journal.disk)) → BeginsAnew disk (record ledger { releases = releases })
    begins_anew some = record { some = (of_earlier_run some.long, each some.long some.in_place); each = each }

-- one that awaits nothing in place of a history awaits no request
pub none_awaited : {D : Type 0} (disk : Disk.Ghosts D) (ledger : Ledger D) (history : List Exchange) → AwaitsInPlaceOf disk ledger [] history → AwaitsRequests disk ledger []
none_awaited disk ledger history awaits = record {
  many = awaits.many;
  front = awaits.front;
  stands = record { history = awaits.in_place.history; said = awaits.in_place.said; stands = awaits.in_place.stands };
  kept = awaits.kept;
  file = awaits.file;
}

module _ {D : Type 0} (disk : Disk.Ghosts D) (limits : Limits) (journal : D) where
  -- a disk that was not touched
  pub untouched : ((left : List ℕ) → disk.left_since journal (disk.moment journal) left → disk.may_leave journal left) → LeavesStart disk limits journal journal
  untouched now long starts = started disk journal _ (λ left since. inl (now left since))

  module _ (allowed : MayBeRaised limits limits) where
    -- a file as it is once it is opened
    opened_with : (left : List ℕ) (long : List Exchange) → StartsWith limits (disk.seen journal) long → IsLeftByOpening limits (disk.seen journal) left → StartsWith limits left long
    opened_with left long starts by =
        let own = starts.own in
        let was = recovered (disk.seen journal) in
        ⊎_elim
        (λ same. record {
          own = own;
          replayed = subst (λ (rs : List (List ℕ)). AreReplayedUnder limits rs own) (sym same) starts.replayed;
          in_place = subst (λ (rs : List (List ℕ)). AreRecordsInPlaceOf own (with_header own rs) long) (sym same) starts.in_place;
        })
        (λ begun.
        let same : recovered left ≡ with_header own was = begun ∙ sym (replay_header limits own was starts.replayed) in
        record {
          own = own;
          replayed = subst (λ (rs : List (List ℕ)). AreReplayedUnder limits rs own) (sym same) (replay_opened limits own was allowed starts.replayed);
          in_place = subst (λ (rs : List (List ℕ)). AreRecordsInPlaceOf own rs long) (sym (ap (with_header own) same ∙ headed own (with_header own was) long starts.in_place)) starts.in_place;
        })
        by.opens

    -- what a crash leaves while it is opened
    pub while_opened : (opened : D) → LeavesOnly disk journal opened (λ left. disk.may_leave journal left ⊎ IsLeftByOpening limits (disk.seen journal) left) → LeavesStart disk limits journal opened
    while_opened opened opening long starts = weaker disk journal opened _ _ (λ left or. ⊎_elim (λ was. inl was) (λ by. inr (opened_with left long starts by)) or) opening

-- a file in place of a history, whose limits may be raised to those of a run
starts_in_place : (limits own : Limits) (left : List ℕ) (long : List Exchange) → MayBeRaised own limits → ReopensTo own left long → StartsWith limits left long
starts_in_place limits own left long may is = record {
  own = own;
  replayed = replay_in_place limits own (recovered left) long may is;
  in_place = subst (λ (rs : List (List ℕ)). AreRecordsInPlaceOf own rs long) (sym (headed own (recovered left) long is)) is;
}

-- the book that is returned
pub handed : {B : Type 0} (book : Option B) → is_some book ≡ true → (left : B) × (book ≡ Some left)
handed None some = absurd (false≢true some)
handed (Some left) some = (left, refl)

-- what a run over a journal gets from its opened ledger
module _ {D : Type 0} (disk : Disk.Ghosts D) (limits : Limits) (edges : List ℕ) (journal : D) (opened : Opened D) (allowed : MayBeRaised limits limits) (is : IsOpenedToRaise disk limits edges journal opened) where
  -- a history that the start begins with is one of the opened ledger
  begun_in : (long : List Exchange) → StartsWith limits (disk.seen journal) long → IsLedgerInPlaceOf opened.ledger.book opened.ledger.base (recovered (disk.seen opened.ledger.journal.disk)) long
  begun_in long starts =
      let own = opened.ledger.book.book.limits in
      is.ledger long
      (subst (λ (rs : List (List ℕ)). AreRecordsInPlaceOf own rs long) (sym is.same)
      (subst (λ (l : Limits). AreRecordsInPlaceOf l (with_header l (recovered (disk.seen journal))) long) (one_replay limits starts.own own (recovered (disk.seen journal)) starts.replayed is.own) starts.in_place))

  stands : StandsForFile opened.ledger.book opened.ledger.base (with_header opened.ledger.book.book.limits (recovered (disk.seen journal)))
  stands = subst (StandsForFile opened.ledger.book opened.ledger.base) is.same (stands_for_all disk opened.ledger is.settled is.awaits)

  -- a crash before a call of the ledger leaves what one leaves while it is opened
  pub at_opening : LeavesStart disk limits journal opened.ledger.journal.disk
  at_opening = while_opened disk limits journal allowed opened.ledger.journal.disk is.any_moment

  -- the marks under which it was opened, and its letters
  pub folder_is : {M : Type 0} (marks_disk : Disk.Ghosts M) (marks : M) (opened_marks : Marks M) → edges ≡ opened_marks.edges → AreMarks marks_disk opened_marks → opened_marks.settled ≡ true
      → SayEdges (recovered (marks_disk.seen marks)) opened_marks.edges → LeavesTheEdges marks_disk opened_marks → LeavesMarksOpened marks_disk marks opened_marks.journal.disk
      → IsFolderOpened disk marks_disk limits journal marks opened_marks opened.letters.items
  folder_is marks_disk marks opened_marks same are going says leaves crash =
      let own = opened.ledger.book.book.limits in
      let first : first_edge edges ≡ opened_marks.mark = ap first_edge same ∙ sym are.mark_is in
      let sealed : opened.ledger.book.book.sealed ≡ length (sealed_letters stands.history) = stands.stands.represents.sealed in
      let low : opened.ledger.base ≤ first_edge opened_marks.edges = subst (λ (es : List ℕ). opened.ledger.base ≤ first_edge es) same is.reached in
      let high : last_edge opened_marks.edges ≤ opened.ledger.base + opened.ledger.book.book.sealed =
      subst (λ (es : List ℕ). last_edge es ≤ opened.ledger.base + opened.ledger.book.book.sealed) same is.counted in
      record {
        edges_are = says;
        mark_is = are.mark_is;
        going = going;
        leaves = leaves;
        crash = crash;
        own = own;
        replayed = is.own;
        base = opened.ledger.base;
        history = stands.history;
        of_journal_is = record { own = is.not_foreign; whole = is.whole; said = stands.said; reached = low; sealed = omega (arith, high, sealed) };
        letters_are =
            subst (λ (m : ℕ). AreToPost own m (with_header own (recovered (disk.seen journal))) opened.letters.items) first
            (subst (λ (rs : List (List ℕ)). AreToPost own (first_edge edges) rs opened.letters.items) is.same is.letters);
      }

  module _ (last : D)
      (later : (long : List Exchange) → IsLedgerInPlaceOf opened.ledger.book opened.ledger.base (recovered (disk.seen opened.ledger.journal.disk)) long
      → LeavesOnly disk opened.ledger.journal.disk last (λ left. ReopensTo opened.ledger.book.book.limits left long ⊎ ReopensTo limits left long)) where
    -- what a crash leaves later on
    pub once_opened : LeavesStart disk limits journal last
    once_opened long starts =
        joined disk journal opened.ledger.journal.disk last _ (at_opening long starts)
        (weaker disk opened.ledger.journal.disk last _ _
        (λ left or. inr (⊎_elim (λ old. starts_in_place limits opened.ledger.book.book.limits left long is.higher old) (λ new. starts_in_place limits limits left long allowed new) or))
        (later long (begun_in long starts)))

  -- the journal that a start leaves as it is may stay once it is opened
  pub may_stay : StaysAtStart limits (disk.seen journal) → opened.ledger.base + opened.ledger.book.book.sealed < 2 ^ 63 → MayStay disk limits opened.ledger
  may_stay stays few =
      let own = opened.ledger.book.book.limits in
      let was = recovered (disk.seen journal) in
      let same : own ≡ limits = one_replay limits own limits was is.own stays.under in
      let end : opened.ledger.journal.used ≡ length (encoded (with_header limits was)) =
      is.journal_is.end ∙ ap (λ (rs : List (List ℕ)). length (encoded rs)) (is.same ∙ ap (λ (l : Limits). with_header l was) same) in
      record {
        limits_are = same;
        short = omega (arith, stays.short, end, is.size);
        few = few;
      }

  -- what an opening does to a journal under its own limits
  pub only_opened : opened.ledger.book.book.limits ≡ limits → IsOnlyOpened disk limits journal opened.ledger.journal.disk
  only_opened same = record {
    records = is.same ∙ ap (λ (l : Limits). with_header l (recovered (disk.seen journal))) same;
    any_moment = is.any_moment;
  }

  -- the ledger under the run's limits, in place of each history that the opened one was in place of
  pub begun_is : (ledger : Ledger D) → ledger.book.book.limits ≡ limits → ledger.base + ledger.book.book.sealed < 2 ^ 63 → BeginsAnew disk ledger
      → ((long : List Exchange) → IsLedgerInPlaceOf opened.ledger.book opened.ledger.base (recovered (disk.seen opened.ledger.journal.disk)) long → IsLedgerInPlaceOf ledger.book ledger.base (recovered (disk.seen ledger.journal.disk)) long)
      → (StaysAtStart limits (disk.seen journal) → IsOnlyOpened disk limits journal ledger.journal.disk)
      → LeavesStart disk limits journal ledger.journal.disk → IsLedgerBegun disk limits journal ledger
  begun_is ledger limits_are few anew in_place stays crash = record {
    limits_are = limits_are;
    few = few;
    begins = anew.some;
    begins_with = λ long starts. anew.each long (in_place long (begun_in long starts));
    stays = stays;
    crash = crash;
  }

  seal_too_many : base_limit ≤ opened.ledger.base + opened.ledger.book.book.sealed → SealTooMany limits (disk.seen journal)
  seal_too_many many = record {
    own = opened.ledger.book.book.limits;
    replayed = is.own;
    base = opened.ledger.base;
    history = stands.history;
    said = stands.said;
    many = subst (λ n. base_limit ≤ opened.ledger.base + n) stands.stands.represents.sealed many;
  }

  pub too_many_for : (waiting : List Letter) (code : ℕ) → code ≡ journal_full_code → base_limit ≤ opened.ledger.base + opened.ledger.book.book.sealed → IsNotBegun limits (disk.seen journal) waiting code
  too_many_for waiting code code_is many = too_many_letters code_is (seal_too_many many)

  -- why its journal was not replaced. If there is no room for the shorter one, and the run may not go on with this one,
  -- the limits are other ones, or too many letters were sealed
  pub not_replaced_for : (waiting : List Letter) (cause : KeepError) (code : ℕ) → code ≡ keep_error_code cause → (cause ≡ Unsettled → ⊥)
      → (cause ≡ Journal Full → NeedsMoreRoom disk limits opened.ledger waiting)
      → (cause ≡ Journal Full → MayGoOn limits opened.ledger → ⊥)
      → IsNotBegun limits (disk.seen journal) waiting code
  not_replaced_for waiting cause code code_is settled longer stopped =
      ⊎_elim
      (λ few.
      not_replaced cause code_is settled
      (λ full. record {
        book = opened.ledger.book;
        base = opened.ledger.base;
        replayed = is.own;
        other = λ same. stopped full (record { limits_are = same; few = few });
        stands = stands;
        longer = subst (λ n. n < length (encoded (compacted (raised limits opened.ledger.book) opened.ledger.base waiting))) is.size (longer full);
      }))
      (λ many. refused_with_many limits (disk.seen journal) waiting cause code code_is settled (seal_too_many many))
      (cases_lt (opened.ledger.base + opened.ledger.book.book.sealed) base_limit)

-- the letters that a poster was given first, over an outbox that marks them
pub posted_is : {D M W : Type 0} (disk : Disk.Ghosts D) (marks_disk : Disk.Ghosts M) (drain : Drain W) (site : Site) (limits : Limits) (journal : D) (marks : M) (outbox : W) (opened : Marks M) (letters : List Letter) (marked : MarkedOutbox W M) (poster : Outgoing (MarkedOutbox W M))
    → marked ≡ record { outbox = outbox; marks = opened; failures = 0 } → IsFolderOpened disk marks_disk limits journal marks opened letters → Delivered (marking_drain drain marks_disk) site marked poster letters
    → IsPostedFirst disk marks_disk drain site limits journal marks outbox poster
posted_is disk marks_disk drain site limits journal marks outbox opened letters marked poster is folder delivered = record {
  start = marked;
  first = letters;
  opened = subst (λ (it : MarkedOutbox _ _). IsFolderOpened disk marks_disk limits journal marks it.marks letters) (sym is) folder;
  posted = delivered;
  outbox_is = ap (λ (it : MarkedOutbox _ _). it.outbox) is;
}

-- letters that aren't fewer than the limit are at least as many
pub many_sealed : (sealed : ℕ) → (sealed < base_limit → ⊥) → base_limit ≤ sealed
many_sealed sealed none =
    let more : base_limit < sealed + 1 = lt_of_not-le (λ (few : sealed + 1 ≤ base_limit). none (omega (arith, few))) in
    omega (arith, more)

-- marks that were not opened
pub marks_refused : (file : List ℕ) (cause : MarksError) → (cause ≡ no_marks_for.Foreign → IsForeignToMarks file) → (cause ≡ no_marks_for.Damaged → SayNoMark (recovered file)) → (cause ≡ no_marks_for.ByteLost → HasMoreBehind 1 file) → (cause ≡ no_marks_for.TooShort → IsTooShortForMarks file) → (cause ≡ no_marks_for.Journal Full → ⊥)
    → AreMarksRefusedFor file cause
marks_refused file (no_marks_for.Journal Memory) foreign damaged lost short full = tt
marks_refused file (no_marks_for.Journal Failed) foreign damaged lost short full = tt
marks_refused file (no_marks_for.Journal Full) foreign damaged lost short full = absurd (full refl)
marks_refused file no_marks_for.Foreign foreign damaged lost short full = foreign refl
marks_refused file no_marks_for.Damaged foreign damaged lost short full = damaged refl
marks_refused file no_marks_for.ByteLost foreign damaged lost short full = lost refl
marks_refused file no_marks_for.TooShort foreign damaged lost short full = short refl

-- marks or a journal that were not opened
pub only_read : {D : Type 0} (disk : Disk.Ghosts D) (journal last : D) (failed : Type 0) → failed ⊎ (disk.seen last ≡ disk.seen journal) → failed ⊎ LeavesOnly disk journal last (disk.may_leave journal) → failed ⊎ IsOnlyRead disk journal last
only_read disk journal last failed untouched unwritten = ⊎_elim (λ is. inl is) (λ seen. ⊎_elim (λ is. inl is) (λ crash. inr (record { seen = seen; crash = crash })) unwritten) untouched

-- at each moment of a call that lets the closed keys go, or doesn't, a crash leaves the history with the first of the requests
-- that let them go
pub forgot : {D : Type 0} (disk : Disk.Ghosts D) (ledger new : Ledger D) (before : List Exchange) (kept : HasKept disk ledger before []) (requests : List Request)
    → ((left : List ℕ) → disk.left_since ledger.journal.disk (disk.moment ledger.journal.disk) left → disk.may_leave ledger.journal.disk left) → (result : Result (Unit {0}) KeepError)
    → IsErrOf result Unsettled ⊎ (IsErrOf result (Journal Memory) ⊎ (IsErrOf result (Journal Full) ⊎ AreKept ledger.releases requests))
    → (IsErrOf result Unsettled ⊎ (IsErrOf result (Journal Memory) ⊎ IsErrOf result (Journal Full)) → new ≡ ledger)
    → LeavesOnly disk ledger.journal.disk new.journal.disk (StandsForSome (recovered (disk.seen ledger.journal.disk)) (records_of ledger.releases requests))
    → MayCrash (ledger_keeper disk) ledger new (rules_of ledger) before requests
forgot disk ledger new before kept requests only_now result bodies unchanged run =
    ⊎_elim (λ unsettled. nothing_kept disk ledger before kept requests new only_now (unchanged (inl unsettled)))
    (λ more. ⊎_elim (λ memory. nothing_kept disk ledger before kept requests new only_now (unchanged (inr (inl memory))))
    (λ last. ⊎_elim (λ full. nothing_kept disk ledger before kept requests new only_now (unchanged (inr (inr full)))) (λ are. some_kept disk ledger before kept requests new are run) last) more) bodies

-- once all requests are kept and carried out, the ledger models the history with them
pub forgot_all : {D : Type 0} (disk : Disk.Ghosts D) (ledger new : Ledger D) (requests : List Request) (result : Result (Unit {0}) KeepError) → new.settled ≡ settled_once_kept result ledger.settled
    → OnOk result (IsSettled disk new.journal.disk new.journal.used) → OnOk result (AwaitsRequests disk new [])
    → OnOk result ((long : List Exchange) → IsLedgerInPlaceOf ledger.book ledger.base (recovered (disk.seen ledger.journal.disk)) long → IsLedgerInPlaceOf new.book new.base (recovered (disk.seen new.journal.disk)) (history_under (rules_of ledger) long requests))
    → OnOk result ((before : List Exchange) → HasKept disk ledger before [] → HasKept disk new (history_under (rules_of ledger) before requests) [])
forgot_all disk ledger new requests (Ok value) settled durable awaits in_place = λ before kept.
    has_kept disk new (history_under (rules_of ledger) before requests) []
    (record {
      many = awaits.many;
      front = recovered (disk.seen new.journal.disk);
      in_place = in_place before (subst (λ rs. IsLedgerInPlaceOf ledger.book ledger.base rs before) (sym (kept.awaits.file ∙ append-nil kept.awaits.front)) kept.awaits.in_place);
      kept = awaits.kept;
      file = sym (append-nil (recovered (disk.seen new.journal.disk)));
    })
    (settled ∙ kept.settled) durable
forgot_all disk ledger new requests (Err error) settled durable awaits in_place = tt
