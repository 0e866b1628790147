-- Requests that a collector takes and has kept, and one that it carries out: what is known at each of these steps.
use Rattle.std.proofs.Common.{◌≡◌, ◌≢◌, inr, ℕ, ◌+◌, ◌<◌, ◌≤◌, ◌&&◌, not, Bool, true, false, All, List, [], ◌∷◌, ◌++◌, length, take, ap, sym, ◌∙◌, subst, refl, true≢false, arith}
use Rattle.std.specs.Prelude.{IfErr, Option, None, Some, Result, Ok, Err}
use Rattle.std.proofs.lemmas.Bool.{eqb-true}
use Rattle.std.proofs.lemmas.List.{append-nil}
use Rattle.dsn_book.specs.Keeper.{MayCrash}
use Rattle.dsn_book.specs.declared.keeper.Keeper.{Ghosts as Keeper}
use Rattle.dsn_book.specs.declared.not_kept.NotKept.{NotKept}
use Rattle.dsn_book.specs.Release.{before_request, exchange_under, history_next, history_under}
use Rattle.dsn_book.proofs.ReleaseLemmas.{under-more}
use Rattle.dsn_crew.specs.lane.Halves.{Out}
use Rattle.dsn_outcome.specs.History.{Exchange, answer_of, letter_of}
use Rattle.dsn_outcome.specs.Letter.{Letter}
use Rattle.dsn_outcome.specs.Request.{Request}
use Rattle.dsn_outcome.specs.declared.answer.Answer.{Answer}
use Rattle.dsn_crew.specs.desk.Desk.{AreLeft, Desk, IsDesk, IsRequestTaken, all_gone, history, history_before, next_exchange, with_failed}
use Rattle.dsn_crew.specs.KeeperHistory.{BeginsWith, StandsOrRefused}
use Rattle.dsn_crew.specs.inner.Desk.{MayBeSent, with_kept}
use Rattle.dsn_crew.specs.declared.desk.desk_fault.DeskFault.{DeskFault}
use Rattle.dsn_crew.specs.declared.desk.desk_fault.DeskFault.TheVariants.{Requests, Answers, Letters}
use Rattle.dsn_crew.specs.inner.Desk.{Intake}
use Rattle.dsn_crew.specs.desk.Intake.{goodbyes, taken_request}
use Rattle.dsn_crew.proofs.desk.CrashLemmas.{LeavesKept, done_on, none_done}
use Rattle.dsn_crew.proofs.desk.IntakeLemmas.{AreNumbered, goodbyes-append}

-- ---- the keeper

-- what a keeper models once it has kept requests or refused them, and what a crash leaves at each
-- moment of that call
abbrev pub IsTied : {B : Type 0} → Keeper B → B → B → Option NotKept → List Request → Type 0
IsTied keeper book new_book unkept behind = (t : List Exchange) → keeper.has book t [] → StandsOrRefused keeper unkept behind t new_book × MayCrash keeper book new_book (keeper.rules book) t behind

module _ {B : Type 0} (keeper : Keeper B) (book new_book : B) (behind : List Request) where
  -- a keeper that was given no requests
  pub unmoved_tied : LeavesKept keeper → behind ≡ [] → IsTied keeper book book None behind
  unmoved_tied law none = λ t has. subst (λ (q : List Request). keeper.has book t q × MayCrash keeper book book (keeper.rules book) t q) (sym none) (has, none_done keeper book book book (keeper.rules book) t [] law refl has)

  -- one that has kept these requests
  pub kept_tied : ((t : List Exchange) → keeper.has book t [] → keeper.has new_book t behind) → ((t : List Exchange) → keeper.has book t [] → MayCrash keeper book new_book (keeper.rules book) t behind) → IsTied keeper book new_book None behind
  kept_tied has crash = λ t was. (has t was, crash t was)

  -- one that refused them
  pub refused_tied : (why : NotKept) → 1 ≤ length behind → keeper.refuses book behind why new_book → ((t : List Exchange) → keeper.has book t [] → MayCrash keeper book new_book (keeper.rules book) t behind) → IsTied keeper book new_book (Some why) behind
  refused_tied why some refuses crash = λ t has. ((book, has, refuses, some), crash t has)

-- ---- the collector

-- one that has failed keeps what it did
pub failed_desk : {B : Type 0} (keeper : Keeper B) (desk : Desk B) → IsDesk keeper desk → IsDesk keeper (with_failed desk true)
failed_desk keeper desk kept = record {
  first = kept.first;
  past = kept.past;
  few = kept.few;
  lines = kept.lines;
  mine = kept.mine;
  numbered = kept.numbered;
  rules = kept.rules;
  began = kept.began;
  room = kept.room;
  sealed = kept.sealed;
  kept = λ never. absurd (true≢false never);
  next = kept.next;
  together = kept.together;
  in_time = kept.in_time;
  counted = λ never. absurd (true≢false never);
  stands = λ before begins.
      let then = kept.stands before begins in
      record { has = then.has; sent = then.sent; answered = λ never. absurd (true≢false never); crash = then.crash };
}

-- a request that was carried out once it was taken and kept, if none was behind
pub taken_after : {B : Type 0} (keeper : Keeper B) (before : List Exchange) (old new : Desk B) (behind : List Request) (book : B) (result : Result (Option Letter) DeskFault) → old.behind ≡ [] → IfErr result (λ fault. fault ≢ Requests) → IsRequestTaken keeper before (with_kept old behind book) new result → IsRequestTaken keeper before old new result
taken_after keeper before old new behind book (Ok letter) idle lost taken = (taken.0, taken.1, taken.2, taken.3, taken.4, taken.5, taken.6, inr idle)
taken_after keeper before old new behind book (Err Requests) idle lost taken = absurd (lost refl)
taken_after keeper before old new behind book (Err (Answers agent letter)) idle lost taken = (taken.0, taken.1, taken.2, taken.3, taken.4, taken.5, taken.6, taken.7, inr idle)
taken_after keeper before old new behind book (Err (Letters letter)) idle lost taken = absurd taken

-- agents are left while as many goodbyes were not heard
pub left_of : {B : Type 0} (desk : Desk B) (gone heard agents : ℕ) (some : List Request) → gone ≡ goodbyes desk.requests.taken → heard ≡ gone + desk.missed → agents ≡ length desk.answers → heard + goodbyes some ≢ agents → AreLeft desk (desk.requests.taken ++ some)
left_of desk gone heard agents some counted heard_is all left is =
    let split = goodbyes-append desk.requests.taken some in left (omega (arith, is, split))

-- if all agents are gone, nothing is behind
and_right : (a b : Bool) → (a && b) ≡ true → b ≡ true
and_right true b is = is
and_right false b is = absurd (true≢false (sym is))

none_left : {B : Type 0} (desk : Desk B) → all_gone desk ≡ true → goodbyes desk.requests.taken + desk.missed ≡ length desk.answers
none_left desk gone = eqb-true (goodbyes desk.requests.taken + desk.missed) (length desk.answers) (and_right (not desk.failed) _ gone)

nothing_behind : {B : Type 0} (desk : Desk B) (behind : List Request) → goodbyes desk.requests.taken + desk.missed ≡ length desk.answers → ((n : ℕ) → n < length behind → AreLeft desk (desk.requests.taken ++ take n behind)) → behind ≡ []
nothing_behind desk [] gone in_time = refl
nothing_behind desk (request ∷ rest) gone in_time = absurd (in_time 0 (omega arith) (ap (λ (q : List Request). goodbyes q + desk.missed) (append-nil desk.requests.taken) ∙ gone))

pub none_behind : {B : Type 0} (keeper : Keeper B) (desk : Desk B) → IsDesk keeper desk → all_gone desk ≡ true → desk.behind ≡ []
none_behind keeper desk kept gone = nothing_behind desk desk.behind (none_left desk gone) kept.in_time

module _ {B : Type 0} (keeper : Keeper B) (desk : Desk B) (kept : IsDesk keeper desk) (going : desk.failed ≡ false) where
  -- what it models
  pub has_here : (before : List Exchange) → BeginsWith keeper desk.start before → keeper.has desk.book (history keeper before desk) desk.behind
  has_here before begins = subst (λ (u : Option NotKept). StandsOrRefused keeper u desk.behind (history keeper before desk) desk.book) (kept.kept going) (kept.stands before begins).has

  -- ---- requests that are taken together
  module _ (idle : desk.behind ≡ []) where
    has_none : (before : List Exchange) → BeginsWith keeper desk.start before → keeper.has desk.book (history keeper before desk) []
    has_none before begins = subst (keeper.has desk.book (history keeper before desk)) idle (has_here before begins)

    pub has_idle : (t : List Exchange) × keeper.has desk.book t []
    has_idle = (_, has_none kept.began.0 kept.began.1)

    -- they are behind, kept or refused
    pub taken_desk :
        (book : B) (out : Out Request) (behind : List Request) (failed : Bool) (unkept : Option NotKept) → out ≡ desk.requests → length behind ≤ 16 → All (λ (r : Request). r.agent < desk.requests.past) behind → AreNumbered (out.taken ++ behind)
        → ((n : ℕ) → n < length behind → AreLeft desk (desk.requests.taken ++ take n behind)) → IsTied keeper desk.book book unkept behind → keeper.rules book ≡ keeper.rules desk.book → keeper.sealed book ≡ keeper.sealed desk.book → (failed ≡ false → unkept ≡ None)
        → IsDesk keeper (record { start = desk.start; book = book; requests = out; behind = behind; answers = desk.answers; missed = desk.missed; failed = failed; unkept = unkept })
    taken_desk book out behind failed unkept same few from numbered in_time tied same_rules sealed unless =
        subst (λ (o : Out Request). IsDesk keeper (record { start = desk.start; book = book; requests = o; behind = behind; answers = desk.answers; missed = desk.missed; failed = failed; unkept = unkept })) (sym same)
        (record {
          first = kept.first;
          past = kept.past;
          few = kept.few;
          lines = kept.lines;
          mine = kept.mine;
          numbered = kept.numbered;
          rules = same_rules ∙ kept.rules;
          began = kept.began;
          room = kept.room;
          sealed = (let before = kept.sealed in omega (arith, sealed));
          kept = unless;
          next = record {
            from = subst (λ (k : ℕ). All (λ (r : Request). r.agent < k) behind) kept.past from;
            numbered = subst (λ (o : Out Request). AreNumbered (o.taken ++ behind)) same numbered;
          };
          together = few;
          in_time = in_time;
          counted = λ _. kept.counted going;
          stands = λ before begins.
              let then = kept.stands before begins in record {
                has = (tied _ (has_none before begins)).0;
                sent = then.sent;
                answered = λ _. then.answered going;
                crash = done_on keeper desk.start desk.book book (keeper.rules desk.start) before desk.requests.taken desk.behind behind idle then.crash
                    (subst (λ r. MayCrash keeper desk.book book r (history keeper before desk) behind) kept.rules (tied _ (has_none before begins)).1);
              };
        })

  -- ---- the first of those behind
  module _ (request : Request) (rest : List Request) (behind : desk.behind ≡ request ∷ rest) where
    has_next : (before : List Exchange) → BeginsWith keeper desk.start before → keeper.has desk.book (history keeper before desk) (request ∷ rest)
    has_next before begins = subst (keeper.has desk.book (history keeper before desk)) behind (has_here before begins)

    pub has_some : (t : List Exchange) × (q : List Request) × keeper.has desk.book t (request ∷ q)
    has_some = (_, rest, has_next kept.began.0 kept.began.1)

    -- the answer is the one that each history says
    pub answer_says : (answer : Answer) → ((t : List Exchange) (q : List Request) → keeper.has desk.book t (request ∷ q) → answer ≡ answer_of (before_request (keeper.rules desk.book) t request) (exchange_under (keeper.rules desk.book) t request)) → (before : List Exchange) → BeginsWith keeper desk.start before → answer ≡ answer_of (history_before keeper before desk request) (next_exchange keeper before desk request)
    answer_says answer says before begins =
        says _ rest (has_next before begins) ∙ ap (λ r. answer_of (before_request r (history keeper before desk) request) (exchange_under r (history keeper before desk) request)) kept.rules

    -- the letter is the one that each history says
    pub letter_says : (letters : List Letter) → ((t : List Exchange) (q : List Request) → keeper.has desk.book t (request ∷ q) → letters ≡ letter_of (before_request (keeper.rules desk.book) t request) (exchange_under (keeper.rules desk.book) t request)) → (before : List Exchange) → BeginsWith keeper desk.start before
        → letters ≡ letter_of (history_before keeper before desk request) (next_exchange keeper before desk request)
    letter_says letters says before begins =
        says _ rest (has_next before begins) ∙ ap (λ r. letter_of (before_request r (history keeper before desk) request) (exchange_under r (history keeper before desk) request)) kept.rules

    module _ (book : B) (has : (t : List Exchange) (q : List Request) → keeper.has desk.book t (request ∷ q) → keeper.has book (history_next (keeper.rules desk.book) t request) q) where
      pub has_says : (before : List Exchange) → BeginsWith keeper desk.start before → keeper.has book (history_next (keeper.rules desk.start) (history keeper before desk) request) rest
      has_says before begins =
          subst (λ r. keeper.has book (history_next r (history keeper before desk) request) rest) kept.rules (has _ rest (has_next before begins))

      -- the answer may be sent
      pub may_be_sent : (answer : Answer) → ((before : List Exchange) → BeginsWith keeper desk.start before → answer ≡ answer_of (history_before keeper before desk request) (next_exchange keeper before desk request)) → (intake : Intake) → intake.requests ≡ taken_request desk.requests request → intake.behind ≡ rest → (before : List Exchange) → BeginsWith keeper desk.start before
          → MayBeSent keeper (keeper.rules desk.start) before intake book answer
      may_be_sent answer says intake taken left before begins =
          let more = ap (λ (o : Out Request). o.taken) taken in record {
            earlier = desk.requests.taken;
            last = request;
            taken_are = more;
            has =
                subst (keeper.has book (history_under (keeper.rules desk.start) before intake.requests.taken)) (sym left)
                (subst (λ h. keeper.has book h rest) (sym (ap (history_under (keeper.rules desk.start) before) more ∙ under-more (keeper.rules desk.start) before desk.requests.taken request)) (has_says before begins));
            answers = says before begins;
          }
