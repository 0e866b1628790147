-- Desks: what contracts of private parts see of the collector, and of a request that it takes.
use Rattle.std.specs.Prelude.{ℕ, Bool, List, [], None, Option, Some, ◌≡◌, ◌≤◌, length, is_some, ◌∷◌, ◌++◌, take, drop}
use Rattle.dsn_book.specs.declared.keeper.Keeper.{Ghosts as Keeper}
use Rattle.dsn_book.specs.Release.{Rules, before_request, exchange_under, history_under}
use Rattle.dsn_book.specs.declared.not_kept.NotKept.{NotKept}
use Rattle.dsn_crew.specs.declared.breach.Breach.TheVariants.{AgentGone, HandedBack, Full, Unkept}
use Rattle.dsn_crew.specs.declared.breach.Breach.{Breach}
use Rattle.dsn_crew.specs.desk.Desk.{Desk}
use Rattle.dsn_crew.specs.desk.Intake.{most_taken}
use Rattle.dsn_crew.specs.lane.Halves.{Half, Out}
use Rattle.dsn_outcome.specs.History.{Exchange, answer_of}
use Rattle.dsn_outcome.specs.Request.{Request}
use Rattle.dsn_outcome.specs.declared.answer.Answer.{Answer}

-- a collector by its parts, with nothing behind what it carried out
abbrev pub desk_of :
    {B : Type 0} → B → B → Out Request → List (Half Answer) → ℕ → Bool → Desk B
desk_of start book requests answers missed failed = record {
  start = start;
  book = book;
  requests = requests;
  behind = [];
  answers = answers;
  missed = missed;
  failed = failed;
  unkept = None;
}

-- why requests were not kept, if a collector has failed for that reason
abbrev pub unkept_of : Option Breach → Option NotKept
unkept_of (Some (Unkept why)) = Some why
unkept_of stop = None

-- a collector whose keeper refused those behind for this reason
pub record HasRefused {B : Type 0} (keeper : Keeper B) (desk : Desk B)
    (why : NotKept) : Type 0 where
  pub unkept : desk.unkept ≡ Some why
  pub was : B
  pub refuses : keeper.refuses was desk.behind why desk.book
  pub some : 1 ≤ length desk.behind

-- why it has failed: a lane reported that its other side is gone; its sink returned a letter; it
-- carried out all that it may; or its keeper refused requests. It fails for nothing else
abbrev pub IsStopped : {B : Type 0} → Keeper B → Desk B → Breach → Type 0
IsStopped keeper desk (AgentGone gone) = desk.unkept ≡ None
IsStopped keeper desk (HandedBack back) = desk.unkept ≡ None
IsStopped keeper desk Full =
    (desk.unkept ≡ None) × (length desk.requests.taken ≡ most_taken)
IsStopped keeper desk (Unkept why) = HasRefused keeper desk why
IsStopped keeper desk breach = ⊥

-- what holds nothing yet, and has room for a half of each agent
abbrev pub HasRoom : List (Half Answer) → List (Half Request) → ℕ → Type 0
HasRoom answers held capacity = (held ≡ []) × (length answers ≤ capacity)

-- one that has kept these requests behind what it carried out, over what its keeper is now
abbrev pub with_kept : {B : Type 0} → Desk B → List Request → B → Desk B
with_kept desk behind book = record desk { book = book; behind = behind }

-- the half by which requests are taken, with those that were given to be carried out, and those
-- behind, which were taken and not given so far
pub record Intake : Type 0 where
  pub requests : Out Request
  pub behind : List Request

-- what is seen of a collector by its parts, with why it has failed
abbrev pub desk_seen :
    {B : Type 0} → B → B → Option Breach → Intake → List (Half Answer) → ℕ → Desk B
desk_seen start book stop intake answers missed = record {
  start = start;
  book = book;
  requests = intake.requests;
  behind = intake.behind;
  answers = answers;
  missed = missed;
  failed = is_some stop;
  unkept = unkept_of stop;
}

-- An answer that may be sent after a history: it is that of the last request that was carried out,
-- by these rules. The keeper has kept all those behind it that were taken, so that a crash leaves
-- them
pub record MayBeSent {B : Type 0} (keeper : Keeper B) (rules : Rules) (before : List Exchange)
    (intake : Intake) (book : B) (answer : Answer) : Type 0 where
  pub earlier : List Request
  pub last : Request
  pub taken_are : intake.requests.taken ≡ earlier ++ last ∷ []
  pub has : keeper.has book (history_under rules before intake.requests.taken) intake.behind
  pub answers : answer
      ≡ answer_of (before_request rules (history_under rules before earlier) last)
      (exchange_under rules (history_under rules before earlier) last)

-- what is seen of a half of which this number of requests were given
abbrev pub intake_of : ℕ → Out Request → Intake
intake_of count out = record {
  requests =
      record { lane = out.lane; first = out.first; past = out.past; taken = take count out.taken };
  behind = drop count out.taken;
}
