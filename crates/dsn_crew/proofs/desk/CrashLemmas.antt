-- What a crash leaves of a collector that takes one request more.
use Rattle.std.proofs.Common.{◌≡◌, ℕ, List, [], ◌++◌, ap, ◌∙◌, subst}
use Rattle.std.proofs.lemmas.List.{append-nil}
use Rattle.dsn_book.specs.Crash.{ReopensAfterSome}
use Rattle.dsn_book.specs.Keeper.{MayCrash}
use Rattle.dsn_book.specs.declared.keeper.Keeper.{Ghosts as Keeper}
use Rattle.dsn_book.proofs.CrashLemmas.{crash_joined, some_of_all}
use Rattle.dsn_device.proofs.ThroughoutLemmas.{started}
use Rattle.dsn_book.specs.Release.{Rules, history_under}
use Rattle.dsn_outcome.specs.History.{Exchange}
use Rattle.dsn_outcome.specs.Request.{Request}

-- the law of each keeper: a crash now leaves what it models
abbrev pub LeavesKept : {B : Type 0} → Keeper B → Type 0
LeavesKept {B} keeper = (book : B) (t : List Exchange) (requests : List Request) (left : List ℕ) → keeper.has book t requests → keeper.left_since book (keeper.moment book) left → keeper.reopens (keeper.rules book).limits left (history_under (keeper.rules book) t requests)

module _ {B : Type 0} (keeper : Keeper B) (start mid new : B) (rules : Rules) (before : List Exchange) (taken : List Request) where
  -- nothing was done
  pub none_done : LeavesKept keeper → keeper.rules start ≡ rules → keeper.has start before [] → MayCrash keeper start start rules before []
  none_done law same has = started keeper.moment keeper.left_since start _ (λ left since. subst (λ r. ReopensAfterSome keeper.reopens r before [] left) same (some_of_all keeper.reopens (keeper.rules start) before [] [] left (law start before [] left has since)))

  -- something more was done, after all that was taken
  pub done_on : (behind more : List Request) → behind ≡ [] → MayCrash keeper start mid rules before (taken ++ behind) → MayCrash keeper mid new rules (history_under rules before taken) more → MayCrash keeper start new rules before (taken ++ more)
  done_on behind more none first second =
      crash_joined keeper start mid new rules before taken more
      (subst (MayCrash keeper start mid rules before) (ap (λ (q : List Request). taken ++ q) none ∙ append-nil taken) first) second
