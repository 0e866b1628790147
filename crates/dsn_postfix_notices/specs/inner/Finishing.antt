-- What is done once all notices of a request are accepted: its recipients are marked as done, and then its log is
-- removed.
use Rattle.std.specs.Prelude.{◌≡◌, ℕ, List, Result, Ok, Err}
use Rattle.dsn_postfix.specs.declared.postfix_request.NoticeRequest.{NoticeRequest}
use Rattle.dsn_postfix_notices.specs.declared.requests.untold.Untold.TheVariants.{Failed}
use Rattle.dsn_postfix_notices.specs.declared.requests.untold.Untold.{Untold}
use Rattle.dsn_postfix_notices.specs.requests.Deed.{Deed}
use Rattle.dsn_postfix_notices.specs.requests.Finishing.{AreMarked, StopsAtPlace}

abbrev pub MarksAll : NoticeRequest → List ℕ → Result (Unit {0}) Untold → List Deed → Type 0
MarksAll notice places (Ok done) gained = AreMarked notice places gained
MarksAll notice places (Err why) gained = (why ≡ Failed) × StopsAtPlace notice places gained
