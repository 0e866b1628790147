-- Letters that are submitted, one after another.
use Rattle.std.specs.Prelude.{Bool, List, [], ◌∷◌, Result, Ok, Err}
use Rattle.dsn_outcome.specs.Letter.{Letter}
use Rattle.dsn_postfix_notices.specs.declared.requests.untold.Untold.{Untold}
use Rattle.dsn_postfix_notices.specs.requests.Deed.{Deed}
use Rattle.dsn_postfix_notices.specs.requests.Heading.{Heading}
use Rattle.dsn_postfix_notices.specs.requests.HandingIn.{AreAccepted, IsNotAccepted, StopsAtLetter}

-- one letter was accepted, or wasn't
abbrev pub HandsInOne : Heading → Bool → Letter → Result (Unit {0}) Untold → List Deed → Type 0
HandsInOne heading first letter (Ok done) gained = AreAccepted heading (letter ∷ []) gained
HandsInOne heading first letter (Err why) gained = IsNotAccepted heading first letter why gained

-- all letters were accepted, or one wasn't
abbrev pub HandsInAll : Heading → List Letter → Result (Unit {0}) Untold → List Deed → Type 0
HandsInAll heading letters (Ok done) gained = AreAccepted heading letters gained
HandsInAll heading letters (Err why) gained = StopsAtLetter heading letters why gained
