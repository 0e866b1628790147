-- Nodes: the list of outcomes that links join.
use Rattle.std.specs.Prelude.{List, [], ◌∷◌, Option, Some, None, Box}
use Rattle.std.specs.declared.alloc.Global.{Global}
use Rattle.dsn_outcome.specs.LinkedOutcome.{LinkedOutcome}
use Rattle.dsn_outcome.specs.Outcome.{Outcome}

-- the outcomes from a link on
abbrev pub outcomes_linked : Option (Box LinkedOutcome Global) → List Outcome
outcomes_linked None = []
outcomes_linked (Some first) = first.value.outcome ∷ first.value.linked
