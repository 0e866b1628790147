-- The deeds that a call adds to a system's deeds.
use Rattle.std.specs.Prelude.{◌≡◌, List, ◌++◌, Option, Some, None}
use Rattle.dsn_postfix_notices.specs.requests.Deed.{Deed}

-- the deeds with some more after them, if the system exposes its deeds
abbrev pub with_deeds : Option (List Deed) → List Deed → Option (List Deed)
with_deeds None more = None
with_deeds (Some done) more = Some (done ++ more)

-- a call adds deeds for which `Are` holds
pub record Gains {S : Type 0} (deeds : S → Option (List Deed)) (old new : S) (Are : List Deed → Type 0) : Type 0 where
  pub gained : List Deed
  pub after : deeds new ≡ with_deeds (deeds old) gained
  pub are : Are gained
