-- Parcels: what the lane of letters carries.
use Rattle.std.specs.Prelude.{ℕ, Option}
use Rattle.dsn_outcome.specs.Letter.{Letter}

-- a letter with its number, or the end mark
pub record Parcel : Type 0 where
  pub number : ℕ
  pub letter : Option Letter
