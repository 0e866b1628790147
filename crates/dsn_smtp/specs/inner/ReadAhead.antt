-- A stream of which more was read than is wanted yet.
use Rattle.std.specs.Prelude.{ℕ, List}

-- a stream, and the bytes that were read from it and aren't wanted yet
pub record StreamAhead (S : Type 0) : Type 0 where
  pub stream : S
  pub ahead : List ℕ
