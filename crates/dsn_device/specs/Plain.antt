-- Plain devices: a std reader or writer, its counts of failures and flushes, and whether it has
-- taken bytes since its last successful flush.
use Rattle.std.specs.Prelude.{ℕ, Bool}

pub record Plain (T : Type 0) : Type 0 where
  pub inner : T
  pub failures : ℕ
  pub flushes : ℕ
  pub unflushed : Bool
