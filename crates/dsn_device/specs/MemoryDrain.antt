-- Drains into memory: the bytes that a drain took, its counts of failures and flushes, and whether
-- it has taken bytes since its last flush.
use Rattle.std.specs.Prelude.{ℕ, Bool, List}

pub record MemoryDrain : Type 0 where
  pub bytes : List ℕ
  pub failures : ℕ
  pub flushes : ℕ
  pub unflushed : Bool
