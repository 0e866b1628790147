-- A device's count of its flushes, and whether a write took bytes.
use Rattle.std.specs.Prelude.{ℕ, zero, suc, Bool, true, false, nat_lt, Result, Ok, Err}
use Rattle.dsn_device.specs.Failures.{counted}

-- the count after one more flush, which failed or not; it has the same maximum as a count of
-- failures
abbrev pub flushed : ℕ → ℕ
flushed count = counted true count

-- the count after this number of further flushes
abbrev pub flushed_times : ℕ → ℕ → ℕ
flushed_times zero count = count
flushed_times (suc times) count = flushed (flushed_times times count)

-- whether a write took bytes
abbrev pub took_bytes : {E : Type 0} → Result ℕ E → Bool
took_bytes (Ok taken) = nat_lt 0 taken
took_bytes (Err e) = false
