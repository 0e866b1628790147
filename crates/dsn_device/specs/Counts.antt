-- Counts: the effect of a call on a device's counts of failures and flushes.
use Rattle.std.specs.Prelude.{◌≡◌, ℕ, Bool}
use Rattle.dsn_device.specs.Failures.{counted}

-- the device failed once if `failed` holds, otherwise not, and it was not flushed; if it was
-- steady, it still is, and it didn't fail
pub record Counts {D : Type 0} (failures flushes : D → ℕ) (steady : D → Type 0) (failed : Bool)
    (old new : D) : Type 0 where
  pub count : failures new ≡ counted failed (failures old)
  pub no_flush : flushes new ≡ flushes old
  pub stays_steady : steady old → steady new × (failures new ≡ failures old)
