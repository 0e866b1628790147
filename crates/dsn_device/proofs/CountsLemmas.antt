-- Counts over several calls.
use Rattle.std.proofs.Common.{ℕ, Bool, false, refl, ap, ◌∙◌}
use Rattle.dsn_device.specs.Counts.{Counts}
use Rattle.dsn_device.specs.Failures.{counted}

module _ {D : Type 0} (failures flushes : D → ℕ) (steady : D → Type 0) where
  -- no call was made
  pub counts-none : (x : D) → Counts failures flushes steady false x x
  counts-none x = record { count = refl; no_flush = refl; stays_steady = λ good. (good, refl) }

  -- calls that did not fail, and one more call
  pub counts-then : (failed : Bool) (x y z : D) → Counts failures flushes steady false x y → Counts failures flushes steady failed y z → Counts failures flushes steady failed x z
  counts-then failed x y z first then = record {
    count = then.count ∙ ap (counted failed) first.count;
    no_flush = then.no_flush ∙ first.no_flush;
    stays_steady = λ good. let one = first.stays_steady good in let two = then.stays_steady one.0 in (two.0, two.1 ∙ one.1);
  }
