-- Attributes that are written one after another.
use Rattle.std.proofs.Common.{Result, Ok, Err}
use Rattle.std.specs.Prelude.{OnOk}

-- what holds after a call that succeeded
pub where_ok : {T E : Type 0} {P Q : Type 0} (r : Result T E) → OnOk r P → (P → Q) → OnOk r Q
where_ok (Ok x) is so = so is
where_ok (Err e) is so = is
