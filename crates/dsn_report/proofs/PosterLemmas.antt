-- A letter that was written, flushed and marked by its serial.
use Rattle.std.proofs.Common.{◌≡◌, ℕ, Bool, List, subst}
use Rattle.dsn_device.proofs.UntilFailureLemmas.{written-marked}
use Rattle.dsn_device.specs.UntilFailure.{FlushesUntilFailure, MarksUntilFailure, WritesUntilFailure, WrittenAndMarked}
use Rattle.dsn_device.specs.declared.drain.Drain.{Ghosts as Drain}

pub marked_by_serial : {W : Type 0} {drain : Drain W} {a b c d : Bool} {x y z w : W} {text : List ℕ} {asked serial : ℕ} → WritesUntilFailure drain a b x y text → FlushesUntilFailure drain b c y z
    → MarksUntilFailure drain c d z w asked → asked ≡ serial → WrittenAndMarked drain a d x w text serial
marked_by_serial {W} {drain} {a} {b} {c} {d} {x} {y} {z} {w} {text} {asked} {serial} wrote flushed marked is =
    subst (λ (n : ℕ). WrittenAndMarked drain a d x w text n) is (written-marked wrote flushed marked)
