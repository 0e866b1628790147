-- A device's count of its failures: each failure adds one, up to a maximum.
use Rattle.std.specs.Prelude.{ℕ, ◌+◌, ◌-◌, ◌^◌, Bool, true, ◌&&◌, nat_lt, List, length, Result, Ok, Err, ◌==◌, if◌then◌else◌}

-- the maximum of the count, 18,446,744,073,709,551,615
abbrev pub most_failures : ℕ
most_failures = 2 ^ 64 - 1

-- the count after a call, which failed or not
abbrev pub counted : Bool → ℕ → ℕ
counted failed count = if failed && nat_lt count most_failures then count + 1 else count

-- whether a write failed: it returned an error, or took no byte of a text that isn't empty
abbrev pub write_failed : {E : Type 0} → Result ℕ E → List ℕ → Bool
write_failed (Ok taken) text = taken == 0 && nat_lt 0 (length text)
write_failed (Err e) text = true
