-- A walk through a queue file ends: each pointer leads forward, or uses one of the remaining jumps back.
use Rattle.std.proofs.Common.{◌≡◌, ℕ, zero, suc, ◌+◌, ◌-◌, ◌<◌, ◌≤◌, Bool, true, false, List, [], ◌∷◌, length, take, drop, Option, Some, None, refl, sym, ◌∙◌, ap, subst, arith, length-drop, if◌then◌else◌}
use Rattle.std.specs.Prelude.{◌==◌, nat_le, nat_lt}
use Rattle.dsn_postfix_files.specs.QueueRecord.{PlacedBytes, QueuedBytes, placed_at, with_low_bits, length_at, longest_length, bytes_of_kind, queue_record_at}
use Rattle.std.specs.Borrow.{Bor}
use Rattle.dsn_postfix_files.specs.declared.queue_step.QueueStep.{QueueStep}
use Rattle.dsn_postfix_files.specs.declared.queue_step.QueueStep.TheVariants as steps
use Rattle.dsn_postfix_files.specs.inner.QueueReading.{IsNextStep, step_in}
use Rattle.dsn_postfix_files.specs.QueueWalk.{QueuePlace, WalkStep, RecordThere, PointerTo, EndThere, BrokenThere, back_step, pointer_step, pointer_target, step_of_record, step_at, pointed_at, pointed_from, PointersLead, steps_left}

-- the bytes that are left after a read are fewer
abbrev ShorterRest : {X : Type 0} → List ℕ → Option (X × List ℕ) → Type 0
ShorterRest bytes None = Unit {0}
ShorterRest bytes (Some read) = length read.1 < length bytes

shorter-low : (byte : ℕ) (bytes : List ℕ) (size : Option (ℕ × List ℕ)) → ShorterRest bytes size → ShorterRest (byte ∷ bytes) (with_low_bits byte size)
shorter-low byte bytes None less = tt
shorter-low byte bytes (Some size) less = omega (arith, less)

shorter-by : (test : Bool) (byte : ℕ) (bytes : List ℕ) (size : Option (ℕ × List ℕ)) → ShorterRest bytes size → ShorterRest (byte ∷ bytes) (if test then Some (byte, bytes) else with_low_bits byte size)
shorter-by true byte bytes size less = omega arith
shorter-by false byte bytes size less = shorter-low byte bytes size less

length-shorter : (most : ℕ) (bytes : List ℕ) → ShorterRest bytes (length_at most bytes)
length-shorter zero bytes = tt
length-shorter (suc most) [] = tt
length-shorter (suc most) (byte ∷ bytes) = shorter-by (nat_lt byte 128) byte bytes (length_at most bytes) (length-shorter most bytes)

shorter-kind-by : (test : Bool) (kind : ℕ) (bytes : List ℕ) (size : ℕ × List ℕ) → length size.1 < length bytes
    → ShorterRest {X = QueuedBytes} (kind ∷ bytes) (if test then None else Some (record { kind = kind; bytes = take size.0 size.1 }, drop size.0 size.1))
shorter-kind-by true kind bytes size less = tt
shorter-kind-by false kind bytes size less = omega (arith, less, length-drop size.0 size.1)

shorter-kind : (kind : ℕ) (bytes : List ℕ) (size : Option (ℕ × List ℕ)) → ShorterRest bytes size → ShorterRest (kind ∷ bytes) (bytes_of_kind kind size)
shorter-kind kind bytes None less = tt
shorter-kind kind bytes (Some size) less = shorter-kind-by (nat_lt (length size.1) size.0) kind bytes size less

record-shorter : (bytes : List ℕ) → ShorterRest bytes (queue_record_at bytes)
record-shorter [] = tt
record-shorter (kind ∷ bytes) = shorter-kind kind bytes (length_at longest_length bytes) (length-shorter longest_length bytes)

-- a pointer and a record lead to a place within the file, with fewer steps left from there
abbrev pub GoesOn : List ℕ → QueuePlace → WalkStep → Type 0
GoesOn file place (PointerTo next) = (steps_left (length file) next < steps_left (length file) place) × (length next.rest ≤ length file)
GoesOn file place (RecordThere bytes next) = (steps_left (length file) next < steps_left (length file) place) × (length next.rest ≤ length file)
GoesOn file place EndThere = Unit {0}
GoesOn file place BrokenThere = Unit {0}

back-goes_on : (file rest there : List ℕ) (jumps : ℕ) → length there ≤ length file → GoesOn file (record { rest = rest; jumps = jumps }) (back_step there jumps)
back-goes_on file rest there zero within = tt
back-goes_on file rest there (suc jumps) within =
    let next : suc jumps ≡ jumps + 1 = omega arith in
    (rw next (omega (arith, within)), within)

pointer-by : (zero_test forward : Bool) (file rest after there : List ℕ) (jumps : ℕ) → length after < length rest → length rest ≤ length file → length there ≤ length file
    → (forward ≡ true → length there ≤ length after)
    → GoesOn file (record { rest = rest; jumps = jumps }) (if zero_test then PointerTo (record { rest = after; jumps = jumps }) else (if forward then PointerTo (record { rest = there; jumps = jumps }) else back_step there jumps))
pointer-by true forward file rest after there jumps less within inside ahead = (omega (arith, less), omega (arith, less, within))
pointer-by false true file rest after there jumps less within inside ahead = (omega (arith, less, ahead refl), inside)
pointer-by false false file rest after there jumps less within inside ahead = back-goes_on file rest there jumps inside

pointer-goes_on : (file rest after : List ℕ) (jumps : ℕ) (target : Option ℕ) → length after < length rest → length rest ≤ length file → GoesOn file (record { rest = rest; jumps = jumps }) (pointer_step file after jumps target)
pointer-goes_on file rest after jumps None less within = tt
pointer-goes_on file rest after jumps (Some target) less within =
    pointer-by (target == 0) (nat_le (length (drop target file)) (length after)) file rest after (drop target file) jumps less within (omega (arith, length-drop target file)) (λ e. grind (arith, e))

step-by : (is_pointer is_end : Bool) (file rest after : List ℕ) (jumps : ℕ) (queued : QueuedBytes) (placed : PlacedBytes) → length after < length rest → length rest ≤ length file
    → GoesOn file (record { rest = rest; jumps = jumps }) (if is_pointer then pointer_step file after jumps (pointer_target queued.bytes) else (if is_end then EndThere else RecordThere placed (record { rest = after; jumps = jumps })))
step-by true is_end file rest after jumps queued placed less within = pointer-goes_on file rest after jumps (pointer_target queued.bytes) less within
step-by false true file rest after jumps queued placed less within = tt
step-by false false file rest after jumps queued placed less within = (omega (arith, less), omega (arith, less, within))

read-goes_on : (file : List ℕ) (place : QueuePlace) (read : Option (QueuedBytes × List ℕ)) → ShorterRest place.rest read → length place.rest ≤ length file → GoesOn file place (step_of_record file place read)
read-goes_on file place None less within = tt
read-goes_on file place (Some read) less within = step-by (read.0.kind == 112) (read.0.kind == 69) file place.rest read.1 place.jumps read.0 (placed_at (length file - length place.rest) read.0) less within

pub step-goes_on : (file : List ℕ) (place : QueuePlace) → length place.rest ≤ length file → GoesOn file place (step_at file place)
unfolding step_at
step-goes_on file place within = read-goes_on file place (queue_record_at place.rest) (record-shorter place.rest) within

-- one more pointer
pub pointer_more : (file : List ℕ) (start here next : QueuePlace) → PointersLead file start here → step_at file here ≡ PointerTo next → PointersLead file start next
pointer_more file start here next led is = record { count = suc led.count; lead = ap (pointed_from file) led.lead ∙ ap pointed_at is }

-- a pointer leaves fewer steps
pub pointer_less : (file : List ℕ) (place next : QueuePlace) → step_at file place ≡ PointerTo next → length place.rest ≤ length file
    → (steps_left (length file) next < steps_left (length file) place) × (length next.rest ≤ length file)
pointer_less file place next is within = subst (GoesOn file place) is (step-goes_on file place within)

-- a step that isn't a pointer leads to a place within the file with fewer steps left, if it leads to a place
next-after : (file : List ℕ) (start place : QueuePlace) (step : QueueStep) → GoesOn file place (step_in step) → steps_left (length file) place ≤ steps_left (length file) start
    → ((there : Bor (List ℕ)) (fewer : ℕ) → step ≡ steps.Pointer there fewer → ⊥) → IsNextStep file start (step_in step)
next-after file start place (steps.Record found rest jumps) goes before other = (omega (arith, goes.0, before), goes.1)
next-after file start place (steps.Pointer there fewer) goes before other = other there fewer refl
next-after file start place steps.End goes before other = tt
next-after file start place steps.Broken goes before other = tt

pub next_is_last : (file : List ℕ) (start place : QueuePlace) (step : QueueStep) → step_in step ≡ step_at file place → length place.rest ≤ length file → steps_left (length file) place ≤ steps_left (length file) start
    → ((there : Bor (List ℕ)) (fewer : ℕ) → step ≡ steps.Pointer there fewer → ⊥) → IsNextStep file start (step_in step)
next_is_last file start place step is within before other =
    next-after file start place step (subst (GoesOn file place) (sym is) (step-goes_on file place within)) before other
