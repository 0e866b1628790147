-- The records of a queue file in logical order: one after another, except that a pointer leads to
-- another place.
use Rattle.std.specs.Prelude.{◌≡◌, ℕ, zero, suc, ◌+◌, ◌-◌, ◌*◌, List, length, drop, Option, Some, None, ◌==◌, nat_le, if◌then◌else◌}
use Rattle.dsn_postfix_files.specs.LogLine.{without_leading_spaces}
use Rattle.dsn_postfix_files.specs.LogRecord.{written_number}
use Rattle.dsn_postfix_files.specs.QueueRecord.{PlacedBytes, QueuedBytes, placed_at, queue_record_at}

-- a place in a file: the bytes from there on, and how many pointers may still lead back
pub record QueuePlace : Type 0 where
  pub rest : List ℕ
  pub jumps : ℕ

-- the step at a place: a record and the next place, a pointer to another place, the end, or a
-- break, at which the file can't be read further
pub data WalkStep : Type 0 where
  RecordThere : PlacedBytes → QueuePlace → WalkStep
  PointerTo : QueuePlace → WalkStep
  EndThere : WalkStep
  BrokenThere : WalkStep

-- the step of a pointer: to 0 it leads to the next record; otherwise it leads to its place, and is
-- counted if that is back
abbrev pub back_step : List ℕ → ℕ → WalkStep
back_step rest zero = BrokenThere
back_step rest (suc jumps) = PointerTo (record { rest = rest; jumps = jumps })

abbrev pub pointer_step : List ℕ → List ℕ → ℕ → Option ℕ → WalkStep
pointer_step file after jumps None = BrokenThere
pointer_step file after jumps (Some target) =
    if target == 0 then PointerTo (record { rest = after; jumps = jumps })
    else (if nat_le (length (drop target file)) (length after)
    then PointerTo (record { rest = drop target file; jumps = jumps })
    else back_step (drop target file) jumps)

-- the place in a pointer's bytes, which are spaces and digits
abbrev pub pointer_target : List ℕ → Option ℕ
pointer_target bytes = written_number (without_leading_spaces bytes)

-- the step of a record; its place in the file follows from the number of bytes from there on
abbrev pub step_of_record : List ℕ → QueuePlace → Option (QueuedBytes × List ℕ) → WalkStep
step_of_record file place None = BrokenThere
step_of_record file place (Some read) =
    if read.0.kind == 112 then pointer_step file read.1 place.jumps (pointer_target read.0.bytes)
    else (if read.0.kind == 69 then EndThere
    else RecordThere (placed_at (length file - length place.rest) read.0) (record { rest = read.1; jumps = place.jumps }))

unfoldable pub step_at : List ℕ → QueuePlace → WalkStep
step_at file place = step_of_record file place (queue_record_at place.rest)

-- the place after this number of pointers, if there are as many one after another
abbrev pub pointed_at : WalkStep → Option QueuePlace
pointed_at (PointerTo place) = Some place
pointed_at (RecordThere bytes place) = None
pointed_at EndThere = None
pointed_at BrokenThere = None

abbrev pub pointed_from : List ℕ → Option QueuePlace → Option QueuePlace
pointed_from file None = None
pointed_from file (Some place) = pointed_at (step_at file place)

abbrev pub after_pointers : ℕ → List ℕ → QueuePlace → Option QueuePlace
after_pointers zero file place = Some place
after_pointers (suc count) file place = pointed_from file (after_pointers count file place)

-- the place where some pointers end
pub record PointersLead (file : List ℕ) (start here : QueuePlace) : Type 0 where
  pub count : ℕ
  pub lead : after_pointers count file start ≡ Some here

-- this step follows after some pointers
pub record StepsTo (file : List ℕ) (start : QueuePlace) (step : WalkStep) : Type 0 where
  pub here : QueuePlace
  pub pointers : PointersLead file start here
  pub is : step_at file here ≡ step

-- a bound of the number of records and pointers that may still follow in a file of this size
abbrev pub steps_left : ℕ → QueuePlace → ℕ
steps_left size place = place.jumps * (size + 1) + length place.rest

-- a file that is being read, and the next place in it
pub record QueueReading : Type 0 where
  pub file : List ℕ
  pub place : QueuePlace

-- how many pointers of a file may lead back
abbrev pub most_jumps : ℕ
most_jumps = 10000

-- the file's first place
abbrev pub first_place : List ℕ → QueuePlace
first_place file = record { rest = file; jumps = most_jumps }
