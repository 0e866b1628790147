-- All records of a queue file in logical order, and the ending after the last one.
use Rattle.std.specs.Prelude.{◌≡◌, ◌≤◌, ℕ, List, [], ◌∷◌, length, Option, Result, MatchOption, MatchResult}
use Rattle.dsn_postfix_files.specs.QueueRecord.{PlacedBytes, placed_bytes_in}
use Rattle.dsn_postfix_files.specs.QueueWalk.{BrokenThere, EndThere, QueuePlace, QueueReading, RecordThere, StepsTo, WalkStep, first_place, steps_left}
use Rattle.dsn_postfix_files.specs.declared.placed_record.PlacedRecord.{PlacedRecord}
use Rattle.dsn_postfix_files.specs.declared.queue_broken.QueueBroken.{QueueBroken}

-- after the last record, the file ends, or it can't be read further
pub data QueueEnding : Type 0 where
  WholeFile : QueueEnding
  BrokenOff : QueueEnding

abbrev pub ending_step : QueueEnding → WalkStep
ending_step WholeFile = EndThere
ending_step BrokenOff = BrokenThere

-- this record is next, and then what follows from the place after it
pub record FollowedBy (file : List ℕ) (start : QueuePlace) (found : PlacedBytes) (Later : QueuePlace → Type 0) : Type 0 where
  pub next : QueuePlace
  pub comes : StepsTo file start (RecordThere found next)
  pub later : Later next

-- the records from a place on, each after the pointers before it
abbrev pub RecordsFrom : List ℕ → QueuePlace → List PlacedBytes → QueueEnding → Type 0
RecordsFrom file start [] ending = StepsTo file start (ending_step ending)
RecordsFrom file start (found ∷ records) ending =
    FollowedBy file start found (λ next. RecordsFrom file next records ending)

-- a file has one list of records, which is no longer than the number of its steps
pub record HasOneListing (file : List ℕ) : Type 0 where
  pub records : List PlacedBytes
  pub ending : QueueEnding
  pub lists : RecordsFrom file (first_place file) records ending
  pub few : length records ≤ steps_left (length file) (first_place file)
  pub only : (others : List PlacedBytes) (other : QueueEnding) → RecordsFrom file (first_place file) others other → (others ≡ records) × (other ≡ ending)

-- ---- a reading of such a list

-- the record is the first one, and the others follow from here on
pub record BeginsListing (found : PlacedBytes) (records : List PlacedBytes) (ending : QueueEnding) (later : QueueReading) : Type 0 where
  pub others : List PlacedBytes
  pub first : records ≡ found ∷ others
  pub lists : RecordsFrom later.file later.place others ending

abbrev pub ReadsListing : Result (Option PlacedRecord) QueueBroken → List PlacedBytes → QueueEnding → QueueReading → Type 0
ReadsListing result records ending later =
    MatchResult result
    (λ found. MatchOption found
    ((records ≡ []) × (ending ≡ WholeFile))
    (λ placed. BeginsListing (placed_bytes_in placed) records ending later))
    (λ broken. (records ≡ []) × (ending ≡ BrokenOff))
