-- Worked examples of a queue file's definitions, computed by them. The bytes are from files that Postfix 3.7 wrote.
use Rattle.std.proofs.Common.{◌≡◌, ℕ, List, [], ◌∷◌, ◌++◌, codes, drop, take, refl, Some, None}
use Rattle.dsn_postfix_files.specs.QueueListing.{BrokenOff, RecordsFrom, WholeFile}
use Rattle.dsn_postfix_files.specs.QueueRecord.{PlacedBytes, length_at, queue_record_at}
use Rattle.dsn_postfix_files.specs.QueueWalk.{BrokenThere, EndThere, PointerTo, QueuePlace, RecordThere, step_at}

-- a recipient's record
pub recipient : queue_record_at (82 ∷ 17 ∷ codes "later@example.orgA") ≡ Some (record { kind = 82; bytes = codes "later@example.org" }, codes "A")
recipient = refl

-- an empty record
pub end : queue_record_at (69 ∷ 0 ∷ []) ≡ Some (record { kind = 69; bytes = [] }, [])
end = refl

-- cut short: without a length, and with one byte less than its length
pub no_length : queue_record_at (82 ∷ []) ≡ None
no_length = refl

pub byte_too_few : queue_record_at (82 ∷ 3 ∷ codes "ab") ≡ None
byte_too_few = refl

-- the length of a line of 2,048 bytes, its lowest seven bits first
pub two_bytes : length_at 5 (128 ∷ 16 ∷ codes "x") ≡ Some (2048, codes "x")
two_bytes = refl

pub five_bytes : length_at 5 (255 ∷ 255 ∷ 255 ∷ 255 ∷ 127 ∷ []) ≡ Some (34359738367, [])
five_bytes = refl

pub six_bytes : length_at 5 (128 ∷ 128 ∷ 128 ∷ 128 ∷ 128 ∷ 0 ∷ []) ≡ None
six_bytes = refl

-- the first place of a file with a recipient, a pointer to 25, a record that nothing leads to, and, at 25, the end
abbrev file : List ℕ
file = (82 ∷ 1 ∷ codes "a") ++ ((112 ∷ 15 ∷ codes "             25") ++ ((82 ∷ 3 ∷ codes "bcd") ++ (69 ∷ 0 ∷ [])))

abbrev from : ℕ → ℕ → QueuePlace
from place jumps = record { rest = drop place file; jumps = jumps }

pub record_there : step_at file (from 0 1) ≡ RecordThere (record { place = 0; kind = 82; bytes = codes "a" }) (from 3 1)
unfolding step_at
record_there = refl

pub pointer_there : step_at file (from 3 1) ≡ PointerTo (from 25 1)
unfolding step_at
pointer_there = refl

pub end_there : step_at file (from 25 1) ≡ EndThere
unfolding step_at
end_there = refl

pub nothing_there : step_at file (from 27 1) ≡ BrokenThere
unfolding step_at
nothing_there = refl

-- a pointer back uses one of the remaining jumps, and without one it is a break
pub pointer_back : step_at (codes "N" ++ (0 ∷ 112 ∷ 1 ∷ codes "1")) (record { rest = 112 ∷ 1 ∷ codes "1"; jumps = 1 })
    ≡ PointerTo (record { rest = 0 ∷ 112 ∷ 1 ∷ codes "1"; jumps = 0 })
unfolding step_at
pointer_back = refl

pub no_jump_left : step_at (codes "N" ++ (0 ∷ 112 ∷ 1 ∷ codes "1")) (record { rest = 112 ∷ 1 ∷ codes "1"; jumps = 0 }) ≡ BrokenThere
unfolding step_at
no_jump_left = refl

-- a pointer to 0 leads to the next record, and one whose place isn't digits is a break
pub pointer_to_0 : step_at [] (record { rest = 112 ∷ 2 ∷ codes " 0E"; jumps = 0 }) ≡ PointerTo (record { rest = codes "E"; jumps = 0 })
unfolding step_at
pointer_to_0 = refl

pub no_place : step_at [] (record { rest = 112 ∷ 2 ∷ codes "1x"; jumps = 5 }) ≡ BrokenThere
unfolding step_at
no_place = refl

-- the list of that file: one record, and then its end
abbrev placed_recipient : PlacedBytes
placed_recipient = record { place = 0; kind = 82; bytes = codes "a" }

pub whole_list : RecordsFrom file (from 0 1) (placed_recipient ∷ []) WholeFile
unfolding step_at
whole_list = record {
  next = from 3 1;
  comes = record { here = from 0 1; pointers = record { count = 0; lead = refl }; is = refl };
  later = record { here = from 25 1; pointers = record { count = 1; lead = refl }; is = refl };
}

-- the same file without its last two bytes: it can't be read further after the pointer
pub broken_list : RecordsFrom (take 25 file) (record { rest = take 25 file; jumps = 1 }) (placed_recipient ∷ []) BrokenOff
unfolding step_at
broken_list = record {
  next = record { rest = drop 3 (take 25 file); jumps = 1 };
  comes = record { here = record { rest = take 25 file; jumps = 1 }; pointers = record { count = 0; lead = refl }; is = refl };
  later = record { here = record { rest = []; jumps = 1 }; pointers = record { count = 1; lead = refl }; is = refl };
}

-- a second record, after the first
abbrev two_records_file : List ℕ
two_records_file = (83 ∷ 1 ∷ codes "s") ++ ((82 ∷ 1 ∷ codes "a") ++ (69 ∷ 0 ∷ []))

pub second_place : step_at two_records_file (record { rest = drop 3 two_records_file; jumps = 0 })
    ≡ RecordThere (record { place = 3; kind = 82; bytes = codes "a" }) (record { rest = 69 ∷ 0 ∷ []; jumps = 0 })
unfolding step_at
second_place = refl
