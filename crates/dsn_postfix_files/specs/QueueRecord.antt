-- A record of a queue file: its type, its length, and its bytes.
use Rattle.std.specs.Prelude.{ℕ, zero, suc, ◌+◌, ◌-◌, ◌*◌, List, [], ◌∷◌, length, take, drop, Option, Some, None, nat_lt, if◌then◌else◌}
use Rattle.dsn_postfix_files.specs.declared.placed_record.PlacedRecord.{PlacedRecord}
use Rattle.dsn_postfix_files.specs.declared.queue_record.QueueRecord.{QueueRecord}

-- a record, as its bytes encode it
pub record QueuedBytes : Type 0 where
  pub kind : ℕ
  pub bytes : List ℕ

-- the bytes that the program's reference points to
abbrev pub queued_bytes_in : QueueRecord → QueuedBytes
queued_bytes_in queue_record = record { kind = queue_record.kind; bytes = queue_record.bytes.now }

-- a record with the place in the file where it begins
pub record PlacedBytes : Type 0 where
  pub place : ℕ
  pub kind : ℕ
  pub bytes : List ℕ

abbrev pub placed_at : ℕ → QueuedBytes → PlacedBytes
placed_at place queued = record { place = place; kind = queued.kind; bytes = queued.bytes }

abbrev pub placed_bytes_in : PlacedRecord → PlacedBytes
placed_bytes_in placed = record { place = placed.place; kind = placed.kind; bytes = placed.bytes.now }

-- the length with one more byte in front, which isn't its last; it has the lowest seven bits
abbrev pub with_low_bits : ℕ → Option (ℕ × List ℕ) → Option (ℕ × List ℕ)
with_low_bits byte None = None
with_low_bits byte (Some size) = Some ((byte - 128) + 128 * size.0, size.1)

-- the length at the front of some bytes, of at most `most` bytes, and the bytes after it; each byte
-- of a length except the last has 128 added
abbrev pub length_at : ℕ → List ℕ → Option (ℕ × List ℕ)
length_at zero bytes = None
length_at (suc most) [] = None
length_at (suc most) (byte ∷ bytes) =
    if nat_lt byte 128 then Some (byte, bytes) else with_low_bits byte (length_at most bytes)

-- the limit of the bytes of a length
abbrev pub longest_length : ℕ
longest_length = 5

-- a record of this length, and the bytes after it, if there are enough bytes
abbrev pub bytes_of_kind : ℕ → Option (ℕ × List ℕ) → Option (QueuedBytes × List ℕ)
bytes_of_kind kind None = None
bytes_of_kind kind (Some size) =
    if nat_lt (length size.1) size.0 then None
    else Some (record { kind = kind; bytes = take size.0 size.1 }, drop size.0 size.1)

-- the record at the front of some bytes, and the bytes after it
abbrev pub queue_record_at : List ℕ → Option (QueuedBytes × List ℕ)
queue_record_at [] = None
queue_record_at (kind ∷ bytes) = bytes_of_kind kind (length_at longest_length bytes)
