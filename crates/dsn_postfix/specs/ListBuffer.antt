-- Lists of attributes that are read from a device in pieces: what a buffer holds, how much room it has, and how reading
-- ends.
use Rattle.std.specs.Prelude.{◌≡◌, ℕ, ◌*◌, ◌<◌, ◌≤◌, max, Bool, true, false, List, [], length, Option, Some, None, Result, Ok, Err}
use Rattle.std.specs.Io.KnownBytes.{Consumes, IsAtEnd}
use Rattle.dsn_postfix.specs.Attribute.{Attribute, BeginsWithList, attributes_at}
use Rattle.dsn_postfix.specs.declared.list_fault.ListFault.{ListFault}
use Rattle.dsn_postfix.specs.declared.list_fault.ListFault.TheVariants.{NoMemory, Nothing, CutShort, TooLong, Trailing, Read}

-- the longest list that is read, in bytes
abbrev pub longest_list : ℕ
longest_list = 65536

-- the least room of a buffer that has room, in bytes
abbrev pub least_room : ℕ
least_room = 1024

-- bytes that are exactly one list
pub record IsList (bytes : List ℕ) : Type 0 where
  pub attributes : List Attribute
  pub whole : BeginsWithList bytes attributes []

-- bytes that begin with a list, and further bytes follow it
pub record HasMore (bytes : List ℕ) : Type 0 where
  pub attributes : List Attribute
  pub rest : List ℕ
  pub begins : BeginsWithList bytes attributes rest
  pub some : 0 < length rest

-- bytes in which no list ends
abbrev pub HasNoList : List ℕ → Type 0
HasNoList bytes = attributes_at bytes ≡ None

-- ---- a buffer

-- the model of a buffer: its room in bytes, and the list that it holds, if there is one
pub record BufferedList : Type 0 where
  pub room : ℕ
  pub held : Option (List ℕ)

-- the room after `size` bytes were read: no less than before, and at most the least room or twice `size` if it grew
pub record RoomAfterBytes (size before after : ℕ) : Type 0 where
  pub kept : before ≤ after
  pub modest : after ≤ max before (max least_room (2 * size))

-- ---- one list, read from a source whose bytes may be known

-- a list was read, and nothing after it
pub record ReadsList (old new : Option (List ℕ)) (before after : ℕ) (bytes : List ℕ) : Type 0 where
  pub list : IsList bytes
  pub short : length bytes ≤ longest_list
  pub consumed : Consumes old new bytes
  pub room : RoomAfterBytes (length bytes) before after

-- a buffer holds a list that was read
abbrev pub HoldsList : Option (List ℕ) → Option (List ℕ) → ℕ → ℕ → Option (List ℕ) → Type 0
HoldsList old new before after None = ⊥
HoldsList old new before after (Some bytes) = ReadsList old new before after bytes

-- what a fault says of the bytes that were read before it, and of the room at that time
abbrev pub StopsReading : ListFault → ℕ → List ℕ → Type 0
StopsReading NoMemory room part = HasNoList part × ((length part < longest_list) × (length part ≡ room))
StopsReading Nothing room part = part ≡ []
StopsReading CutShort room part = HasNoList part × (0 < length part)
StopsReading TooLong room part = HasNoList part × (length part ≡ longest_list)
StopsReading Trailing room part = HasMore part
StopsReading Read room part = HasNoList part × (length part < longest_list)

-- the input is at its end if the fault says so
abbrev pub EndsInput : ListFault → Option (List ℕ) → Type 0
EndsInput NoMemory new = Unit {0}
EndsInput Nothing new = IsAtEnd new
EndsInput CutShort new = IsAtEnd new
EndsInput TooLong new = Unit {0}
EndsInput Trailing new = Unit {0}
EndsInput Read new = Unit {0}

-- no list could be read, but `part` was
pub record ReadsNoList (old new : Option (List ℕ)) (before after : ℕ) (fault : ListFault) : Type 0 where
  pub part : List ℕ
  pub short : length part ≤ longest_list
  pub consumed : Consumes old new part
  pub stops : StopsReading fault after part
  pub ends : EndsInput fault new
  pub room : RoomAfterBytes (length part) before after

-- whether a result says that the device failed
abbrev pub device_failed : {T : Type 0} → Result T ListFault → Bool
device_failed (Ok value) = false
device_failed (Err NoMemory) = false
device_failed (Err Nothing) = false
device_failed (Err CutShort) = false
device_failed (Err TooLong) = false
device_failed (Err Trailing) = false
device_failed (Err Read) = true
