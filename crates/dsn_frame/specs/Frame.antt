-- Frames: how bodies follow one another in an input, and how an input ends (this project's
-- profile).
use Rattle.std.specs.Prelude.{◌≡◌, ℕ, ◌+◌, ◌<◌, ◌≤◌, List, [], ◌++◌, length, take, Option, Some, None}
use Rattle.std.specs.Io.KnownBytes.{Consumes, IsAtEnd}
use Rattle.std.specs.Int.{w32, to_be_bytes, from_be_bytes}
use Rattle.std.specs.List.{flat_map, AllByRecursion}
use Rattle.dsn_frame.specs.bodies.FrameBody.{frame, longest_body, IsFrameLength, IsFrameBody}
use Rattle.dsn_frame.specs.declared.frame_fault.FrameFault.{FrameFault}
use Rattle.dsn_frame.specs.declared.frame_fault.FrameFault.TheVariants.{NoMemory, TooLong, Empty, CutShort, Read}

-- the bytes of the length that a frame begins with (this project's profile)
abbrev pub length_prefix : ℕ
length_prefix = 4

-- the longest frame, in bytes: the length and the longest body
abbrev pub longest_frame : ℕ
longest_frame = length_prefix + longest_body

-- the length that the first four bytes declare
abbrev pub declared_length : List ℕ → ℕ
declared_length bytes = from_be_bytes w32 (take length_prefix bytes)

-- less than a whole frame, as far as its bytes show
abbrev pub IsPartOfFrame : List ℕ → Type 0
IsPartOfFrame part =
    length_prefix ≤ length part
    → IsFrameLength (declared_length part) × (length part < length_prefix + declared_length part)

-- ---- the frames of a whole input

-- how the bytes after the last whole frame end an input: without a fault if nothing is left, or
-- with a fault
abbrev pub FramesEnd : List ℕ → Option FrameFault → Type 0
FramesEnd rest None = rest ≡ []
FramesEnd rest (Some TooLong) = (length_prefix ≤ length rest) × (longest_body < declared_length rest)
FramesEnd rest (Some Empty) = (length_prefix ≤ length rest) × (declared_length rest ≡ 0)
FramesEnd rest (Some CutShort) = (0 < length rest) × IsPartOfFrame rest
FramesEnd rest (Some Read) = ⊥
FramesEnd rest (Some NoMemory) = ⊥

-- an input that begins with the frames of these bodies, and goes on with the rest
pub record BeginsWithFrames (input : List ℕ) (bodies : List (List ℕ)) (rest : List ℕ) : Type 0 where
  pub front : input ≡ flat_map frame bodies ++ rest
  pub whole : AllByRecursion IsFrameBody bodies

-- the frames of an input: all the whole frames that it begins with, and how the rest ends it
pub record AreFramesOf (input : List ℕ) (bodies : List (List ℕ))
    (end : Option FrameFault) : Type 0 where
  pub rest : List ℕ
  pub begins : BeginsWithFrames input bodies rest
  pub ends : FramesEnd rest end

-- ---- one frame, read from a source whose bytes may be known

-- the next frame of a source: one with this body, or none at the end
abbrev pub ReadsNext : Option (List ℕ) → Option (List ℕ) → Option (List ℕ) → Type 0
ReadsNext old new None = IsAtEnd old × IsAtEnd new
ReadsNext old new (Some body) = IsFrameBody body × Consumes old new (frame body)

-- the bytes that were read before a fault: the length alone, or less than a frame
abbrev pub StopsAt : FrameFault → List ℕ → Type 0
StopsAt TooLong part = (length part ≡ length_prefix) × (longest_body < declared_length part)
StopsAt Empty part = (length part ≡ length_prefix) × (declared_length part ≡ 0)
StopsAt CutShort part = (0 < length part) × IsPartOfFrame part
StopsAt Read part = IsPartOfFrame part
StopsAt NoMemory part = (length part ≡ length_prefix) × IsFrameLength (declared_length part)

-- no frame could be read, and these bytes were consumed; a frame that is cut short is cut by the
-- end of the input
pub record ReadsNone (old new : Option (List ℕ)) (fault : FrameFault) : Type 0 where
  pub part : List ℕ
  pub consumed : Consumes old new part
  pub stops : StopsAt fault part
  pub ends : fault ≡ CutShort → IsAtEnd new

-- the four bytes of a frame's length
pub record ConsumesLength (old new : Option (List ℕ)) (size : ℕ) : Type 0 where
  pub consumed : Consumes old new (to_be_bytes w32 size)
  pub legal : IsFrameLength size

-- the next frame has this length, and is longer than a buffer with this much room
pub record LacksRoom (room : ℕ) (old new : Option (List ℕ)) : Type 0 where
  pub size : ℕ
  pub consumed : ConsumesLength old new size
  pub lacks : room < length_prefix + size
