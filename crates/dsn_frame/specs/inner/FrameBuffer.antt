-- Frames: how bodies follow one another in an input, and how an input ends (this project's
use Rattle.std.specs.Prelude.{◌≡◌, ℕ, List, drop, ◌<◌, length, Option, Some, None, [], take, ◌≤◌}
use Rattle.std.specs.Io.KnownBytes.{Consumes, IsAtEnd}
use Rattle.dsn_frame.specs.Frame.{length_prefix, declared_length, ConsumesLength}
use Rattle.dsn_frame.specs.bodies.FrameBody.{frame, IsFrameBody, longest_body}
use Rattle.dsn_frame.specs.declared.frame_fault.FrameFault.TheVariants.{NoMemory, TooLong, Empty, CutShort, Read}
use Rattle.dsn_frame.specs.declared.frame_fault.FrameFault.{FrameFault}

-- bytes that are a frame, with the body after the first four
pub record IsHeld (bytes : List ℕ) : Type 0 where
  pub legal : IsFrameBody (drop length_prefix bytes)
  pub whole : bytes ≡ frame (drop length_prefix bytes)

-- why a frame's length could not be read, or isn't valid, given the bytes that were read
abbrev pub MissesLength : FrameFault → List ℕ → Type 0
MissesLength TooLong part = (length part ≡ length_prefix) × (longest_body < declared_length part)
MissesLength Empty part = (length part ≡ length_prefix) × (declared_length part ≡ 0)
MissesLength CutShort part = (0 < length part) × (length part < length_prefix)
MissesLength Read part = length part < length_prefix
MissesLength NoMemory part = ⊥

-- the length of a frame could not be read, and these bytes were consumed
pub record LengthMissing (old new : Option (List ℕ)) (fault : FrameFault) : Type 0 where
  pub part : List ℕ
  pub consumed : Consumes old new part
  pub misses : MissesLength fault part
  pub ends : fault ≡ CutShort → IsAtEnd new

-- the length of the next frame, or none at the end
abbrev pub ReadsLength : Option (List ℕ) → Option (List ℕ) → Option ℕ → Type 0
ReadsLength old new None = IsAtEnd old × IsAtEnd new
ReadsLength old new (Some size) = ConsumesLength old new size

-- why a body of this size could not be read, given the part of it that was read
abbrev pub MissesBody : FrameFault → ℕ → List ℕ → Type 0
MissesBody NoMemory size part = part ≡ []
MissesBody CutShort size part = length part < size
MissesBody Read size part = length part < size
MissesBody TooLong size part = ⊥
MissesBody Empty size part = ⊥

pub record BodyMissing (old new : Option (List ℕ)) (size : ℕ) (fault : FrameFault) : Type 0 where
  pub part : List ℕ
  pub consumed : Consumes old new part
  pub misses : MissesBody fault size part
  pub ends : fault ≡ CutShort → IsAtEnd new

-- the body of the frame of this length at the front of these bytes
abbrev pub body_at_front : List ℕ → Option ℕ → Option (List ℕ)
body_at_front bytes None = None
body_at_front bytes (Some whole) = Some (drop length_prefix (take whole bytes))

-- the first `whole` of these bytes are a frame
abbrev pub IsAtFront : List ℕ → Option ℕ → Type 0
IsAtFront bytes None = Unit {0}
IsAtFront bytes (Some whole) = (whole ≤ length bytes) × IsHeld (take whole bytes)
