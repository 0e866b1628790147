-- A buffer for frames: the frame that it holds, and its room.
use Rattle.std.specs.Prelude.{◌≡◌, ℕ, ◌+◌, ◌*◌, ◌<◌, ◌≤◌, min, max, List, length, Option, Some, None}
use Rattle.std.specs.Io.KnownBytes.{Consumes}
use Rattle.dsn_frame.specs.Frame.{declared_length, length_prefix, longest_frame}
use Rattle.dsn_frame.specs.declared.frame_fault.FrameFault.{FrameFault}
use Rattle.dsn_frame.specs.declared.frame_fault.FrameFault.TheVariants.{NoMemory, TooLong, Empty, CutShort, Read}

-- a buffer in contracts: its room in bytes, and the body of the frame that it holds, if any
pub record Buffered : Type 0 where
  pub room : ℕ
  pub held : Option (List ℕ)

-- room that was less than `whole` bytes and has grown: to twice what it was, or to `whole` if that
-- is more, and at most to the longest frame
pub record HasGrown (whole old new : ℕ) : Type 0 where
  pub enough : whole ≤ new
  pub doubled : min (2 * old) longest_frame ≤ new
  pub needed : new ≤ max (2 * old) whole
  pub bounded : new ≤ longest_frame

-- the room to read a frame of `whole` bytes: unchanged if that was enough
pub record RoomFor (whole old new : ℕ) : Type 0 where
  pub fits : whole ≤ old → new ≡ old
  pub grows : old < whole → HasGrown whole old new

-- the room after a frame with this body was read, or at the end of the input
abbrev pub RoomAfter : Option (List ℕ) → ℕ → ℕ → Type 0
RoomAfter None old new = new ≡ old
RoomAfter (Some body) old new = RoomFor (length_prefix + length body) old new

-- the room after less than a frame was read: that for the frame, if its whole length was read
pub record RoomAfterPart (part : List ℕ) (old new : ℕ) : Type 0 where
  pub no_length : length part < length_prefix → new ≡ old
  pub declared : length_prefix ≤ length part → RoomFor (length_prefix + declared_length part) old new

-- the room after a fault that follows these bytes
abbrev pub RoomAtFault : FrameFault → List ℕ → ℕ → ℕ → Type 0
RoomAtFault NoMemory part old new = new ≡ old
RoomAtFault TooLong part old new = new ≡ old
RoomAtFault Empty part old new = new ≡ old
RoomAtFault CutShort part old new = RoomAfterPart part old new
RoomAtFault Read part old new = RoomAfterPart part old new

-- the room of a buffer after a fault of a source whose bytes may be known
pub record LeavesRoom (source_old source_new : Option (List ℕ)) (fault : FrameFault)
    (old new : ℕ) : Type 0 where
  pub part : List ℕ
  pub consumed : Consumes source_old source_new part
  pub room : RoomAtFault fault part old new
