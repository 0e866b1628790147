-- The room of a buffer after a fault.
use Rattle.std.proofs.Common.{◌≡◌, ◌≢◌, ℕ, ◌+◌, ◌^◌, ◌<◌, List, ◌++◌, length, Option, refl, arith}
use Rattle.std.specs.Int.{w32, to_be_bytes}
use Rattle.std.proofs.KnownBytes.{Consumes-trans}
use Rattle.dsn_frame.specs.Frame.{length_prefix, ConsumesLength}
use Rattle.dsn_frame.specs.inner.FrameBuffer.{MissesLength, LengthMissing, MissesBody, BodyMissing}
use Rattle.dsn_frame.specs.FrameBuffer.{RoomFor, RoomAfterPart, RoomAtFault, LeavesRoom}
use Rattle.dsn_frame.specs.declared.frame_fault.FrameFault.{FrameFault}
use Rattle.dsn_frame.specs.declared.frame_fault.FrameFault.TheVariants.{NoMemory, TooLong, Empty, CutShort, Read}
use Rattle.dsn_frame.proofs.FrameLaws.{declared, length_with}

no_length : (part : List ℕ) (room : ℕ) → length part < length_prefix → RoomAfterPart part room room
no_length part room less = record { no_length = λ _. refl; declared = λ whole. absurd (omega arith) }

room_without : (fault : FrameFault) (part : List ℕ) (room : ℕ) → MissesLength fault part → RoomAtFault fault part room room
room_without NoMemory part room misses = absurd misses
room_without TooLong part room misses = refl
room_without Empty part room misses = refl
room_without CutShort part room misses = no_length part room misses.1
room_without Read part room misses = no_length part room misses

-- without a length the room is unchanged
pub room_of_none : (a b : Option (List ℕ)) (fault : FrameFault) (room : ℕ) → LengthMissing a b fault → LeavesRoom a b fault room room
room_of_none a b fault room missing =
    record { part = missing.part; consumed = missing.consumed; room = room_without fault missing.part room missing.misses }

-- if memory for the frame is refused, the room is unchanged too
pub room_refused : (a b : Option (List ℕ)) (size old new : ℕ) → ConsumesLength a b size → new ≡ old → LeavesRoom a b NoMemory old new
room_refused a b size old new head same = record { part = to_be_bytes w32 size; consumed = head.consumed; room = same }

-- a length and a part of its body, with room for the frame
after_part : (size old new : ℕ) (part : List ℕ) → size < 2 ^ 32 → RoomFor (length_prefix + size) old new → RoomAfterPart (to_be_bytes w32 size ++ part) old new
after_part size old new part fits grown = record {
  no_length = λ less. absurd (omega (arith, length_with size part));
  declared = λ _. rw (declared size part fits) grown;
}

room_with : (fault : FrameFault) (size old new : ℕ) (part : List ℕ) → size < 2 ^ 32 → fault ≢ NoMemory → MissesBody fault size part
    → RoomFor (length_prefix + size) old new → RoomAtFault fault (to_be_bytes w32 size ++ part) old new
room_with NoMemory size old new part fits grows misses grown = absurd (grows refl)
room_with TooLong size old new part fits grows misses grown = absurd misses
room_with Empty size old new part fits grows misses grown = absurd misses
room_with CutShort size old new part fits grows misses grown = after_part size old new part fits grown
room_with Read size old new part fits grows misses grown = after_part size old new part fits grown

-- if the body was not read whole, there is room for it, and reading it keeps that room
pub room_of_part : (a b c : Option (List ℕ)) (size old grown new : ℕ) (fault : FrameFault) → ConsumesLength a b size → fault ≢ NoMemory → BodyMissing b c size fault
    → RoomFor (length_prefix + size) old grown → new ≡ grown → LeavesRoom a c fault old new
room_of_part a b c size old grown new fault head grows missing room same = record {
  part = to_be_bytes w32 size ++ missing.part;
  consumed = Consumes-trans a b c (to_be_bytes w32 size) missing.part head.consumed missing.consumed;
  room = rw same (room_with fault size old grown missing.part (omega (arith, head.legal.1)) grows missing.misses room);
}
