-- Frames: a length and a body, read in turn, are a frame or a part of one.
use Rattle.std.proofs.Common.{◌≡◌, ℕ, ◌+◌, ◌^◌, ◌<◌, ◌≤◌, List, ◌++◌, length, take, Option, Some, ap, subst, ◌∙◌, arith}
use Rattle.std.specs.Int.{w32, to_be_bytes}
use Rattle.std.specs.Io.KnownBytes.{Consumes}
use Rattle.std.proofs.KnownBytes.{Consumes-trans}
use Rattle.std.proofs.lemmas.List.{length-append, take_all}
use Rattle.std.proofs.lemmas.Nat.{from_be_bytes-to_be_bytes_4}
use Rattle.dsn_frame.specs.bodies.FrameBody.{IsFrameLength, IsFrameBody}
use Rattle.dsn_frame.specs.Frame.{declared_length, length_prefix, IsPartOfFrame, StopsAt, ReadsNext, ReadsNone, ConsumesLength}
use Rattle.dsn_frame.specs.inner.FrameBuffer.{MissesLength, LengthMissing, MissesBody, BodyMissing}
use Rattle.dsn_frame.specs.declared.frame_fault.FrameFault.{FrameFault}
use Rattle.dsn_frame.specs.declared.frame_fault.FrameFault.TheVariants.{NoMemory, TooLong, Empty, CutShort, Read}

-- a length in four bytes, whatever follows it, declares that length
pub declared : (size : ℕ) (rest : List ℕ) → size < 2 ^ 32 → declared_length (to_be_bytes w32 size ++ rest) ≡ size
declared size rest fits = from_be_bytes-to_be_bytes_4 size fits

pub length_with : (size : ℕ) (rest : List ℕ) → length (to_be_bytes w32 size ++ rest) ≡ 4 + length rest
length_with size rest = length-append (to_be_bytes w32 size) rest

-- four bytes that were read are the encoding of their number
pub length_read : (a b : Option (List ℕ)) (bytes : List ℕ) (count size : ℕ) → length bytes ≡ 4 → 4 ≤ count → bytes ≡ to_be_bytes w32 size
    → Consumes a b (take count bytes) → IsFrameLength size → ConsumesLength a b size
length_read a b bytes count size four enough written consumed legal =
    let all : take count bytes ≡ bytes = take_all count bytes (omega arith) in
    record { consumed = subst (λ (text : List ℕ). Consumes a b text) (all ∙ written) consumed; legal = legal }

-- a length and less than its body are a part of a frame
part_of_frame : (size : ℕ) (part : List ℕ) → IsFrameLength size → length part < size → IsPartOfFrame (to_be_bytes w32 size ++ part)
part_of_frame size part legal less _ =
    let same = declared size part (omega arith) in
    rw same (legal, omega (arith, length_with size part))

-- a length and then a body of that length are a frame
pub frame_read : (a b c : Option (List ℕ)) (size : ℕ) (body : List ℕ) → ConsumesLength a b size → length body ≡ size → Consumes b c body → ReadsNext a c (Some body)
frame_read a b c size body head same consumed =
    let legal : IsFrameBody body = rw same head.legal in
    let first : Consumes a b (to_be_bytes w32 (length body)) = rw same head.consumed in
    (legal, Consumes-trans a b c (to_be_bytes w32 (length body)) body first consumed)

-- less than a frame's length is a part of a frame
part_of_length : (part : List ℕ) → length part < length_prefix → IsPartOfFrame part
part_of_length part less whole = absurd (omega arith)

stops_in_length : (fault : FrameFault) (part : List ℕ) → MissesLength fault part → StopsAt fault part
stops_in_length NoMemory part misses = absurd misses
stops_in_length TooLong part misses = misses
stops_in_length Empty part misses = misses
stops_in_length CutShort part misses = (misses.0, part_of_length part misses.1)
stops_in_length Read part misses = part_of_length part misses

-- without a valid length there is no frame
pub length_missed : (a b : Option (List ℕ)) (fault : FrameFault) → LengthMissing a b fault → ReadsNone a b fault
length_missed a b fault missing = record {
  part = missing.part;
  consumed = missing.consumed;
  stops = stops_in_length fault missing.part missing.misses;
  ends = missing.ends;
}

stops_in_body : (fault : FrameFault) (size : ℕ) (part : List ℕ) → IsFrameLength size → MissesBody fault size part → StopsAt fault (to_be_bytes w32 size ++ part)
stops_in_body NoMemory size part legal misses =
    let same = declared size part (omega arith) in
    (omega (arith, length_with size part, ap length misses), rw same legal)
stops_in_body TooLong size part legal misses = absurd misses
stops_in_body Empty size part legal misses = absurd misses
stops_in_body CutShort size part legal misses = (omega (arith, length_with size part), part_of_frame size part legal misses)
stops_in_body Read size part legal misses = part_of_frame size part legal misses

-- a length and then a part of its body are a part of a frame
pub frame_missed : (a b c : Option (List ℕ)) (size : ℕ) (fault : FrameFault) → ConsumesLength a b size → BodyMissing b c size fault → ReadsNone a c fault
frame_missed a b c size fault head missing = record {
  part = to_be_bytes w32 size ++ missing.part;
  consumed = Consumes-trans a b c (to_be_bytes w32 size) missing.part head.consumed missing.consumed;
  stops = stops_in_body fault size missing.part head.legal missing.misses;
  ends = missing.ends;
}
