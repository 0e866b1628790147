-- Faults that end a session: their numbers, and whose call failed (this project's profile).
use Rattle.std.specs.Prelude.{ℕ, Bool, true, false, ◌||◌, List, Option, Some, None, Err}
use Rattle.dsn_text.specs.FaultCode.{lane_lost_code, out_of_turn_code, too_many_frames_code}
use Rattle.dsn_frame.specs.FrameFault.{frame_fault_code, source_failed}
use Rattle.dsn_frame.specs.Session.{Medium, unwritten_code}
use Rattle.dsn_frame.specs.declared.frame_fault.FrameFault.{FrameFault}
use Rattle.dsn_frame.specs.declared.serve_fault.ServeFault.{ServeFault}
use Rattle.dsn_frame.specs.declared.serve_fault.ServeFault.TheVariants.{Frame, WriteBack, Number, Frames, Lost}

abbrev pub serve_fault_code : Medium → ServeFault → ℕ
serve_fault_code medium (Frame fault) = frame_fault_code fault
serve_fault_code medium WriteBack = unwritten_code medium
serve_fault_code medium Number = out_of_turn_code
serve_fault_code medium Frames = too_many_frames_code
serve_fault_code medium Lost = lane_lost_code

-- the number of the session's end, if it had a fault
abbrev pub session_end : Medium → Option ServeFault → Option ℕ
session_end medium None = None
session_end medium (Some fault) = Some (serve_fault_code medium fault)

-- whether the collector was gone
abbrev pub is_lost : Option ServeFault → Bool
is_lost (Some Lost) = true
is_lost _ = false

-- whether the last answer could not be written
abbrev pub is_unwritten : Option ServeFault → Bool
is_unwritten (Some WriteBack) = true
is_unwritten _ = false

-- whether a read failed
abbrev pub is_read_failed : Option ServeFault → Bool
is_read_failed (Some (Frame fault)) = source_failed {T = Option (List ℕ)} (Err fault)
is_read_failed _ = false

-- whether a stream failed, in a read or in a write
abbrev pub is_stream_failed : Option ServeFault → Bool
is_stream_failed fault = is_unwritten fault || is_read_failed fault

-- the fault after an answer, given whether it was written, and whether the session is over then
abbrev pub turn_fault : Bool → Bool → Option ServeFault
turn_fault false over = Some WriteBack
turn_fault true true = Some Number
turn_fault true false = None

-- the fault of a session after an attempt to read the next frame
abbrev pub read_fault : Option FrameFault → Option ServeFault
read_fault None = None
read_fault (Some fault) = Some (Frame fault)
