-- The numbers of the faults of a frame (this project's profile).
use Rattle.std.specs.Prelude.{ℕ, Bool, true, false, Result, Ok, Err}
use Rattle.dsn_text.specs.FaultCode.{cut_short_code, frame_empty_code, frame_too_long_code, no_memory_code, read_failed_code}
use Rattle.dsn_frame.specs.declared.frame_fault.FrameFault.{FrameFault}
use Rattle.dsn_frame.specs.declared.frame_fault.FrameFault.TheVariants.{NoMemory, TooLong, Empty, CutShort, Read}

abbrev pub frame_fault_code : FrameFault → ℕ
frame_fault_code NoMemory = no_memory_code
frame_fault_code TooLong = frame_too_long_code
frame_fault_code Empty = frame_empty_code
frame_fault_code CutShort = cut_short_code
frame_fault_code Read = read_failed_code

-- whether a result says that the source failed
abbrev pub source_failed : {T : Type 0} → Result T FrameFault → Bool
source_failed (Ok value) = false
source_failed (Err NoMemory) = false
source_failed (Err TooLong) = false
source_failed (Err Empty) = false
source_failed (Err CutShort) = false
source_failed (Err Read) = true
