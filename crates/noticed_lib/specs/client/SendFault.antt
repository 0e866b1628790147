-- Faults of a send: their numbers, and which device failed (this project's profile).
use Rattle.std.specs.Prelude.{ℕ, Bool, true, false, List, Option, Some, None, Err}
use Rattle.dsn_text.specs.FaultCode.{connection_write_code, notes_write_code, out_of_turn_code, too_many_frames_code, unanswered_code}
use Rattle.dsn_frame.specs.bodies.AnswerFault.{answer_fault_code}
use Rattle.dsn_frame.specs.FrameFault.{frame_fault_code, source_failed}
use Rattle.noticed_lib.specs.declared.client.send_fault.SendFault.{SendFault}
use Rattle.noticed_lib.specs.declared.client.send_fault.SendFault.TheVariants.{Input, TooMany, NotSent, Unanswered, AnswerFrame, Answer, OutOfTurn, NotesLost}

abbrev pub send_fault_code : SendFault → ℕ
send_fault_code (Input fault) = frame_fault_code fault
send_fault_code TooMany = too_many_frames_code
send_fault_code NotSent = connection_write_code
send_fault_code Unanswered = unanswered_code
send_fault_code (AnswerFrame fault) = frame_fault_code fault
send_fault_code (Answer fault) = answer_fault_code fault
send_fault_code OutOfTurn = out_of_turn_code
send_fault_code NotesLost = notes_write_code

-- whether the input failed
abbrev pub is_input_failed : Option SendFault → Bool
is_input_failed None = false
is_input_failed (Some (Input fault)) = source_failed {T = Option (List ℕ)} (Err fault)
is_input_failed (Some TooMany) = false
is_input_failed (Some NotSent) = false
is_input_failed (Some Unanswered) = false
is_input_failed (Some (AnswerFrame fault)) = false
is_input_failed (Some (Answer fault)) = false
is_input_failed (Some OutOfTurn) = false
is_input_failed (Some NotesLost) = false

-- whether the connection failed: at a write, or at a read
abbrev pub is_connection_failed : Option SendFault → Bool
is_connection_failed None = false
is_connection_failed (Some (Input fault)) = false
is_connection_failed (Some TooMany) = false
is_connection_failed (Some NotSent) = true
is_connection_failed (Some Unanswered) = false
is_connection_failed (Some (AnswerFrame fault)) = source_failed {T = Option (List ℕ)} (Err fault)
is_connection_failed (Some (Answer fault)) = false
is_connection_failed (Some OutOfTurn) = false
is_connection_failed (Some NotesLost) = false

-- whether the notes failed
abbrev pub is_notes_failed : Option SendFault → Bool
is_notes_failed None = false
is_notes_failed (Some (Input fault)) = false
is_notes_failed (Some TooMany) = false
is_notes_failed (Some NotSent) = false
is_notes_failed (Some Unanswered) = false
is_notes_failed (Some (AnswerFrame fault)) = false
is_notes_failed (Some (Answer fault)) = false
is_notes_failed (Some OutOfTurn) = false
is_notes_failed (Some NotesLost) = true
