-- The numbers of the refusals of an answer's body (this project's profile).
use Rattle.std.specs.Prelude.{ℕ}
use Rattle.dsn_text.specs.FaultCode.{answer_value_code, extra_code, kind_code, short_code, version_code}
use Rattle.dsn_frame.specs.declared.bodies.answer_fault.AnswerFault.{AnswerFault}
use Rattle.dsn_frame.specs.declared.bodies.answer_fault.AnswerFault.TheVariants.{Version, Kind, Short, Extra, Value}

abbrev pub answer_fault_code : AnswerFault → ℕ
answer_fault_code Version = version_code
answer_fault_code Kind = kind_code
answer_fault_code Short = short_code
answer_fault_code Extra = extra_code
answer_fault_code Value = answer_value_code
