-- The numbers of the refusals of a body (this project's profile).
use Rattle.std.specs.Prelude.{ℕ}
use Rattle.dsn_text.specs.FaultCode.{envelope_id_code, returned_code, wording_code, extension_code, extra_code, kind_code, long_header_code, moment_code, no_memory_code, queue_id_code, return_path_code, service_code, short_code, version_code}
use Rattle.dsn_outcome.specs.OutcomeFault.{outcome_fault_code}
use Rattle.dsn_outcome.specs.declared.draft_fault.DraftFault.{DraftFault}
use Rattle.dsn_outcome.specs.declared.draft_fault.DraftFault.TheVariants as draft
use Rattle.dsn_outcome.specs.declared.outcome_fault.OutcomeFault.{OutcomeFault}
use Rattle.dsn_outcome.specs.declared.outcome_fault.OutcomeFault.TheVariants as outcome
use Rattle.dsn_frame.specs.declared.bodies.body_fault.BodyFault.{BodyFault}
use Rattle.dsn_frame.specs.declared.bodies.body_fault.BodyFault.TheVariants.{Version, Kind, Short, Extra, Service, QueueId, Moment, Outcome, Header, ReturnPath, EnvelopeId, Returned, Wording, Extensions, NoMemory}

abbrev pub body_fault_code : BodyFault → ℕ
body_fault_code Version = version_code
body_fault_code Kind = kind_code
body_fault_code Short = short_code
body_fault_code Extra = extra_code
body_fault_code Service = service_code
body_fault_code QueueId = queue_id_code
body_fault_code Moment = moment_code
body_fault_code (Outcome fault) = outcome_fault_code fault
body_fault_code Header = long_header_code
body_fault_code ReturnPath = return_path_code
body_fault_code EnvelopeId = envelope_id_code
body_fault_code Returned = returned_code
body_fault_code Wording = wording_code
body_fault_code Extensions = extension_code
body_fault_code NoMemory = no_memory_code

-- the refusal of a body whose outcome is refused
abbrev pub outcome_refusal : OutcomeFault → BodyFault
outcome_refusal outcome.NoMemory = NoMemory
outcome_refusal fault = Outcome fault

-- the refusal of a body whose draft is refused
abbrev pub draft_refusal : DraftFault → BodyFault
draft_refusal draft.Header = Header
draft_refusal draft.ReturnPath = ReturnPath
draft_refusal draft.EnvelopeId = EnvelopeId
draft_refusal draft.Returned = Returned
draft_refusal draft.Wording = Wording
draft_refusal draft.Extensions = Extensions
draft_refusal draft.NoMemory = NoMemory
