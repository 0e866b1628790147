-- The numbers of the faults of an outcome (this project's profile).
use Rattle.std.specs.Prelude.{ℕ}
use Rattle.dsn_text.specs.FaultCode.{bad_action_code, bad_mta_code, bad_original_code, bad_recipient_code, bad_status_code, long_diagnostic_code, long_reason_code, no_memory_code, recipient_type_code, original_type_code, diagnostic_type_code, extension_code, retry_until_code, status_class_code}
use Rattle.dsn_outcome.specs.declared.outcome_fault.OutcomeFault.{OutcomeFault}
use Rattle.dsn_outcome.specs.declared.outcome_fault.OutcomeFault.TheVariants.{BadRecipient, BadOriginal, BadAction, BadStatus, StatusClass, BadMta, LongDiagnostic, LongReason, RetryUntil, RecipientType, OriginalType, DiagnosticType, Extension, NoMemory}

abbrev pub outcome_fault_code : OutcomeFault → ℕ
outcome_fault_code BadRecipient = bad_recipient_code
outcome_fault_code BadOriginal = bad_original_code
outcome_fault_code BadAction = bad_action_code
outcome_fault_code BadStatus = bad_status_code
outcome_fault_code StatusClass = status_class_code
outcome_fault_code BadMta = bad_mta_code
outcome_fault_code LongDiagnostic = long_diagnostic_code
outcome_fault_code LongReason = long_reason_code
outcome_fault_code RetryUntil = retry_until_code
outcome_fault_code RecipientType = recipient_type_code
outcome_fault_code OriginalType = original_type_code
outcome_fault_code DiagnosticType = diagnostic_type_code
outcome_fault_code Extension = extension_code
outcome_fault_code NoMemory = no_memory_code
