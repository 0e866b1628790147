-- Parts: the fields of an outcome as the program passes them by reference.
use Rattle.dsn_outcome.specs.Outcome.{Fields}
use Rattle.dsn_outcome.specs.declared.outcome_parts.Parts.{Parts}

-- the texts that the references point to, and the other fields
abbrev pub fields_of : Parts → Fields
fields_of parts = record {
  recipient = parts.recipient.now;
  recipient_type = parts.types.recipient.now;
  original = parts.original.now;
  original_type = parts.types.original.now;
  action = parts.action;
  status = parts.status.now;
  mta = parts.mta.now;
  diagnostic = parts.diagnostic.now;
  diagnostic_type = parts.types.diagnostic.now;
  reason = parts.reason.now;
  last_attempt = parts.last_attempt;
  retry_until = parts.retry_until;
  extensions = parts.extensions.now;
}
