-- Parts: the fields of a draft as the program passes them by reference.
use Rattle.dsn_outcome.specs.Draft.{DraftFields}
use Rattle.dsn_outcome.specs.declared.draft_parts.DraftParts.{DraftParts}

-- the texts that the references point to, and the other fields
abbrev pub draft_fields_of : DraftParts → DraftFields
draft_fields_of parts = record {
  return_path = parts.return_path.now;
  envelope_id = parts.envelope_id.now;
  header = parts.header.now;
  returned = parts.returned;
  wording = parts.wording;
  extensions = parts.extensions.now;
}
