-- Drafts: which of them are legal.
use Rattle.std.specs.Prelude.{◌≤◌, length, IsTrue}
use Rattle.dsn_outcome.specs.Draft.{Draft, is_count}
use Rattle.dsn_text.specs.Extension.{is_extension_text}
use Rattle.dsn_text.specs.Optional.{is_none_or}
use Rattle.dsn_text.specs.Stamp.{last_moment}
use Rattle.dsn_text.specs.Text.{is_address, is_envelope_id, longest_header}

-- a legal draft: each moment is at most the last one with a year of four digits; each text and the
-- expected number are within their bounds
pub record IsLegalDraft (draft : Draft) : Type 0 where
  pub moment_dated : draft.moment ≤ last_moment
  pub arrival_dated : draft.arrival ≤ last_moment
  pub return_path_legal : IsTrue (is_none_or is_address draft.return_path)
  pub envelope_id_legal : IsTrue (is_none_or is_envelope_id draft.envelope_id)
  pub header_short : length draft.header ≤ longest_header
  pub extensions_legal : IsTrue (is_extension_text draft.extensions)
  pub expected_counted : IsTrue (is_none_or is_count draft.expected)
