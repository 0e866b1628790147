-- The invariants of a site and of a letter together: each text is legal, and each moment has a
-- date.
use Rattle.std.specs.Prelude.{◌<◌, ◌≤◌, ◌^◌, length, All, IsTrue}
use Rattle.dsn_outcome.specs.Letter.{Letter, IsLetter}
use Rattle.dsn_outcome.specs.Outcome.{IsLegalOutcome}
use Rattle.dsn_text.specs.Extension.{is_extension_text}
use Rattle.dsn_text.specs.Optional.{is_none_or}
use Rattle.dsn_text.specs.Stamp.{last_moment}
use Rattle.dsn_text.specs.Text.{is_address, is_envelope_id, is_queue_id, longest_header}
use Rattle.dsn_report.specs.Site.{Site, IsSite}

pub record IsWellFormed (site : Site) (letter : Letter) : Type 0 where
  pub site_legal : IsSite site
  pub id_legal : IsTrue (is_queue_id letter.key.id)
  pub moment_dated : letter.draft.moment ≤ last_moment
  pub arrival_dated : letter.draft.arrival ≤ last_moment
  pub path_legal : IsTrue (is_none_or is_address letter.draft.return_path)
  pub envelope_id_legal : IsTrue (is_none_or is_envelope_id letter.draft.envelope_id)
  pub serial_fits : letter.serial < 2 ^ 64
  pub header_short : length letter.draft.header ≤ longest_header
  pub extensions_legal : IsTrue (is_extension_text letter.draft.extensions)
  pub outcomes_legal : All IsLegalOutcome letter.outcomes
  pub sealed : IsLetter letter
