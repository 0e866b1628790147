use Rattle.dsn_text.proofs.ExtensionLemmas.{lines_ended_by_lf-nil}
use Rattle.dsn_smtp.proofs.extensions.offering_lines.Goals as goal

pub returns-in-None : goal.returns-in-None
returns-in-None c = rw c.in-None.ensures.lines lines_ended_by_lf-nil
