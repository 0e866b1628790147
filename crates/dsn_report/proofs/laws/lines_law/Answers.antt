use Rattle.dsn_report.proofs.LinesLemmas.{header-returned-legal, lines_law}
use Rattle.dsn_report.proofs.laws.lines_law.Goals as goal

pub returns-clause-lines : goal.returns-clause-lines
returns-clause-lines c = lines_law c.args.site.now c.args.letter.now c.well_formed_law.ensures

pub returns-clause-header : goal.returns-clause-header
returns-clause-header c = header-returned-legal c.args.letter.now.draft
