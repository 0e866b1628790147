use Rattle.dsn_report.proofs.DivisionLemmas.{division_law}
use Rattle.dsn_report.proofs.laws.division_law.Goals as goal

pub returns : goal.returns
returns c = division_law c.args.site.now c.args.letter.now c.well_formed_law.ensures
