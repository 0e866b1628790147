use Rattle.dsn_report.proofs.DotsLemmas.{data_law}
use Rattle.dsn_report.proofs.laws.data_law.Goals as goal

pub returns : goal.returns
returns c = data_law c.args.site.now c.args.letter.now c.well_formed_law.ensures
