use Rattle.dsn_report.proofs.DotsLemmas.{dots_law}
use Rattle.dsn_report.proofs.laws.dots_law.Goals as goal

pub returns : goal.returns
returns c = dots_law c.args.site.now c.args.letter.now c.well_formed_law.ensures
