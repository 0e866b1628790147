use Rattle.dsn_report.proofs.DotsLemmas.{outbox_law}
use Rattle.dsn_report.proofs.laws.outbox_law.Goals as goal

pub returns : goal.returns
returns c = outbox_law c.args.site.now c.args.letters.now c.legal_site.ensures c.well_formed_letters.ensures
