use Rattle.dsn_report.proofs.GrammarLemmas.{empty_log_law}
use Rattle.dsn_report.proofs.laws.empty_log_law.Goals as goal

pub returns : goal.returns
returns c = empty_log_law
