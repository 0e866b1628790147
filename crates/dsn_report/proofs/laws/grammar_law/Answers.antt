use Rattle.dsn_report.proofs.GrammarLemmas.{grammar_law}
use Rattle.dsn_report.proofs.laws.grammar_law.Goals as goal

pub returns : goal.returns
returns c = grammar_law c.args.site.now c.args.letter.now c.well_formed_law.ensures
