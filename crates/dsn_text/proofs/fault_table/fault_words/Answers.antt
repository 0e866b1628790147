use Rattle.dsn_text.specs.FaultWords.{fault_words}
use Rattle.dsn_text.proofs.FaultWordsLemmas.{fault_words-short}
use Rattle.dsn_text.proofs.fault_table.fault_words.Goals as goal

pub returns-clause-same : goal.returns-clause-same
unfolding fault_words
returns-clause-same c = c.words_of_code.ensures

pub returns-clause-short : goal.returns-clause-short
unfolding fault_words
returns-clause-short c = rw (c.words_of_code.ensures) (fault_words-short c.args.code)
