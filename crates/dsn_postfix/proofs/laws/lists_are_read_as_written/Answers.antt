use Rattle.dsn_postfix.proofs.ListLaws.{read_was_written, written_is_read}
use Rattle.dsn_postfix.proofs.laws.lists_are_read_as_written.Goals as goal

pub returns-clause-again : goal.returns-clause-again
returns-clause-again c bytes attributes rest begins = written_is_read bytes attributes rest begins

pub returns-clause-written : goal.returns-clause-written
returns-clause-written c bytes attributes rest e = read_was_written bytes attributes rest e
