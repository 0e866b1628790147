use Rattle.dsn_report.proofs.LineWriterLemmas.{Took-then, settled-text}
use Rattle.dsn_report.proofs.mail_transaction.send_letter.Goals as goal

pub returns-clause-sent : goal.returns-clause-sent
returns-clause-sent g c = settled-text c.requires.none_pending (Took-then c.greet_once.ensures c.write_transaction.ensures) c.settle.ensures
