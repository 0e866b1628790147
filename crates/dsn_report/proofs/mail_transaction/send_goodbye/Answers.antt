use Rattle.dsn_report.proofs.LineWriterLemmas.{Took-then, settled-text}
use Rattle.dsn_report.proofs.mail_transaction.send_goodbye.Goals as goal

pub returns : goal.returns
returns g c = settled-text c.requires (Took-then c.greet_once.ensures c.write_goodbye.ensures) c.settle.ensures
