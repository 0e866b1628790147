use Rattle.std.proofs.Common.{refl}
use Rattle.dsn_report.proofs.LineWriterLemmas.{Took-written}
use Rattle.dsn_report.proofs.line_writer.LineWriter.write_through.Goals as goal

pub returns : goal.returns
returns g c = Took-written c.settle.ensures c.write.ensures refl refl
