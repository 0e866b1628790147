use Rattle.std.proofs.Common.{rules}
use Rattle.dsn_report.proofs.LineWriterLemmas.{Wrote-dotted}
use Rattle.dsn_report.proofs.line_writer.LineWriter.dotted_line.Goals as goal

pub returns : goal.returns
returns g c = λ line split. Wrote-dotted line c.args.dotted.now (search rules) split c.piece.ensures
