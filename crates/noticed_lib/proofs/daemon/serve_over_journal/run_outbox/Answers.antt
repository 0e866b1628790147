use denote.Exit.{no}
use denote.Param.Send.{param_send, arg_send}
use Rattle.std.proofs.Common.{ap, length}
use Rattle.dsn_report.proofs.SendLemmas.{outgoing_send}
use Rattle.dsn_report.specs.Outgoing.{begun}
use Rattle.noticed_lib.proofs.daemon.serve_over_journal.run_outbox.Goals as goal

pub run_over-requires-clause-posted : goal.run_over-requires-clause-posted
run_over-requires-clause-posted g c κs within = (begun c.requires.posted.0 c.requires.posted.1, c.requires.posted.2, c.requires.posted.3)

pub run_over-requires-clause-all_sent : goal.run_over-requires-clause-all_sent
run_over-requires-clause-all_sent g c κs within = ap length c.requires.all_sent

pub run_over-requires-send-O : goal.run_over-requires-send-O
run_over-requires-send-O g c κs within = param_send 2 _ (arg_send _ no _ (outgoing_send _ c.type_bounds.send-W))
