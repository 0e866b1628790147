-- An outbox may be sent to another thread if what it writes to may be.
use denote.Exit.{no}
use denote.Param.Send.{param_send, arg_send}
use Rattle.dsn_report.proofs.SendLemmas.{outgoing_send}
use Rattle.dsn_crew_tests.proofs.crew.keepers.run_ports.Goals as goal

pub run_crew_over-requires-send-O : goal.run_crew_over-requires-send-O
run_crew_over-requires-send-O g c κs within = param_send 3 _ (arg_send _ no _ (outgoing_send _ c.type_bounds.send-W))
