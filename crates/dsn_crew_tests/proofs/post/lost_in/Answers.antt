-- An outbox may be sent to another thread if what it writes to may be.
use denote.Exit.{no}
use denote.Param.Send.{param_send, arg_send}
use Rattle.dsn_report.proofs.SendLemmas.{outgoing_send}
use Rattle.dsn_crew_tests.proofs.post.lost_in.Goals as goal

pub start_posting-requires-send-O : goal.start_posting-requires-send-O
start_posting-requires-send-O g c κs within = param_send 2 _ (arg_send _ no _ (outgoing_send _ c.type_bounds.send-W))
