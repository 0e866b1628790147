-- The closure, and what it gives back, go from one thread to another.
use denote.Exit.{no}
use denote.Param.Send.{param_send, arg_send}
use mir.Syntax.{named}
use Rattle.dsn_crew.proofs.SendLemmas.{port_end_send}
use Rattle.dsn_crew.proofs.ServingSendLemmas.{serving_send}
use Rattle.dsn_crew.proofs.start_serving.start_thread.Goals as goal

pub spawn_with-requires-send-F : goal.spawn_with-requires-send-F
spawn_with-requires-send-F g c κs within =
    param_send 2 _ (arg_send _ no _ (serving_send _ (record { mir = named 6; lft = κs.1.1.1.1.1.1.0 }) (record { mir = named 7; lft = κs.1.1.1.1.1.1.1.0 }) g.row.R g.row.P g.row.G c.type_bounds.sync-R c.type_bounds.send-P c.type_bounds.sync-G))

pub spawn_with-requires-send-T : goal.spawn_with-requires-send-T
spawn_with-requires-send-T g c κs within = param_send 3 _ (arg_send _ no _ port_end_send)
