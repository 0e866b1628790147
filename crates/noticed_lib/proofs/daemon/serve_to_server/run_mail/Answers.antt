use denote.Exit.{no}
use denote.Param.Send.{param_send, arg_send}
use mir.Syntax.{erased}
use Rattle.std.proofs.Common.{[]}
use Rattle.dsn_hand_in.specs.MailOutlet.{begins}
use Rattle.dsn_hand_in.proofs.SendLemmas.{mail_outlet_send, mail_parts_send}
use Rattle.noticed_lib.proofs.daemon.serve_to_server.run_mail.Goals as goal

pub run_over-requires-clause-posted : goal.run_over-requires-clause-posted
run_over-requires-clause-posted g c κs within = (c.args.start.outlet, c.args.first.items, c.hand_first-outlet.ensures c.args.start.outlet [] (record { deeds = []; course = begins }))

pub run_over-requires-send-O : goal.run_over-requires-send-O
run_over-requires-send-O g c κs within = param_send 2 _ (arg_send _ no _ (mail_outlet_send (record { mir = erased; lft = _ }) _ _ _ _ _ _ c.type_bounds.send-S c.type_bounds.send-C c.type_bounds.send-K c.type_bounds.send-M (record { mir = erased; lft = _ }) _ _ c.type_bounds.send-W c.type_bounds.sync-Q))

pub run_over-requires-send-O-Left : goal.run_over-requires-send-O-Left
run_over-requires-send-O-Left g c κs within = param_send 9 _ (arg_send _ no _ (mail_parts_send _ _ _ _ _ _ _ c.type_bounds.send-S c.type_bounds.send-C c.type_bounds.send-K c.type_bounds.send-M))

pub returns : goal.returns
returns g c = (c.hand_first-outlet.result, (c.hand_first-outlet.ensures c.args.start.outlet [] (record { deeds = []; course = begins }), c.run_over.ensures))

pub hand_first-outlet-requires-send-O-Left : goal.hand_first-outlet-requires-send-O-Left
hand_first-outlet-requires-send-O-Left g c κs within = param_send 1 _ (arg_send _ no _ (mail_parts_send _ _ _ _ _ _ _ c.type_bounds.send-S c.type_bounds.send-C c.type_bounds.send-K c.type_bounds.send-M))
