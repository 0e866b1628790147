use Rattle.dsn_smtp.specs.HandIn.{fault_said}
use Rattle.dsn_smtp.proofs.PipeliningLemmas.{group_asked, group_unsaid}
use Rattle.dsn_smtp.proofs.pipelining.ask_group.Goals as goal

pub returns-in-Ok : goal.returns-in-Ok
returns-in-Ok g c = group_asked g.S.Source g.S.Drain _ _ _ c.args.text.now c.args.message.now _ _ (fault_said c.follow_up.result.1) c.in-Ok.ensures.said c.follow_up.ensures

pub returns-in-Err : goal.returns-in-Err
returns-in-Err g c = group_unsaid g.S.Source g.S.Drain _ _ c.args.text.now c.args.message.now _ _ c.in-Err.ensures.part
