use Rattle.std.proofs.Common.{ap, rules}
use Rattle.dsn_frame.specs.declared.bodies.spoken.Spoken.TheVariants.{Refused}
use Rattle.dsn_frame.specs.Session.{Input}
use Rattle.noticed_lib.proofs.batch_run.RunLemmas.{answered-asked, answered-refused, end-after-refusal}
use Rattle.noticed_lib.proofs.batch_run.run.Run.answer.Goals as goal

pub returns-in-Ok-clause-answered : goal.returns-in-Ok-clause-answered
returns-in-Ok-clause-answered g c =
    answered-asked _ _ _ _ _ _ _ c.in-Ok.ensures.encoded c.requires.few c.ask.ensures.counted c.ask.ensures.limits c.ask.ensures.asked

pub returns-in-Err-clause-answered : goal.returns-in-Err-clause-answered
returns-in-Err-clause-answered g c =
    answered-refused _ _ _ _ _ _ _ (ap Refused c.code.ensures) (end-after-refusal c.in-Err.refusal _ (search rules)) (c.in-Err.ensures.taken Input _ _)
