use Rattle.std.proofs.Common.{arith, refl}
use Rattle.noticed_lib.proofs.batch_run.RunLemmas.{asked-next}
use Rattle.noticed_lib.proofs.batch_run.run.Run.ask.Goals as goal

pub returns-clause-asked : goal.returns-clause-asked
returns-clause-asked g c = λ limits site start requests stands.
    let made = c.apply-letter.ensures in
    rw c.replied.ensures (asked-next _ limits site start _ _ _ _ _ requests _ _ _ _ _ stands made.limits made.answer made.letter made.stands refl (omega arith) refl (c.hand_any.ensures site start) (cc))
