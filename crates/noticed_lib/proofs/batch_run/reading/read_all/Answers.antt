use Rattle.std.proofs.Common.{rules, refl, sym}
use Rattle.noticed_lib.proofs.batch_run.ReadingLemmas.{heard-all, read-none}
use Rattle.noticed_lib.proofs.batch_run.reading.read_all.Goals as goal

pub returns : goal.returns
returns g c =
    let run = c.run_session.ensures (refl, refl, refl, read-none _ _ _ _ _ _) in
    heard-all _ _ _ _ _ _ _ _ _ _ _ _ run.frames run.bodies run.answers _ _
    (search (rules, sym run.left.0)) (search (rules, sym run.left.1)) (search (rules, sym run.left.2)) c.fault_of.ensures c.requires.accepted run.session run.left.3
