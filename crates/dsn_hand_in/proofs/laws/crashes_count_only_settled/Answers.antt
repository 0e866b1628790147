use Rattle.dsn_hand_in.proofs.CrashLemmas.{leaves_settled}
use Rattle.dsn_hand_in.proofs.laws.crashes_count_only_settled.Goals as goal

pub returns : goal.returns
returns g c mark start now letters deeds unused marked course =
    leaves_settled g.S.Source g.S.Drain g.C.Connect.gives g.K.RefusedLetters.keeps g.D.Disk mark start unused marked letters deeds now course
