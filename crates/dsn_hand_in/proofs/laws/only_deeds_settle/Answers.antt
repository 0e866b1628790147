use Rattle.std.proofs.Common.{refl}
use Rattle.dsn_hand_in.proofs.CrashLemmas.{deed_meant}
use Rattle.dsn_hand_in.proofs.SettledLemmas.{settled_once, unsettled}
use Rattle.dsn_hand_in.proofs.laws.only_deeds_settle.Goals as goal

pub returns-clause-settled : goal.returns-clause-settled
returns-clause-settled g c mark start now letters deeds unused course =
    settled_once g.S.Source g.S.Drain g.C.Connect.gives g.K.RefusedLetters.keeps g.M.Marks (g.M.Marks.has_settled start.parts.marks) mark start unused (λ serial. refl) letters deeds now course

pub returns-clause-waiting : goal.returns-clause-waiting
returns-clause-waiting g c mark start now letters deeds unused course =
    unsettled g.S.Source g.S.Drain g.C.Connect.gives g.K.RefusedLetters.keeps g.M.Marks (g.M.Marks.has_settled start.parts.marks) mark start unused (λ serial. refl) letters deeds now course

pub returns-clause-meant : goal.returns-clause-meant
returns-clause-meant g c deed = deed_meant g.S.Source g.S.Drain g.C.Connect.gives g.K.RefusedLetters.keeps g.M.Marks deed
