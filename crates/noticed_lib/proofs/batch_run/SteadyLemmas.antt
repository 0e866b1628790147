-- Steady: a device that stays steady.
use Rattle.std.proofs.Common.{refl, ◌∙◌}
use Rattle.dsn_device.specs.declared.drain.Drain.{Ghosts as Drain}
use Rattle.dsn_report.specs.Outgoing.{StaysSteady}

pub steady-then : {N : Type 0} (drain : Drain N) (x y z : N) → StaysSteady drain x y → StaysSteady drain y z → StaysSteady drain x z
steady-then drain x y z first second steady =
    let one = first steady in
    let two = second one.0 in
    (two.0, two.1 ∙ one.1)

pub steady-none : {N : Type 0} (drain : Drain N) (x : N) → StaysSteady drain x x
steady-none drain x steady = (steady, refl)
