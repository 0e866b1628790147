use Rattle.std.proofs.Common.{◌≡◌, pos, ◌/◌, ◌∙◌, arith, w64, to_z}
use Rattle.std.proofs.lemmas.Int.{to_z_pos}
use Rattle.jiff_core.specs.Date.{epoch_day}
use Rattle.jiff_core.proofs.CalendarLemmas.{weekday_number-parts}
use Rattle.dsn_text.proofs.StampLemmas.{civil_after-epoch_day}
use Rattle.dsn_text.proofs.stamp.Stamp.civil_date.Goals as goal

number : (c : goal.After-from_plain) → epoch_day c.from_plain.result ≡ pos (c.args.self / 86400)
number c =
    let day : epoch_day c.unwrap.result ≡ to_z w64 (c.self.inside.seconds / 86400) = rw c.unwrap.ensures at c.from_unix_epoch_day.ensures.value in
    let same : c.self.inside.seconds ≡ c.args.self = c.self.view_is in
    rw (c.from_plain.ensures, ← same) (day ∙ to_z_pos w64 (c.self.inside.seconds / 86400) (omega (arith, c.self.invariant)))

pub returns-clause-date : goal.returns-clause-date
returns-clause-date c = civil_after-epoch_day (c.args.self / 86400) c.from_plain.result (number c)

pub returns-clause-weekday : goal.returns-clause-weekday
returns-clause-weekday c = rw (weekday_number-parts (epoch_day c.from_plain.result), number c) (omega arith)
