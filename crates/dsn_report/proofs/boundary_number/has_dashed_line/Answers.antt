use Rattle.std.proofs.Common.{◌≡◌, false, sym, rules}
use Rattle.std.specs.Prelude.{◌==◌}
use Rattle.std.specs.List.{list_any}
use Rattle.dsn_report.proofs.DashLemmas.{no-dashed_line}
use Rattle.dsn_report.proofs.boundary_number.has_dashed_line.Goals as goal

pub returns-then-not-contains : goal.returns-then-not-contains
returns-then-not-contains c =
    let none : list_any (λ byte. byte == 45) c.args.returned.bytes.now ≡ false = search rules in
    sym (no-dashed_line c.args.returned.whole c.args.returned.bytes.now none)
