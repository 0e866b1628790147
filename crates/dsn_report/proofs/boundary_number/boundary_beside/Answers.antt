use Rattle.std.proofs.Common.{◌≤◌, length, subst, arith}
use Rattle.dsn_report.proofs.BoundaryLaw.{boundary_number-few, boundary_number-only}
use Rattle.dsn_report.proofs.boundary_number.boundary_beside.Goals as goal

pub returns-clause-number : goal.returns-clause-number
returns-clause-number c =
    let short : length c.args.letter.now.draft.header ≤ 32768 = subst (λ header. length header ≤ 32768) c.header.ensures c.bytes.ensures.legal in
    boundary_number-only c.args.letter.now c.least_number.result short c.least_number.ensures

pub returns-clause-four_digits : goal.returns-clause-four_digits
returns-clause-four_digits c =
    omega (arith, returns-clause-number c, boundary_number-few c.args.letter.now)
