use Rattle.std.proofs.Common.{◌/◌, ◌%◌, refl, arith}
use Rattle.dsn_report.proofs.BoundaryLemmas.{no-number}
use Rattle.dsn_report.proofs.ruled_out_boundaries.leading_number.Goals as goal

pub returns-in_err-digit_value-clause-none : goal.returns-in_err-digit_value-clause-none
returns-in_err-digit_value-clause-none c =
    rw c.from_residual.ensures (no-number c.args.text.now 0 (λ k. k / 1000) (λ k below. omega arith) (λ k rest. refl) c.in_err-digit_value.ensures.none)

pub returns-in_err-digit_value-2-clause-none : goal.returns-in_err-digit_value-2-clause-none
returns-in_err-digit_value-2-clause-none c =
    rw c.from_residual-in_err-digit_value-2.ensures
    (no-number c.args.text.now 1 (λ k. k / 100 % 10) (λ k below. omega arith) (λ k rest. refl) c.in_err-digit_value-2.ensures.none)

pub returns-in_err-digit_value-3-clause-none : goal.returns-in_err-digit_value-3-clause-none
returns-in_err-digit_value-3-clause-none c =
    rw c.from_residual-in_err-digit_value-3.ensures
    (no-number c.args.text.now 2 (λ k. k / 10 % 10) (λ k below. omega arith) (λ k rest. refl) c.in_err-digit_value-3.ensures.none)

pub returns-in_err-digit_value-4-clause-none : goal.returns-in_err-digit_value-4-clause-none
returns-in_err-digit_value-4-clause-none c =
    rw c.from_residual-in_err-digit_value-4.ensures
    (no-number c.args.text.now 3 (λ k. k % 10) (λ k below. omega arith) (λ k rest. refl) c.in_err-digit_value-4.ensures.none)
