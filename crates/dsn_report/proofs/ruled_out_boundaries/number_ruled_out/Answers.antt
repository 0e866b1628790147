use Rattle.std.proofs.Common.{codes}
use Rattle.std.specs.Prelude.{Some, None}
use Rattle.std.proofs.lemmas.Bool.Decides.{Decides-eqb}
use Rattle.std.proofs.lemmas.Slice.Eq.{strip_prefix_is}
use Rattle.dsn_report.proofs.BoundaryLemmas.{no-front, rules-out-none, rules-out-some}
use Rattle.dsn_report.proofs.ruled_out_boundaries.number_ruled_out.Goals as goal

pub returns-in_err-strip_prefix-2-clause-none : goal.returns-in_err-strip_prefix-2-clause-none
returns-in_err-strip_prefix-2-clause-none c =
    let inner = c.in_ok-strip_prefix.field-0 in
    let outer = strip_prefix_is Decides-eqb c.args.line.now (codes "--") (Some inner) c.in_ok-strip_prefix.ensures.cases in
    let other = strip_prefix_is Decides-eqb inner.now c.args.front.now None c.in_err-strip_prefix-2.ensures.cases in
    rw c.from_residual-in_err-strip_prefix-2.ensures (λ number below. no-front c.args.front.now c.args.line.now inner.now outer other number)

pub returns-clause-some : goal.returns-clause-some
returns-clause-some c =
    let inner = c.in_ok-strip_prefix.field-0 in
    let outer = strip_prefix_is Decides-eqb c.args.line.now (codes "--") (Some inner) c.in_ok-strip_prefix.ensures.cases in
    let rest = strip_prefix_is Decides-eqb inner.now c.args.front.now (Some c.in_ok-strip_prefix-2.field-0) c.in_ok-strip_prefix-2.ensures.cases in
    rules-out-some c.args.front.now c.args.line.now inner.now _ c.leading_number.result outer rest c.leading_number.ensures.some

pub returns-clause-none : goal.returns-clause-none
returns-clause-none c =
    let inner = c.in_ok-strip_prefix.field-0 in
    let outer = strip_prefix_is Decides-eqb c.args.line.now (codes "--") (Some inner) c.in_ok-strip_prefix.ensures.cases in
    let rest = strip_prefix_is Decides-eqb inner.now c.args.front.now (Some c.in_ok-strip_prefix-2.field-0) c.in_ok-strip_prefix-2.ensures.cases in
    rules-out-none c.args.front.now c.args.line.now inner.now _ c.leading_number.result outer rest c.leading_number.ensures.none
