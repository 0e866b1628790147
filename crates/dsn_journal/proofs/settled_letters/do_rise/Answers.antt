use Rattle.std.proofs.Common.{◌≡◌, ◌+◌, ◌-◌, ◌<◌, ℕ, arith, get_or, subst}
use Rattle.dsn_journal.proofs.SettledEdges.{adjacent_rise, rise_adjacent}
use Rattle.dsn_journal.proofs.settled_letters.do_rise.Goals as goal

pub returns-then-edges-i-clause-not : goal.returns-then-edges-i-clause-not
returns-then-edges-i-clause-not c is rise =
    let edges = c.args.edges.now in
    let i = c.loop-i.i in
    let back : c.loop-i.i - 1 + 1 ≡ c.loop-i.i = omega arith in
    let step : get_or edges (i - 1) 0 < get_or edges i 0 = subst (λ (n : ℕ). get_or edges (i - 1) 0 < get_or edges n 0) back (adjacent_rise 0 edges rise (i - 1) (omega (arith, back, c.loop-i-test.true))) in
    absurd (omega (arith, step, c.if-edges-i.true))

pub returns-clause-rise : goal.returns-clause-rise
returns-clause-rise c is =
    rise_adjacent 0 c.args.edges.now (λ k within. c.loop-i.invariant k (omega (arith, within, c.loop-i-test.false))) (λ some. omega arith)
