use Rattle.std.proofs.Common.{◌+◌, ◌++◌, drop, refl}
use Rattle.std.proofs.lemmas.Result.{err_from_is_err_and}
use Rattle.dsn_smtp.proofs.TransactionLemmas.{asked_on, ended, last_after_more, left_from, stopped, takes_more}
use Rattle.dsn_smtp.proofs.transaction.ask_all.Goals as goal

-- a command failed
pub returns-in_err-ask : goal.returns-in_err-ask
returns-in_err-ask g c =
    let kept = c.loop-command.invariant in
    let exit = err_from_is_err_and c.from_residual.result c.from_residual.ensures.1 in
    rw (exit.1, exit.2) (stopped g.S.Source g.S.Drain _ _ _ c.args.commands.now (drop c.loop-command.command-index c.args.commands.now) (drop (c.loop-command.command-index + 1) c.args.commands.now)
    c.command-item.result kept.turns _ _ _ c.in_err-ask.field-0.0 (left_from _ _ _ c.loop-command-test.true c.command-item.is) kept.taken kept.goes_on c.in_err-ask.ensures)

-- a command succeeded
pub loop-command-preserved : goal.loop-command-preserved
loop-command-preserved g c =
    let kept = c.loop-command.invariant in
    let asked = c.in_ok-ask.ensures in
    record {
      turns = kept.turns ++ asked.turns;
      taken = takes_more g.S.Source g.S.Drain _ _ _ kept.turns asked.turns kept.taken asked.taken;
      goes_on = asked_on c.args.commands.now (drop c.loop-command.command-index c.args.commands.now) (drop (c.loop-command.command-index + 1) c.args.commands.now)
          c.command-item.result kept.turns asked.turns (left_from _ _ _ c.loop-command-test.true c.command-item.is) kept.goes_on asked.go;
      last = last_after_more _ _ _ kept.turns asked.turns kept.last (asked.last refl);
    }

-- all commands succeeded
pub returns : goal.returns
returns g c =
    let kept = c.loop-command.invariant in
    ended g.S.Source g.S.Drain _ _ c.args.commands.now c.loop-command.command-index kept.turns _ _ c.loop-command-test.false kept.taken kept.goes_on kept.last
