use Rattle.std.proofs.Common.{rules}
use Rattle.dsn_submission.proofs.WaitingLemmas.{delay_computed}
use Rattle.dsn_submission.proofs.delay.delay.Goals as goal

pub returns : goal.returns
returns c =
    let computed = delay_computed c.args.longest c.args.failures (search rules) in
    rw (c.min.ensures, c.from.ensures, c.min-doublings.ensures) computed
