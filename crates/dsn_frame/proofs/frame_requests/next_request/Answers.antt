use Rattle.std.proofs.Common.{IfErr, arith, rules}
use Rattle.std.proofs.lemmas.Grind.{common_steps}
use Rattle.dsn_frame.specs.Refusal.{IsOutOfTurn, IsFrameRefused}
use Rattle.dsn_frame.proofs.SessionLemmas.{refused_takes, refused_takes_any}
use Rattle.dsn_frame.proofs.frame_requests.next_request.Goals as goal
use Rattle.dsn_frame.specs.declared.refusal.Refusal.TheVariants.{OutOfTurn}

-- the body is refused
pub returns-in_err-number-clause-taken : goal.returns-in_err-number-clause-taken
returns-in_err-number-clause-taken c = λ medium limit accepted.
    let refused : IfErr c.from_residual.result (λ refusal. IsFrameRefused c.args.place c.args.bytes.now refusal) = grind (arith, common_steps) in
    refused_takes_any medium limit accepted c.args.place c.args.bytes.now c.from_residual.result refused

-- the number is out of turn
pub returns-then-number-place-clause-taken : goal.returns-then-number-place-clause-taken
returns-then-number-place-clause-taken c = λ medium limit accepted.
    let refused : IsOutOfTurn c.args.place c.args.bytes.now = search rules in
    refused_takes medium limit accepted c.args.place c.args.bytes.now OutOfTurn refused
