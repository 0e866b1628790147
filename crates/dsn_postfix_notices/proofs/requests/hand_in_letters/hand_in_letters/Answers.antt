use Rattle.std.proofs.lemmas.Result.{err_from_is_err_and}
use Rattle.dsn_postfix_notices.proofs.DeedLemmas.{accepted_one_more, left_from, stopped_at}
use Rattle.dsn_postfix_notices.proofs.requests.hand_in_letters.hand_in_letters.Goals as goal

-- a letter wasn't accepted, the first or another
pub returns-in_err-hand_in_letter : goal.returns-in_err-hand_in_letter
returns-in_err-hand_in_letter g c =
    let exit = err_from_is_err_and c.from_residual.result c.from_residual.ensures.1 in
    rw (exit.1, exit.2) (stopped_at g.M.MailSystem.deeds _ _ _ c.args.heading.now c.args.letters.now _ _ _ c.letter-item.result c.in_err-hand_in_letter.field-0.0 c.loop-letter.invariant
    (left_from _ _ _ c.loop-letter-test.true c.letter-item.is) c.in_err-hand_in_letter.ensures)

-- one more letter was accepted
pub loop-letter-preserved : goal.loop-letter-preserved
loop-letter-preserved g c =
    accepted_one_more g.M.MailSystem.deeds _ _ _ c.args.heading.now c.args.letters.now _ _ _ c.letter-item.result c.loop-letter.invariant
    (left_from _ _ _ c.loop-letter-test.true c.letter-item.is) c.in_ok-hand_in_letter.ensures
