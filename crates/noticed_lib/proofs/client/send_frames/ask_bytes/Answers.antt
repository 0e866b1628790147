use Rattle.std.proofs.Common.{◌∙◌, sym, arith}
use Rattle.dsn_frame.proofs.SentAnswersLemmas.{OnOk-is_err}
use Rattle.noticed_lib.proofs.client.AskLemmas.{ask-answered, ask-out-of-turn}
use Rattle.noticed_lib.proofs.client.send_frames.ask_bytes.Goals as goal

pub returns-in-Ok-clause-asked : goal.returns-in-Ok-clause-asked
returns-in-Ok-clause-asked g c body is_frame =
    let laws = g.met.S.Stream in
    let fine = sym c.is_err.ensures.value ∙ c.if-is_err.false in
    let next = rw (← c.in-Some.ensures) at c.in_default.ensures.next in
    ask-answered g.S.Source g.S.Drain laws.held_is_written laws.left_is_unread c.args.position body _ is_frame _ _ _ (OnOk-is_err c.send.result _ fine c.send.ensures.sent) c.send.ensures.unread c.in_default.ensures.held
    c.body.result.now (rw c.body.ensures.same next) c.in-Ok.number c.in-Ok.answer c.in-Ok.ensures.encoded c.in-Ok.ensures.fits (omega arith)

pub returns-in-Ok-2-clause-asked : goal.returns-in-Ok-2-clause-asked
returns-in-Ok-2-clause-asked g c body is_frame =
    let laws = g.met.S.Stream in
    let fine = sym c.is_err.ensures.value ∙ c.if-is_err.false in
    let next = rw (← c.in-Some.ensures) at c.in_default.ensures.next in
    ask-out-of-turn g.S.Source g.S.Drain laws.held_is_written laws.left_is_unread c.args.position body _ is_frame _ _ _ (OnOk-is_err c.send.result _ fine c.send.ensures.sent) c.send.ensures.unread c.in_default.ensures.held
    c.body.result.now (rw c.body.ensures.same next) c.in-Ok.number c.in-Ok.answer c.in-Ok.ensures.encoded c.in-Ok.ensures.fits (λ same. absurd (omega arith))
