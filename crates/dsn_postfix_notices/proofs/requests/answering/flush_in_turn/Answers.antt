use Rattle.std.proofs.Common.{◌≡◌, ◌∙◌, false, true, arith, sym}
use Rattle.dsn_postfix_notices.specs.requests.AnsweredRequest.{put_off}
use Rattle.dsn_postfix_notices.proofs.DeedLemmas.{flushed_in_turn, gains_as}
use Rattle.dsn_postfix_notices.proofs.requests.answering.flush_in_turn.Goals as goal

-- the flush of the bounce log wasn't answered 0
pub returns-then-not-is_carried_out : goal.returns-then-not-is_carried_out
returns-then-not-is_carried_out g c =
    let not_done : c.is_carried_out.result ≡ false = grind (arith, c.if-not-is_carried_out.true) in
    gains_as g.M.MailSystem.deeds _ _ _ _ c.tell_bounce_log-told.ensures (λ gained told. put_off (sym c.is_carried_out.ensures ∙ not_done) told)

-- the flush of the bounce log was answered 0, or there is no bounce log
pub returns : goal.returns
returns g c =
    let done : c.is_carried_out.result ≡ true = grind (arith, c.if-not-is_carried_out.false) in
    flushed_in_turn g.M.MailSystem.deeds _ _ _ c.args.terms.now c.args.first.now c.args.request.now c.args.bytes.now c.tell_bounce_log-told.result c.carry_out.result
    (sym c.is_carried_out.ensures ∙ done) c.tell_bounce_log-told.ensures c.carry_out.ensures
