use Rattle.std.proofs.Common.{◌∙◌, Option, subst, sym}
use Rattle.std.specs.Prelude.{MatchOption}
use Rattle.dsn_postfix.specs.declared.postfix_request.PostfixRequest.{PostfixRequest}
use Rattle.dsn_postfix_notices.specs.requests.AnsweredRequest.{IsFlushedInTurn}
use Rattle.dsn_postfix_notices.specs.requests.CarriedOut.{IsCarriedOut}
use Rattle.dsn_postfix_notices.proofs.DeedLemmas.{gains_as}
use Rattle.dsn_postfix_notices.proofs.requests.answering.answer_request.Goals as goal

-- a flush of the bounce log precedes the request
pub returns-in-Some : goal.returns-in-Some
returns-in-Some g c =
    gains_as g.M.MailSystem.deeds _ _ _ _ c.flush_in_turn.ensures (λ gained is.
    subst (λ (found : Option PostfixRequest). MatchOption found (IsCarriedOut c.args.terms.now c.args.request.now c.args.bytes.now c.flush_in_turn.result gained)
    (λ first. IsFlushedInTurn c.args.terms.now first c.args.request.now c.args.bytes.now c.flush_in_turn.result gained))
    (sym c.in-Some.is ∙ c.first_flush.ensures) is)
