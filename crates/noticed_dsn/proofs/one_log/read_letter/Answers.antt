-- How a log goes on, and how it ends.
use Rattle.std.proofs.Common.{◌∙◌, sym, refl, arith, IfErr}
use Rattle.std.proofs.lemmas.Grind.{common_steps}
use Rattle.noticed_dsn.specs.Log.{IsUnreadable, begun, unreadable, other, unsealed}
use Rattle.noticed_dsn.proofs.LogLemmas.{if_ok, if_err, goes_further, sealed_of_service, sealed_in, stays_few}
use Rattle.noticed_dsn.proofs.one_log.read_letter.Goals as goal

pub loop-place-init : goal.loop-place-init
loop-place-init c = record { logs = rw c.new-log.ensures begun; counted = rw c.new-log.ensures refl; few = omega arith }

-- there is no next request
pub returns-in_err-body-clause-refused : goal.returns-in_err-body-clause-refused
returns-in_err-body-clause-refused c =
    let refused : IfErr c.from_residual.result (λ code. IsUnreadable c.loop-place.source.rest.now c.loop-place.place code) = grind (arith, common_steps) in
    if_err _ _ _ (λ code why. unreadable _ code _ _ _ c.loop-place.invariant.logs why) refused

-- it doesn't continue the log
pub returns-then-not-continues_log-clause-refused : goal.returns-then-not-continues_log-clause-refused
returns-then-not-continues_log-clause-refused c =
    other _ _ _ _ _ _ c.loop-place.invariant.logs c.in_ok-body.ensures.next (sym c.continues_log.ensures ∙ c.if-not-continues_log.true)

-- it is the flush of the log
pub seal-requires : goal.seal-requires
seal-requires c =
    let goes = rw c.in-Flush.is at (sym c.continues_log.ensures ∙ c.if-not-continues_log.false) in
    record { of_service = sealed_of_service _ _ _ _ _ _ c.loop-place.invariant.logs c.in-Flush.key c.in-Flush.draft goes }

pub returns-in-Flush-clause-letter : goal.returns-in-Flush-clause-letter
returns-in-Flush-clause-letter c =
    let goes = rw c.in-Flush.is at (sym c.continues_log.ensures ∙ c.if-not-continues_log.false) in
    let next = rw c.in-Flush.is at c.in_ok-body.ensures.next in
    if_ok _ _ _ (λ letter is. sealed_in _ _ _ _ _ _ c.loop-place.invariant.logs c.in-Flush.key c.in-Flush.draft c.args.serial letter next goes is) c.seal.ensures.letter

pub returns-in-Flush-clause-refused : goal.returns-in-Flush-clause-refused
returns-in-Flush-clause-refused c =
    let goes = rw c.in-Flush.is at (sym c.continues_log.ensures ∙ c.if-not-continues_log.false) in
    let next = rw c.in-Flush.is at c.in_ok-body.ensures.next in
    if_err _ _ _ (λ code lacks. unsealed _ code _ _ _ _ _ _ c.loop-place.invariant.logs next goes lacks) c.seal.ensures.refused

-- it is a further append
pub loop-place-preserved : goal.loop-place-preserved
loop-place-preserved c =
    let goes = rw c.in-Append.is at (sym c.continues_log.ensures ∙ c.if-not-continues_log.false) in
    let next = rw c.in-Append.is at c.in_ok-body.ensures.next in
    record {
      logs = goes_further _ _ _ _ _ _ c.loop-place.invariant.logs _ _ _ _ next goes (rw c.in-Append.is at c.key-key.ensures) c.push.ensures;
      counted = grind (arith, common_steps);
      few = stays_few _ _ _ _ _ c.read_request.new.source.rest.now c.loop-place.invariant.logs c.in-Append.field-0 c.in-Append.node.value.outcome goes c.loop-place.invariant.few;
    }
