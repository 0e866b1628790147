use Rattle.std.proofs.Common.{◌∙◌, ◌<◌, sym, arith}
use Rattle.dsn_frame.proofs.SentAnswersLemmas.{OnErr-is_err}
use Rattle.noticed_lib.specs.client.Send.{most_frames}
use Rattle.noticed_lib.proofs.client.SendLemmas.{counts-of, sent-cut, sent-refused, sent-untold}
use Rattle.noticed_lib.proofs.client.send_frames.hand_over.Goals as goal

pub returns-in-Err : goal.returns-in-Err
returns-in-Err g c =
    let noted = c.in-Err.ensures in
    sent-cut g.R.Source g.S.Source g.S.Drain g.N.Drain c.loop-position.position _ _ _ _ _ _ _ c.loop-position.invariant c.in-Err.fault noted.refused
    (counts-of g.R.Source.failures g.R.Source.flushes g.R.Source.steady _ _ _ noted.count noted.no_flush noted.steady)

pub returns-in-Err-ask : goal.returns-in-Err-ask
returns-in-Err-ask g c =
    let noted = c.in_default.ensures in
    let read = rw (← c.in-Some.ensures) at noted.next in
    let few : c.loop-position.position < most_frames = omega (arith, c.loop-position-test.true) in
    sent-refused g.R.Source g.S.Source g.S.Drain g.N.Drain c.loop-position.position _ _ _ _ _ _ _ c.loop-position.invariant few _ read
    (counts-of g.R.Source.failures g.R.Source.flushes g.R.Source.steady _ _ _ noted.count noted.no_flush noted.steady) _ c.in-Err-ask.fault
    c.in-Err-ask.ensures.asked c.in-Err-ask.ensures.counts

pub returns-then-is_err : goal.returns-then-is_err
returns-then-is_err g c =
    let noted = c.in_default.ensures in
    let read = rw (← c.in-Some.ensures) at noted.next in
    let few : c.loop-position.position < most_frames = omega (arith, c.loop-position-test.true) in
    let line = c.bytes.ensures.same ∙ c.answer_line.ensures in
    let failed = sym c.is_err.ensures.value ∙ c.if-is_err.true in
    sent-untold g.R.Source g.S.Source g.S.Drain g.N.Drain c.loop-position.position _ _ _ _ _ _ _ c.loop-position.invariant few _ read
    (counts-of g.R.Source.failures g.R.Source.flushes g.R.Source.steady _ _ _ noted.count noted.no_flush noted.steady) _ _ c.in-Ok.answer
    c.in-Ok.ensures.asked c.in-Ok.ensures.counts
    (rw (← line) (OnErr-is_err c.send.result _ failed c.send.ensures.part))
    (rw failed at (counts-of g.N.Drain.failures g.N.Drain.flushes g.N.Drain.steady _ _ _ c.send.ensures.count c.send.ensures.no_flush c.send.ensures.steady))

pub returns-in-Err-read_next : goal.returns-in-Err-read_next
returns-in-Err-read_next g c =
    let noted = c.in-Err-read_next.ensures in
    sent-cut g.R.Source g.S.Source g.S.Drain g.N.Drain c.loop-position.position _ _ _ _ _ _ _ c.loop-position.invariant c.in-Err-read_next.fault noted.refused
    (counts-of g.R.Source.failures g.R.Source.flushes g.R.Source.steady _ _ _ noted.count noted.no_flush noted.steady)
