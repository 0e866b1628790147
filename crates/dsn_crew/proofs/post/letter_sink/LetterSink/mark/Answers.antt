-- The end mark follows the letters, or it is lost and they stay.
use Rattle.std.proofs.Common.{ap, sym, ◌∙◌, subst}
use Rattle.dsn_crew.specs.inner.LetterSource.{FinishedSink}
use Rattle.dsn_crew.specs.post.LetterSink.{LetterSink}
use Rattle.dsn_crew.proofs.post.LetterSinkLemmas.{IsSent, after_mark}
use Rattle.dsn_crew.proofs.post.letter_sink.LetterSink.mark.Goals as goal

pub new-requires-clause-sent : goal.new-requires-clause-sent
new-requires-clause-sent g c =
    let sent = after_mark c.self.inside.half.sent c.send.new.self.sent c.count.result c.self.invariant.1 c.count.ensures _ c.send.result c.send.ensures.ok c.send.ensures.lost in
    subst (IsSent c.send.new.self.sent) (sym c.is_ok-marked.ensures.value) sent.1

pub returns : goal.returns
returns g c =
    let sent = after_mark c.self.inside.half.sent c.send.new.self.sent c.count.result c.self.invariant.1 c.count.ensures _ c.send.result c.send.ensures.ok c.send.ensures.lost in (
      ap (λ (sink : FinishedSink). sink.lane) c.new.ensures ∙ (c.send.ensures.same.0 ∙ ap (λ (sink : LetterSink). sink.lane) c.self.view_is),
      ap (λ (sink : FinishedSink). sink.letters) c.new.ensures ∙ (sent.0 ∙ ap (λ (sink : LetterSink). sink.letters) c.self.view_is),
    )
