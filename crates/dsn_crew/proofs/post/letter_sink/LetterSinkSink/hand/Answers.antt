-- The letter's parcel follows those from before, or it is lost and they stay.
use Rattle.std.proofs.Common.{ap, ◌∙◌}
use Rattle.dsn_crew.specs.post.LetterSink.{LetterSink}
use Rattle.dsn_crew.proofs.post.LetterSinkLemmas.{after_hand, sent_more, takes_letter}
use Rattle.dsn_crew.proofs.post.letter_sink.LetterSinkSink.hand.Goals.{in-Ok, in-Err+in-Some}
use Rattle.dsn_crew.proofs.post.letter_sink.LetterSinkSink.hand.Goals as goal

pub invariant_of-self : goal.invariant_of-self
invariant_of-self g c =
    let sent = after_hand c.self.inside.half.sent c.send.new.self.sent c.count-number.result c.self.invariant.1 c.count-number.ensures _ c.args.letter c.send.result c.if-number-ge-MOST_LETTERS.false c.send.ensures.ok c.send.ensures.lost in
    (c.send.ensures.same.1 ∙ c.self.invariant.0, sent.0, sent.1, c.self.invariant.3, c.self.invariant.4)

pub returns-clause-ok : goal.returns-clause-ok
returns-clause-ok g c =
    elim c.match-send.branch [
      | in-Ok w ↦
          let more = sent_more c.self.inside.half.sent c.send.new.self.sent c.count-number.result c.self.invariant.1 c.count-number.ensures c.args.letter w.in-Ok.ensures.ok in
          let takes =
          takes_letter c.args.self.now c.send.new.self.lane _ _ c.args.letter
          (c.send.ensures.same.0 ∙ ap (λ (sink : LetterSink). sink.lane) c.self.view_is)
          (ap (λ (sink : LetterSink). sink.letters) c.self.view_is) more.0
          in rw w.result-is takes
      | in-Err+in-Some w ↦ rw w.result-is tt
    ]
