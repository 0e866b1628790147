use Rattle.std.proofs.Common.{[], ◌∷◌, ◌∙◌, ap}
use Rattle.std.proofs.KnownBytes.{Keeps-refl}
use Rattle.dsn_outcome.specs.History.{Limits}
use Rattle.dsn_frame.specs.Session.{Input}
use Rattle.dsn_frame.specs.inner.Session.{end_after}
use Rattle.dsn_frame.proofs.SessionRunLemmas.{turn_goes}
use Rattle.noticed_lib.proofs.batch_run.ReadingLemmas.{read-turn}
use Rattle.noticed_lib.proofs.batch_run.reading.ReadingResponder.turn.Goals as goal

pub returns-clause-turn : goal.returns-clause-turn
returns-clause-turn g c =
    let answered = c.answer-turn.ensures.answered in
    let line = c.bytes.ensures.same ∙ c.answer_line.ensures in
    rw (c.after.ensures, c.is_ok.ensures.value) (record {
      bodies = answered.asked;
      said = c.answer-turn.result.answer ∷ [];
      end = end_after c.answer-turn.result.over;
      takes = answered.takes;
      goes = turn_goes Input _ _ _;
      counted = answered.counted;
      limited = ap (λ (limits : Limits). limits.requests) answered.limited;
      unread = Keeps-refl _;
      then = λ start frames before answers frames_counted answers_counted left. (
        left.0,
        left.1,
        left.2,
        read-turn _ _ _ _ _ _ _ _ _ _ _ left.3 _ _ _ c.args.bytes.now _ answered c.send-sent.result answers_counted
            (rw (← line) c.send-sent.ensures.sent) (rw (← line) c.send-sent.ensures.part) c.send-sent.ensures.count c.send-sent.ensures.steady,
      );
    })
