use Rattle.std.proofs.Common.{[], ◌∷◌, ap}
use Rattle.std.specs.Prelude.{Some}
use Rattle.std.proofs.KnownBytes.{Keeps-refl}
use Rattle.dsn_frame.specs.Session.{Connection, written}
use Rattle.dsn_frame.specs.inner.Session.{end_after}
use Rattle.dsn_frame.proofs.SessionRunLemmas.{turn_goes}
use Rattle.dsn_crew.specs.agents.Agent.{Agent}
use Rattle.dsn_crew.proofs.agents.ServeLemmas.{sent-count}
use Rattle.dsn_crew.proofs.agents.ServedLemmas.{answered-lost, answered-turn, counts-sent, keeps-as}
use Rattle.dsn_crew.proofs.agents.serve_connection.AgentSessionResponder.turn.Goals as goal

-- the collector is gone
pub returns-in_default-clause-turn : goal.returns-in_default-clause-turn
returns-in_default-clause-turn g c =
    let is = c.in_default.ensures.turn in
    record {
      bodies = is.bodies;
      said = [];
      end = Some 41;
      takes = is.takes;
      goes = written [] (Some 41);
      counted = sent-count _ _ _ _ _ is.asked;
      limited = ap (λ (agent : Agent). agent.limit) is.asked.agent_is;
      unread = Keeps-refl _;
      then = λ start frames before answers frames_counted answers_counted left.
          (left.0, left.1, c.answer.ensures.kept, answered-lost _ _ _ _ _ _ _ _ _ left.3 _ _ c.args.bytes.now frames_counted answers_counted is);
    }

-- the answer was written or not
pub returns-clause-turn : goal.returns-clause-turn
returns-clause-turn g c =
    let laws = g.met.S.Stream in
    let is = c.in-Some.ensures.turn in
    let counts = counts-sent g.S.Source g.S.Drain laws.one_count laws.one_flush_count laws.one_promise _ _ _ c.send-sent.ensures.count c.send-sent.ensures.no_flush c.send-sent.ensures.steady in
    rw (c.after.ensures, c.is_ok.ensures.value) (record {
      bodies = is.bodies;
      said = c.in-Some.turn.answer ∷ [];
      end = end_after c.in-Some.turn.over;
      takes = is.takes;
      goes = turn_goes Connection _ _ _;
      counted = sent-count _ _ _ _ _ is.asked;
      limited = ap (λ (agent : Agent). agent.limit) is.asked.agent_is;
      unread = keeps-as g.S.Drain.left g.S.Source.remaining laws.left_is_unread _ _ c.send-sent.ensures.unread;
      then = λ start frames before answers frames_counted answers_counted left. (
        left.0,
        left.1,
        c.answer.ensures.kept,
        answered-turn _ _ _ _ _ _ _ _ _ left.3 _ _ c.args.bytes.now frames_counted answers_counted _ c.in-Some.turn is c.send-sent.result counts
            (rw (c.bytes.ensures.same, c.frame_told.ensures) at c.send-sent.ensures.sent) (rw (c.bytes.ensures.same, c.frame_told.ensures) at c.send-sent.ensures.part),
      );
    })
