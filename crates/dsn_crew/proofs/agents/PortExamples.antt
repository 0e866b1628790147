-- A worked example of an agent that serves a port, made by the definitions. There are three
-- connections: one with a discard, one with a frame that has no body, and one with a discard again.
-- Then the port is done.
use Rattle.std.proofs.Common.{◌≡◌, ℕ, List, [], ◌∷◌, inl, true, false, refl, ap, lit<, lit≤, arith}
use Rattle.std.specs.Prelude.{◌≢◌, Some, None, unwrap_or as option_or}
use Rattle.std.proofs.lemmas.List.Elements.{All-cons, All-nil}
use Rattle.dsn_crew.specs.lane.Halves.{Identity}
use Rattle.dsn_outcome.specs.Request.{Request, Body, Bye}
use Rattle.dsn_outcome.specs.declared.answer.Answer.{Answer}
use Rattle.dsn_outcome.specs.declared.answer.Reply.TheVariants.{Closed, Discarded, Gone}
use Rattle.dsn_outcome.specs.History.{plain}
use Rattle.dsn_outcome.specs.declared.answer.Reply.{Reply as ReplyOf}
use Rattle.dsn_frame.specs.bodies.FrameBody.{frame}
use Rattle.dsn_frame.specs.declared.bodies.spoken.Spoken.TheVariants.{Reply}
use Rattle.dsn_frame.specs.Session.{asked, written, begun, taken, well, cut}
use Rattle.dsn_frame.specs.declared.frame_fault.FrameFault.TheVariants.{Empty, CutShort}
use Rattle.dsn_crew.specs.agents.Agent.{Agent}
use Rattle.dsn_crew.specs.agents.Port.{Conn, connection, done, Session}
use Rattle.dsn_crew.specs.inner.Agent.{IsPortServed}
use Rattle.dsn_crew.specs.agents.Serve.{numbered_from}
use Rattle.dsn_crew.proofs.agents.ServeExamples.{discard, discard_body, discard_is_encoded}

-- the connections: the second one's stream may fail
conns : List Conn
conns =
    record { bytes = frame discard_body; may_fail = false }
    ∷ record { bytes = 0 ∷ 0 ∷ 0 ∷ 0 ∷ []; may_fail = true }
    ∷ record { bytes = frame discard_body; may_fail = false } ∷ []

-- a session with the discard, and its reply
with_discard : ReplyOf → Session
with_discard reply = record { start = Some (frame discard_body); left = Some []; frames = discard_body ∷ []; bodies = discard ∷ []; answers = Reply (plain reply) ∷ []; end = None }

without_body : Session
without_body = record { start = Some (0 ∷ 0 ∷ 0 ∷ 0 ∷ []); left = Some []; frames = []; bodies = []; answers = []; end = Some 12 }

-- the agent, number 5, which may make two requests
module _ (asks : Identity Request) (hears : Identity Answer) where
  agent_with : List Request → List Answer → Agent
  agent_with sent got = record {
    halves = record { requests = record { lane = asks; agent = 5; sent = sent }; answers = record { lane = hears; first = 5; past = 6; taken = got } };
    limit = 2;
    lost = false;
  }

  request : ℕ → Body → Request
  request number body = record { agent = 5; number = number; body = body }

  answer : ℕ → ReplyOf → Answer
  answer number reply = record { agent = 5; number = number; reply = reply; serial = None }

  -- both discards are asked, as its requests 0 and 1; its goodbye is request 2. The second connection has a fault
  three_connections :
      IsPortServed (Some conns) (λ given. given ≡ connection ∷ connection ∷ connection ∷ done ∷ []) (agent_with [] []) (record {
        line = record { requests = 2; connections = 3; faults = 1; port_failed = false };
        finished = Some (agent_with (request 0 discard ∷ request 1 discard ∷ request 2 Bye ∷ []) (answer 0 (Discarded 0) ∷ answer 1 Closed ∷ answer 2 Gone ∷ [])).halves;
      })
  unfolding agent_with request answer numbered_from conns with_discard without_body discard_body
  three_connections = record {
    last = agent_with (request 0 discard ∷ request 1 discard ∷ []) (answer 0 (Discarded 0) ∷ answer 1 Closed ∷ []);
    served = record {
      sessions = with_discard (Discarded 0) ∷ without_body ∷ with_discard Closed ∷ [];
      lost = false;
      follow = (
        record {
          made = None;
          takes = taken [] [] (discard ∷ []) [] (Reply (plain (Discarded 0)) ∷ []) discard_body None None begun (lit< tt) (lit≤ tt, lit≤ tt) (asked discard (plain (Discarded 0)) discard_is_encoded (lit< tt)) (written _ None);
          left = Some [];
          read = refl;
          ends = well refl refl refl;
        },
        (
          record {
            made = None;
            takes = begun;
            left = Some (0 ∷ 0 ∷ 0 ∷ 0 ∷ []);
            read = refl;
            ends = cut refl Empty (record { part = 0 ∷ 0 ∷ 0 ∷ 0 ∷ []; consumed = refl; stops = (refl, refl); ends = λ is. absurd (let never : Empty ≡ CutShort = is in cc) });
          },
          (
            record {
              made = None;
              takes = taken [] [] (discard ∷ []) [] (Reply (plain Closed) ∷ []) discard_body None None begun (lit< tt) (lit≤ tt, lit≤ tt) (asked discard (plain Closed) discard_is_encoded (lit< tt)) (written _ None);
              left = Some [];
              read = refl;
              ends = well refl refl refl;
            },
            tt,
          ),
        ),
      );
      over = record {
        served = conns;
        left = [];
        conns_are = refl;
        over = (record { bytes = refl; steady = λ _. (λ is. cc, λ is. cc) }, (record { bytes = refl; steady = λ is. absurd (let never : true ≡ false = is in cc) }, (record { bytes = refl; steady = λ _. (λ is. cc, λ is. cc) }, tt)));
        all = λ _. inl refl;
        good = refl;
      };
      gave = record { last = Some done; gave = refl; ends = (refl, refl) };
      asked = record { agent_is = refl; idle = λ was. absurd (let never : false ≡ true = was in cc); replied = refl };
      heard = λ _.
          All-cons (λ (session : Session). session.end ≢ Some 41) (with_discard (Discarded 0)) (without_body ∷ with_discard Closed ∷ []) (λ is. cc)
          (All-cons (λ (session : Session). session.end ≢ Some 41) without_body (with_discard Closed ∷ []) (λ is. let never : 12 ≡ 41 = ap (λ end. option_or end 0) is in omega (arith, never))
          (All-cons (λ (session : Session). session.end ≢ Some 41) (with_discard Closed) [] (λ is. cc) (All-nil (λ (session : Session). session.end ≢ Some 41))));
      few = lit≤ tt;
      requests = refl;
      connections = refl;
      faults = refl;
    };
    goodbye = (refl, refl);
  }
