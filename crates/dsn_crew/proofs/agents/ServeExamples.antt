-- Worked examples of an agent's session, made by the definitions: a connection with one discard.
use Rattle.std.proofs.Common.{◌≡◌, ◌≢◌, ℕ, List, [], ◌∷◌, inl, Bool, true, false, refl, lit<, lit≤}
use Rattle.std.specs.Prelude.{Some, None, Ok, Err, codes}
use Rattle.std.proofs.lemmas.List.Elements.{All-nil}
use Rattle.dsn_device.specs.declared.drain.Drain.{Ghosts as Drain}
use Rattle.dsn_device.specs.declared.source.Source.{Ghosts as Source}
use Rattle.dsn_crew.specs.lane.Halves.{Identity}
use Rattle.dsn_outcome.specs.Request.{Request, Body, Discard}
use Rattle.dsn_outcome.specs.declared.answer.Answer.{Answer}
use Rattle.dsn_outcome.specs.History.{plain}
use Rattle.dsn_outcome.specs.declared.answer.Reply.{Reply as ReplyOf}
use Rattle.dsn_outcome.specs.declared.answer.Reply.TheVariants.{Discarded}
use Rattle.dsn_text.specs.declared.service.Service.TheVariants.{Bounce}
use Rattle.dsn_frame.specs.bodies.FrameBody.{frame}
use Rattle.dsn_frame.specs.bodies.Request.{first_own_fault, StandsFor, Encodes}
use Rattle.dsn_frame.specs.bodies.Spoken.{answer_body, answer_bytes, answer_frames_from}
use Rattle.dsn_frame.specs.bodies.Wire.{DiscardFields, body_bytes, own_bytes, head_bytes, text_bytes, number_bytes, FitsOwn}
use Rattle.dsn_frame.specs.declared.bodies.spoken.Spoken.{Spoken}
use Rattle.dsn_frame.specs.declared.bodies.spoken.Spoken.TheVariants.{Refused, Reply}
use Rattle.dsn_frame.specs.Session.{asked, given_up, written, begun, taken, stopped, well}
use Rattle.dsn_crew.specs.agents.Agent.{Agent}
use Rattle.dsn_crew.specs.agents.Serve.{IsServed, numbered_from}
use Rattle.dsn_frame.specs.declared.serve_fault.ServeFault.TheVariants.{Lost}

-- a discard with number 0, and what it asks
unfoldable pub discard_body : List ℕ
discard_body = 1 ∷ 3 ∷ 0 ∷ 0 ∷ 0 ∷ 0 ∷ 1 ∷ 0 ∷ 2 ∷ 75 ∷ 49 ∷ []

pub discard : Body
discard = Discard (record { service = Bounce; id = codes "K1" })

pub discard_is_encoded : Encodes discard_body 0 discard
unfolding discard_body discard body_bytes own_bytes head_bytes text_bytes number_bytes FitsOwn first_own_fault StandsFor
discard_is_encoded = record {
  wire = DiscardFields (record { version = 1; number = 0; service = 1; id = codes "K1" });
  laid_out = refl;
  known = refl;
  fits = (record { number = lit< tt; id = lit< tt }, tt);
  number_is = refl;
  accepted = refl;
  stands_for = record { service_is = refl; id_is = refl };
}

-- a stream in memory: what is still to be read, and what was written. It doesn't fail
abbrev Memory : Type 0
Memory = List ℕ × List ℕ

reads : Source Memory
reads = record { remaining = λ s. Some s.0; holds = λ s. Some s.1; flushes = λ _. 0; unflushed = λ _. false; failures = λ _. 0; steady = λ _. Unit {0} }

writes : Drain Memory
writes = record { contents = λ s. Some s.1; left = λ s. Some s.0; failures = λ _. 0; flushes = λ _. 0; unflushed = λ _. false; marked = λ _. None; moment = λ _. 0; left_since = λ _ _ _. ⊥; say = λ _ _. ⊥; steady = λ _. Unit {0}; flushes_surely = λ _. Unit {0} }

-- the frame of an answer "none discarded" to the first frame of a connection
none_discarded : List ℕ
none_discarded = 0 ∷ 0 ∷ 0 ∷ 10 ∷ 1 ∷ 8 ∷ 0 ∷ 0 ∷ 0 ∷ 0 ∷ 0 ∷ 0 ∷ 0 ∷ 0 ∷ []

-- agent 5, which may make two requests, and has made one
module _ (asks : Identity Request) (hears : Identity Answer) (body : Body) (reply : ReplyOf) where
  agent_with : List Request → List Answer → Bool → Agent
  agent_with sent got lost = record {
    halves = record { requests = record { lane = asks; agent = 5; sent = sent }; answers = record { lane = hears; first = 5; past = 6; taken = got } };
    limit = 2;
    lost = lost;
  }

  before : Agent
  before = agent_with (record { agent = 5; number = 0; body = body } ∷ []) (record { agent = 5; number = 0; reply = reply; serial = None } ∷ []) false

  -- the discard is the agent's request 1, and its answer has number 0, its place on the connection
  one_discard :
      IsServed reads writes before
      (agent_with
      (record { agent = 5; number = 0; body = body } ∷ record { agent = 5; number = 1; body = discard } ∷ [])
      (record { agent = 5; number = 0; reply = reply; serial = None } ∷ record { agent = 5; number = 1; reply = Discarded 0; serial = None } ∷ []) false)
      (frame discard_body, []) ([], none_discarded) (Ok (record { frames = 1 }))
  unfolding reads writes before agent_with numbered_from answer_frames_from answer_bytes answer_body none_discarded discard_body
  one_discard = record {
    frames = discard_body ∷ [];
    bodies = discard ∷ [];
    answers = Reply (plain (Discarded 0)) ∷ [];
    session = record {
      made = None;
      takes = taken [] [] (discard ∷ []) [] (Reply (plain (Discarded 0)) ∷ []) discard_body None None begun (lit< tt) (lit≤ tt, lit≤ tt) (asked discard (plain (Discarded 0)) discard_is_encoded (lit< tt)) (written _ None);
      left = Some [];
      read = refl;
      ends = well refl refl refl;
    };
    asked = record { agent_is = refl; idle = λ was. absurd (let never : false ≡ true = was in cc); replied = refl };
    written = refl;
    answered = refl;
    counts = record { count = refl; no_flush = refl; stays_steady = λ _. (tt, refl) };
  }

  -- if the collector is found gone before it, nothing is sent or written, and the agent is lost
  discard_lost : IsServed reads writes before (agent_with before.halves.requests.sent before.halves.answers.taken true) (frame discard_body, []) ([], []) (Err Lost)
  unfolding reads writes before agent_with numbered_from answer_frames_from discard_body
  discard_lost = record {
    frames = discard_body ∷ [];
    bodies = [];
    answers = [];
    session = record {
      made = Some 41;
      takes = taken [] [] [] [] [] discard_body (Some 41) (Some 41) begun (lit< tt) (lit≤ tt, lit≤ tt) (given_up discard discard_is_encoded refl) (written _ (Some 41));
      left = Some [];
      read = refl;
      ends = stopped 41 refl refl;
    };
    asked = record { agent_is = refl; idle = λ was. (refl, All-nil (λ (answer : Spoken). answer ≢ Refused 44)); replied = inl refl };
    written = refl;
    answered = tt;
    counts = record { count = refl; no_flush = refl; stays_steady = λ _. (tt, refl) };
  }
