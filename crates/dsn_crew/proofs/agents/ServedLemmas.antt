-- Sessions of an agent over one connection: how one begins, and goes on with one more frame.
use Rattle.std.proofs.Common.{◌≡◌, ℕ, ◌↔◌, Bool, true, false, List, [], ◌∷◌, ◌++◌, length, ap, sym, ◌∙◌}
use Rattle.std.specs.Prelude.{Option, Some, None, Result, Ok, Err, IfOk, OnOk, OnErr, is_err, is_ok}
use Rattle.std.specs.Io.KnownBytes.{Appends, Keeps}
use Rattle.std.specs.Result.{result_err}
use Rattle.std.proofs.KnownBytes.{Appends-nil}
use Rattle.std.proofs.lemmas.List.{append-nil}
use Rattle.dsn_device.specs.declared.drain.Drain.{Ghosts as Drain}
use Rattle.dsn_device.specs.declared.source.Source.{Ghosts as Source}
use Rattle.dsn_device.specs.Counts.{Counts}
use Rattle.dsn_device.specs.Failures.{counted}
use Rattle.dsn_device.proofs.CountsLemmas.{counts-none, counts-then}
use Rattle.dsn_device.specs.Transfer.{AppendsPart}
use Rattle.dsn_outcome.specs.Request.{Body}
use Rattle.dsn_frame.specs.ServeFault.{is_lost, is_stream_failed, is_unwritten, session_end, turn_fault}
use Rattle.dsn_frame.specs.Session.{Connection, IsSession}
use Rattle.dsn_frame.specs.SentAnswers.{AnswersSent}
use Rattle.dsn_frame.specs.bodies.Spoken.{answer_bytes, answer_frames_from, told_each, told_to}
use Rattle.dsn_frame.specs.declared.bodies.spoken.Spoken.{Spoken}
use Rattle.dsn_frame.specs.declared.serve_fault.ServeFault.{ServeFault}
use Rattle.dsn_frame.specs.declared.session.Served.{Served}
use Rattle.dsn_frame.specs.declared.session.Turn.{Turn}
use Rattle.dsn_frame.proofs.AnswerLemmas.{answer_frames_from-more, told-length, told-more, told-unanswered}
use Rattle.dsn_frame.proofs.SentAnswersLemmas.{sent-more, sent-lost}
use Rattle.dsn_frame.proofs.SessionRunLemmas.{turn_not_lost, turn_stream_failed}
use Rattle.dsn_crew.specs.agents.Agent.{Agent, IsAgent}
use Rattle.dsn_crew.specs.agents.Serve.{IsServed}
use Rattle.dsn_crew.specs.inner.Agent.{HasAnswered, IsTurn}
use Rattle.dsn_crew.proofs.agents.ServeLemmas.{asked-nothing, asked-then}

-- bytes that stay as they were, by either name of them
pub keeps-as : {S : Type 0} (here there : S → Option (List ℕ)) → ((s : S) → here s ≡ there s) → (x y : S) → Keeps (here x) (here y) → Keeps (there x) (there y)
keeps-as here there same x y kept = rw (same x, same y) at kept

module _ {S : Type 0} (source : Source S) (drain : Drain S) where
  module _ (one_count : (s : S) → drain.failures s ≡ source.failures s) (one_flush_count : (s : S) → drain.flushes s ≡ source.flushes s) (one_promise : (s : S) → drain.steady s ↔ source.steady s) (x y : S) (failed : Bool) where
    -- the stream was written to
    pub counts-sent : drain.failures y ≡ counted failed (drain.failures x) → drain.flushes y ≡ drain.flushes x → (drain.steady x → drain.steady y × (drain.failures y ≡ drain.failures x)) → Counts source.failures drain.flushes source.steady failed x y
    counts-sent count no_flush steady = record {
      count = sym (one_count y) ∙ (count ∙ ap (counted failed) (one_count x));
      no_flush = no_flush;
      stays_steady = λ h. let more = steady ((one_promise x).1 h) in ((one_promise y).0 more.0, sym (one_count y) ∙ (more.1 ∙ one_count x));
    }

  -- nothing was read so far
  pub answered-nothing : (agent : Agent) (stream : S) → HasAnswered source drain agent agent stream stream [] [] [] false false false
  unfolding answer_frames_from
  answered-nothing agent stream = record {
    asked = asked-nothing agent;
    written = Appends-nil (drain.contents stream);
    counts = counts-none source.failures drain.flushes source.steady stream;
  }

  module _ (old now : Agent) (before stream : S) (frames : List (List ℕ)) (bodies : List Body) (answers : List Spoken) (left : HasAnswered source drain old now before stream frames bodies answers false false false) where
    then-counts : (failed : Bool) (after : S) → Counts source.failures drain.flushes source.steady failed stream after → Counts source.failures drain.flushes source.steady failed before after
    then-counts failed after counts = counts-then source.failures drain.flushes source.steady failed before stream after left.counts counts

    module _ (next : Agent) (place : ℕ) (bytes : List ℕ) (frames_counted : length frames ≡ place) (answers_counted : length answers ≡ place) where
      as-many : length frames ≡ length answers
      as-many = frames_counted ∙ sym answers_counted

      -- the collector was found gone at a frame
      pub answered-lost : (is : IsTurn now next place bytes None) → HasAnswered source drain old next before stream (frames ++ bytes ∷ []) (bodies ++ is.bodies) (answers ++ []) true false false
      answered-lost is = record {
        asked = asked-then old now next bodies is.bodies answers [] true left.asked is.asked;
        written = rw (append-nil answers, told-unanswered frames answers bytes as-many) left.written;
        counts = left.counts;
      }

      -- a frame was answered, and its answer written or not
      module _ {T E : Type 0} (sent : S) (turn : Turn) (is : IsTurn now next place bytes (Some turn)) (result : Result T E) (counts : Counts source.failures drain.flushes source.steady (is_err result) stream sent) where
        told-counted : length (told_each frames answers) ≡ place
        told-counted = told-length frames answers as-many ∙ answers_counted

        told-written : (written : Result T E) (over : Bool) → OnOk written (Appends (drain.contents stream) (drain.contents sent) (answer_bytes place (told_to bytes turn.answer)))
            → OnErr written (AppendsPart (drain.contents stream) (drain.contents sent) (answer_bytes place (told_to bytes turn.answer)))
            → AnswersSent answer_bytes answer_frames_from (is_unwritten (turn_fault (is_ok written) over)) (drain.contents before) (drain.contents sent) (told_each frames answers ++ told_to bytes turn.answer ∷ [])
        told-written (Ok value) true all part = sent-more answer_bytes answer_frames_from (drain.contents before) (drain.contents stream) (drain.contents sent) (told_each frames answers) (told_to bytes turn.answer) place told-counted left.written (answer_frames_from-more 0 (told_each frames answers) (told_to bytes turn.answer)) all
        told-written (Ok value) false all part = sent-more answer_bytes answer_frames_from (drain.contents before) (drain.contents stream) (drain.contents sent) (told_each frames answers) (told_to bytes turn.answer) place told-counted left.written (answer_frames_from-more 0 (told_each frames answers) (told_to bytes turn.answer)) all
        told-written (Err fault) over all part = sent-lost answer_bytes answer_frames_from (drain.contents before) (drain.contents stream) (drain.contents sent) (told_each frames answers) (told_to bytes turn.answer) place told-counted left.written part

        pub answered-turn : OnOk result (Appends (drain.contents stream) (drain.contents sent) (answer_bytes place (told_to bytes turn.answer)))
            → OnErr result (AppendsPart (drain.contents stream) (drain.contents sent) (answer_bytes place (told_to bytes turn.answer)))
            → HasAnswered source drain old next before sent (frames ++ bytes ∷ []) (bodies ++ is.bodies) (answers ++ turn.answer ∷ []) (is_lost (turn_fault (is_ok result) turn.over)) (is_unwritten (turn_fault (is_ok result) turn.over)) (is_stream_failed (turn_fault (is_ok result) turn.over))
        answered-turn all part = record {
          asked = rw (turn_not_lost (is_ok result) turn.over) (asked-then old now next bodies is.bodies answers (turn.answer ∷ []) false left.asked is.asked);
          written = rw (told-more frames answers bytes turn.answer as-many) (told-written result turn.over all part);
          counts = rw (turn_stream_failed result turn.over) (then-counts (is_err result) sent counts);
        }

  -- a whole connection was served, and its agent and stream are those that the session left
  pub served-all : (old now after : Agent) (before stream last : S) (result : Result Served ServeFault) (frames : List (List ℕ)) (bodies : List Body) (answers : List Spoken) → after ≡ now → last ≡ stream
      → IsSession Connection old.limit (length old.halves.requests.sent) (source.remaining before) (source.remaining stream) frames bodies answers (session_end Connection (result_err result))
      → IfOk result (λ served. served.frames ≡ length answers) → HasAnswered source drain old now before stream frames bodies answers (is_lost (result_err result)) (is_unwritten (result_err result)) (is_stream_failed (result_err result))
      → IsServed source drain old after before last result
  served-all old now after before stream last result frames bodies answers agent_is stream_is session answered left = rw (agent_is, stream_is) (record {
    frames = frames;
    bodies = bodies;
    answers = answers;
    session = session;
    asked = left.asked;
    written = left.written;
    answered = answered;
    counts = left.counts;
  })

pub kept-as : (now after : Agent) → after ≡ now → IsAgent now → IsAgent after
kept-as now after is kept = rw is kept
