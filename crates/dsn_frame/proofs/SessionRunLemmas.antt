-- Runs of sessions: how one begins, goes on with one frame more, and ends.
use Rattle.std.proofs.Common.{◌≡◌, ℕ, Bool, true, false, ◌+◌, ◌<◌, List, [], ◌∷◌, ◌++◌, length, length-append, refl, arith}
use Rattle.std.specs.Prelude.{Option, Some, None, Result, Ok, Err, IfOk, is_err, is_ok}
use Rattle.std.specs.Result.{result_err}
use Rattle.std.proofs.KnownBytes.{Consumes-kept}
use Rattle.dsn_outcome.specs.Request.{Body}
use Rattle.dsn_frame.specs.Frame.{ReadsNext}
use Rattle.dsn_frame.specs.ServeFault.{is_lost, is_read_failed, is_stream_failed, serve_fault_code, session_end, turn_fault}
use Rattle.dsn_frame.specs.Session.{Medium, Takes, faulty, out_of_memory, used_up, asked, GoesOn, written, unwritten, IsSession}
use Rattle.dsn_frame.specs.SessionRun.{IsFrameTurn, IsSessionRun}
use Rattle.dsn_frame.specs.bodies.FrameBody.{frame}
use Rattle.dsn_frame.specs.declared.bodies.spoken.Spoken.{Spoken}
use Rattle.dsn_frame.specs.declared.serve_fault.ServeFault.{ServeFault}
use Rattle.dsn_frame.specs.declared.session.Served.{Served}
use Rattle.dsn_frame.specs.inner.Session.{IsOpenSession, end_after}
use Rattle.dsn_frame.proofs.SentAnswersLemmas.{length-more}
use Rattle.dsn_frame.proofs.SessionLemmas.{session_begun, session_more, session_stopped}

-- a frame after which the session goes on has one answer
one_answer : (medium : Medium) (limit accepted place : ℕ) (bytes : List ℕ) (more : List Body) (said : List Spoken) (end : Option ℕ) → Takes medium limit accepted place bytes more said end → end ≡ None → length said ≡ 1
one_answer medium limit accepted place bytes _ _ _ (faulty fault is) goes_on = refl
one_answer medium limit accepted place bytes _ _ _ (out_of_memory is) goes_on = refl
one_answer medium limit accepted place bytes _ _ _ (used_up body encoded full) goes_on = refl
one_answer medium limit accepted place bytes _ _ _ (asked body reply encoded room) goes_on = refl
one_answer medium limit accepted place bytes _ _ _ takes goes_on = absurd cc

goes_on_as : (medium : Medium) (said : List Spoken) (end last : Option ℕ) → GoesOn medium said end last → last ≡ None → end ≡ None
goes_on_as medium _ _ _ (written said end) is = is
goes_on_as medium _ _ _ (unwritten answer end) is = absurd cc

-- ---- the fault after an answer

pub turn_goes : (medium : Medium) (answer : Spoken) (is_written over : Bool) → GoesOn medium (answer ∷ []) (end_after over) (session_end medium (turn_fault is_written over))
turn_goes medium answer false over = unwritten answer (end_after over)
turn_goes medium answer true true = written (answer ∷ []) (Some 46)
turn_goes medium answer true false = written (answer ∷ []) None

pub turn_not_read : (is_written over : Bool) → is_read_failed (turn_fault is_written over) ≡ false
turn_not_read false over = refl
turn_not_read true true = refl
turn_not_read true false = refl

pub turn_not_lost : (is_written over : Bool) → is_lost (turn_fault is_written over) ≡ false
turn_not_lost false over = refl
turn_not_lost true true = refl
turn_not_lost true false = refl

pub turn_stream_failed : {T E : Type 0} (written : Result T E) (over : Bool) → is_stream_failed (turn_fault (is_ok written) over) ≡ is_err written
turn_stream_failed (Ok value) true = refl
turn_stream_failed (Ok value) false = refl
turn_stream_failed (Err fault) over = refl

-- ---- a run

module _ {P : Type 0} (medium : Medium) (remaining : P → Option (List ℕ)) (limit accepted : P → ℕ) (after : P → P → List (List ℕ) → List Body → List Spoken → Option ServeFault → Type 0) (old : P) where
  -- `count` frames were taken and answered, and nothing ended the session
  pub record IsRunSoFar (now : P) (count : ℕ) : Type 0 where
    pub frames : List (List ℕ)
    pub bodies : List Body
    pub answers : List Spoken
    pub session : IsOpenSession medium (limit old) (accepted old) (remaining old) (remaining now) frames bodies answers
    pub left : after old now frames bodies answers None
    pub counted : accepted now ≡ accepted old + length bodies
    pub frames_counted : length frames ≡ count
    pub answers_counted : length answers ≡ count

  pub run_begun : after old old [] [] [] None → IsRunSoFar old 0
  run_begun left = record {
    frames = [];
    bodies = [];
    answers = [];
    session = session_begun medium (limit old) (accepted old) (remaining old);
    left = left;
    counted = omega arith;
    frames_counted = refl;
    answers_counted = refl;
  }

  -- the session ended before a frame was taken
  pub run_ended : (now last : P) (count : ℕ) (result : Result Served ServeFault) (so_far : IsRunSoFar now count)
      → IsSession medium (limit old) (accepted old) (remaining old) (remaining last) so_far.frames so_far.bodies so_far.answers (session_end medium (result_err result))
      → after old last so_far.frames so_far.bodies so_far.answers (result_err result) → IfOk result (λ served. served.frames ≡ count)
      → IsSessionRun medium remaining limit accepted after old last result
  run_ended now last count result so_far session left answered = record {
    frames = so_far.frames;
    bodies = so_far.bodies;
    answers = so_far.answers;
    session = session;
    left = left;
    answered = rw so_far.answers_counted answered;
  }

  -- the next frame was read, and taken
  module _ (now read new : P) (count : ℕ) (bytes : List ℕ) (fault : Option ServeFault) (so_far : IsRunSoFar now count) (few : count < limit old)
      (reads : ReadsNext (remaining now) (remaining read) (Some bytes)) (left : after old read so_far.frames so_far.bodies so_far.answers None)
      (limit_is : limit read ≡ limit old) (accepted_is : accepted read ≡ accepted now)
      (turn : IsFrameTurn medium remaining limit accepted after read new count bytes fault) where
    takes_here : Takes medium (limit old) (accepted old + length so_far.bodies) (length so_far.frames) bytes turn.bodies turn.said turn.end
    takes_here = rw (← so_far.counted, ← accepted_is, so_far.frames_counted, ← limit_is) turn.takes

    fewer : length so_far.frames < limit old
    fewer = rw so_far.frames_counted few

    reads_then : ReadsNext (remaining now) (remaining new) (Some bytes)
    reads_then = (reads.0, Consumes-kept (remaining now) (remaining read) (remaining new) (frame bytes) reads.1 turn.unread)

    then : after old new (so_far.frames ++ bytes ∷ []) (so_far.bodies ++ turn.bodies) (so_far.answers ++ turn.said) fault
    then = turn.then old so_far.frames so_far.bodies so_far.answers so_far.frames_counted so_far.answers_counted left

    pub run_more : fault ≡ None → IsRunSoFar new (count + 1)
    run_more goes_on =
        let end_is : turn.end ≡ None = goes_on_as medium turn.said turn.end (session_end medium fault) turn.goes (rw goes_on refl) in
        let one = one_answer medium (limit read) (accepted read) count bytes turn.bodies turn.said turn.end turn.takes end_is in
        record {
          frames = so_far.frames ++ bytes ∷ [];
          bodies = so_far.bodies ++ turn.bodies;
          answers = so_far.answers ++ turn.said;
          session = session_more medium (limit old) (accepted old) (remaining old) (remaining now) (remaining new) so_far.frames so_far.bodies so_far.answers bytes so_far.session fewer reads_then turn.bodies turn.said (rw end_is at takes_here);
          left = rw goes_on at then;
          counted = omega (arith, turn.counted, accepted_is, so_far.counted, length-append so_far.bodies turn.bodies);
          frames_counted = length-more so_far.frames bytes count so_far.frames_counted;
          answers_counted = omega (arith, one, so_far.answers_counted, length-append so_far.answers turn.said);
        }

    pub run_stopped : (stop : ServeFault) → fault ≡ Some stop → IsSessionRun medium remaining limit accepted after old new (Err stop)
    run_stopped stop is = record {
      frames = so_far.frames ++ bytes ∷ [];
      bodies = so_far.bodies ++ turn.bodies;
      answers = so_far.answers ++ turn.said;
      session = session_stopped medium (limit old) (accepted old) (remaining old) (remaining now) (remaining new) so_far.frames so_far.bodies so_far.answers bytes so_far.session fewer reads_then turn.bodies turn.said turn.end (serve_fault_code medium stop) takes_here (rw is at turn.goes);
      left = rw is at then;
      answered = tt;
    }
