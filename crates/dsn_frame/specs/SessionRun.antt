-- Runs of sessions: the turn of one frame, and a whole session, for any responder.
use Rattle.std.specs.Prelude.{◌≡◌, ℕ, ◌+◌, List, [], ◌∷◌, ◌++◌, length, Option, None, Result, IfOk}
use Rattle.std.specs.Io.KnownBytes.{Keeps}
use Rattle.std.specs.Result.{result_err}
use Rattle.dsn_outcome.specs.Request.{Body}
use Rattle.dsn_frame.specs.ServeFault.{session_end}
use Rattle.dsn_frame.specs.Session.{Medium, Takes, GoesOn, IsSession}
use Rattle.dsn_frame.specs.declared.bodies.spoken.Spoken.{Spoken}
use Rattle.dsn_frame.specs.declared.serve_fault.ServeFault.{ServeFault}
use Rattle.dsn_frame.specs.declared.session.Served.{Served}

module _ {P : Type 0} (medium : Medium) (remaining : P → Option (List ℕ)) (limit accepted : P → ℕ)
    (after : P → P → List (List ℕ) → List Body → List Spoken → Option ServeFault → Type 0) where
  -- the frame with this body was taken at its place, and its answer was written or lost
  pub record IsFrameTurn (old new : P) (place : ℕ) (bytes : List ℕ)
      (fault : Option ServeFault) : Type 0 where
    pub bodies : List Body
    pub said : List Spoken
    pub end : Option ℕ
    pub takes : Takes medium (limit old) (accepted old) place bytes bodies said end
    pub goes : GoesOn medium said end (session_end medium fault)
    pub counted : accepted new ≡ accepted old + length bodies
    pub limited : limit new ≡ limit old
    pub unread : Keeps (remaining old) (remaining new)
    pub then : (start : P) (frames : List (List ℕ)) (before : List Body) (answers : List Spoken)
        → length frames ≡ place → length answers ≡ place → after start old frames before answers None
        → after start new (frames ++ bytes ∷ []) (before ++ bodies) (answers ++ said) fault

  -- a session over the unread bytes, and what it left
  pub record IsSessionRun (old new : P) (result : Result Served ServeFault) : Type 0 where
    pub frames : List (List ℕ)
    pub bodies : List Body
    pub answers : List Spoken
    pub session : IsSession medium (limit old) (accepted old) (remaining old) (remaining new) frames
        bodies answers (session_end medium (result_err result))
    pub left : after old new frames bodies answers (result_err result)
    pub answered : IfOk result (λ served. served.frames ≡ length answers)
