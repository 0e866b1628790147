-- Sessions: what the frames of one connection, or of an input that is read alone, ask in turn, what
use Rattle.std.specs.Prelude.{ℕ, Bool, List, Option, Some, None, if◌then◌else◌}
use Rattle.std.specs.Io.KnownBytes.{Consumes}
use Rattle.std.specs.List.{flat_map}
use Rattle.dsn_frame.specs.Session.{Medium, SessionSoFar}
use Rattle.dsn_frame.specs.bodies.FrameBody.{frame}
use Rattle.dsn_frame.specs.declared.bodies.spoken.Spoken.{Spoken}
use Rattle.dsn_outcome.specs.Request.{Body}
use Rattle.dsn_text.specs.FaultCode.{out_of_turn_code}

-- an open session: these frames were read from a source, from `start` to what is left, and taken
pub record IsOpenSession (medium : Medium) (limit before : ℕ) (start left : Option (List ℕ))
    (frames : List (List ℕ)) (bodies : List Body) (answers : List Spoken) : Type 0 where
  pub takes : SessionSoFar medium limit before frames bodies answers None
  pub read : Consumes start left (flat_map frame frames)

-- the number of the end after an answer, if the session is over then
abbrev pub end_after : Bool → Option ℕ
end_after over = if over then Some out_of_turn_code else None
