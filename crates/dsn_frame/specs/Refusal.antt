-- Refusals: why a frame is refused, its answer, and whether the session goes on (this project's
-- profile).
use Rattle.std.specs.Prelude.{◌≡◌, ◌≢◌, ℕ, List, Option, Some, None, unwrap_or}
use Rattle.dsn_text.specs.FaultCode.{out_of_turn_code}
use Rattle.dsn_outcome.specs.Request.{Body}
use Rattle.dsn_frame.specs.bodies.BodyFault.{body_fault_code}
use Rattle.dsn_frame.specs.bodies.Request.{Encodes, first_body_fault}
use Rattle.dsn_frame.specs.declared.bodies.body_fault.BodyFault.TheVariants.{NoMemory}
use Rattle.dsn_frame.specs.declared.refusal.Refusal.{Refusal}
use Rattle.dsn_frame.specs.declared.refusal.Refusal.TheVariants

abbrev pub refusal_code : Refusal → ℕ
refusal_code (TheVariants.Body fault) = body_fault_code fault
refusal_code TheVariants.OutOfTurn = out_of_turn_code

-- the number of the session's end, if the refusal ends it
abbrev pub refusal_end : Refusal → Option ℕ
refusal_end (TheVariants.Body fault) = None
refusal_end TheVariants.OutOfTurn = Some out_of_turn_code

-- bytes that encode a request whose number isn't this place
pub record IsOutOfTurn (place : ℕ) (bytes : List ℕ) : Type 0 where
  pub number : ℕ
  pub body : Body
  pub encoded : Encodes bytes number body
  pub apart : number ≢ place

-- why the frame of this body is refused at its place: by the body's first fault; for want of
-- memory, if it has no fault; or because of its number
abbrev pub IsFrameRefused : ℕ → List ℕ → Refusal → Type 0
IsFrameRefused place bytes (TheVariants.Body fault) =
    fault ≡ unwrap_or (first_body_fault bytes) NoMemory
IsFrameRefused place bytes TheVariants.OutOfTurn = IsOutOfTurn place bytes
