-- Asks: the result of one frame that is sent to a daemon (this project's profile).
use Rattle.std.specs.Prelude.{◌≡◌, ◌≢◌, ℕ, List, Option, Some, None, Result, Ok, Err}
use Rattle.std.specs.Io.KnownBytes.{Appends, Consumes, Keeps}
use Rattle.dsn_device.specs.Transfer.{AppendsPart}
use Rattle.dsn_frame.specs.bodies.FrameBody.{frame}
use Rattle.dsn_frame.specs.bodies.Spoken.{FitsAnswer, answer_bytes, first_answer_fault}
use Rattle.dsn_frame.specs.declared.bodies.answer_fault.AnswerFault.{AnswerFault}
use Rattle.dsn_frame.specs.declared.bodies.spoken.Spoken.{Spoken}
use Rattle.dsn_frame.specs.Frame.{ReadsNext, ReadsNone}
use Rattle.noticed_lib.specs.declared.client.send_fault.SendFault.{SendFault}
use Rattle.noticed_lib.specs.declared.client.send_fault.SendFault.TheVariants.{Input, TooMany, NotSent, Unanswered, AnswerFrame, Answer, OutOfTurn, NotesLost}

-- an answer to this place came
pub record IsAnswer (place : ℕ) (unread left : Option (List ℕ)) (answer : Spoken) : Type 0 where
  pub fits : FitsAnswer place answer
  pub got : Consumes unread left (answer_bytes place answer)

-- an answer came, to another place
pub record IsAnswerOutOfTurn (place : ℕ) (unread left : Option (List ℕ)) : Type 0 where
  pub number : ℕ
  pub answer : Spoken
  pub is_answer : IsAnswer number unread left answer
  pub apart : number ≢ place

-- a frame came whose body is no answer
pub record IsFaulty (unread left : Option (List ℕ)) (fault : AnswerFault) : Type 0 where
  pub body : List ℕ
  pub got : ReadsNext unread left (Some body)
  pub first : first_answer_fault body ≡ Some fault

-- the result of sending the frame of this body at its place: the answer to it, or a fault. `sent`
-- and `later` are what the daemon was sent before and after. `unread` and `left` are what it had to
-- say before and after
abbrev pub IsAsked : ℕ → List ℕ → Option (List ℕ) → Option (List ℕ) → Option (List ℕ)
    → Option (List ℕ) → Result Spoken SendFault → Type 0
IsAsked place bytes sent later unread left (Ok answer) =
    Appends sent later (frame bytes) × IsAnswer place unread left answer
-- a part of the frame was written, and not all of it; nothing was read
IsAsked place bytes sent later unread left (Err NotSent) =
    AppendsPart sent later (frame bytes) × Keeps unread left
-- the daemon had no more to say
IsAsked place bytes sent later unread left (Err Unanswered) =
    Appends sent later (frame bytes) × ReadsNext unread left None
IsAsked place bytes sent later unread left (Err (AnswerFrame fault)) =
    Appends sent later (frame bytes) × ReadsNone unread left fault
IsAsked place bytes sent later unread left (Err (Answer fault)) =
    Appends sent later (frame bytes) × IsFaulty unread left fault
IsAsked place bytes sent later unread left (Err OutOfTurn) =
    Appends sent later (frame bytes) × IsAnswerOutOfTurn place unread left
-- other faults aren't met there
IsAsked place bytes sent later unread left (Err (Input fault)) = ⊥
IsAsked place bytes sent later unread left (Err TooMany) = ⊥
IsAsked place bytes sent later unread left (Err NotesLost) = ⊥
