-- What holds of all sends: a send is a session, seen from the client's side (this project's
-- profile).
use Rattle.std.specs.Prelude.{◌≡◌, ℕ, List, ◌++◌, Option, Some, None}
use Rattle.dsn_outcome.specs.Request.{Body}
use Rattle.dsn_frame.specs.bodies.Spoken.{answer_frames_from, told_each}
use Rattle.dsn_frame.specs.declared.bodies.spoken.Spoken.{Spoken}
use Rattle.dsn_frame.specs.Session.{Connection, IsSession}
use Rattle.dsn_frame.specs.declared.frame_fault.FrameFault.TheVariants.{NoMemory, TooLong, Empty, CutShort, Read}
use Rattle.noticed_lib.specs.client.Send.{FitFrom, Known, Sends}
use Rattle.noticed_lib.specs.declared.client.send_fault.SendFault.{SendFault}
use Rattle.noticed_lib.specs.declared.client.send_fault.SendFault.TheVariants.{Input, TooMany, NotSent, Unanswered, AnswerFrame, Answer, OutOfTurn, NotesLost}

-- no fault, or one that no answer is to blame for. An answer's frame fails only if memory is
-- refused or a read fails, and its body is an answer to the frame's place
abbrev pub IsBlameless : Option SendFault → Type 0
IsBlameless None = Unit {0}
IsBlameless (Some (Input fault)) = Unit {0}
IsBlameless (Some TooMany) = Unit {0}
IsBlameless (Some NotSent) = Unit {0}
IsBlameless (Some Unanswered) = Unit {0}
IsBlameless (Some (AnswerFrame NoMemory)) = Unit {0}
IsBlameless (Some (AnswerFrame TooLong)) = ⊥
IsBlameless (Some (AnswerFrame Empty)) = ⊥
IsBlameless (Some (AnswerFrame CutShort)) = ⊥
IsBlameless (Some (AnswerFrame Read)) = Unit {0}
IsBlameless (Some (Answer fault)) = ⊥
IsBlameless (Some OutOfTurn) = ⊥
IsBlameless (Some NotesLost) = Unit {0}

-- a client that noted these answers of those that were given: the first ones, without a fault of
-- theirs, and all of them where none came any more
pub record Sees (given noted : List Spoken) (fault : Option SendFault) : Type 0 where
  pub first : (more : List Spoken) × (given ≡ noted ++ more)
  pub blameless : IsBlameless fault
  pub none_left : fault ≡ Some Unanswered → noted ≡ given

-- of a daemon that has the frames of these answers to say, in turn from the first place, a client
-- notes the first ones
abbrev pub SeesAnswers : List Spoken → Type 0
SeesAnswers given =
    (most : ℕ) (start now : Known) (frames : List (List ℕ)) (noted : List Spoken)
    (fault : Option SendFault)
    → start.unread ≡ Some (answer_frames_from 0 given) → FitFrom 0 given
    → Sends most start now frames noted fault
    → Sees given noted fault

-- the same for the answers of a session over the bytes that the client wrote. A send that ends well
-- notes all of them, each as its frame's version has it
abbrev pub SeesSession : List Spoken → Type 0
SeesSession given =
    (limit before most : ℕ) (start now : Known) (earlier wrote : List ℕ) (left : Option (List ℕ))
    (frames taken : List (List ℕ))
    (bodies : List Body) (noted : List Spoken) (end : Option ℕ)
    → start.unread ≡ Some (answer_frames_from 0 (told_each taken given)) → FitFrom 0 (told_each taken given)
    → start.sent ≡ Some earlier → now.sent ≡ Some (earlier ++ wrote)
    → IsSession Connection limit before (Some wrote) left taken bodies given end
    → Sends most start now frames noted None
    → noted ≡ told_each taken given
