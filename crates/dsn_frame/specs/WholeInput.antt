-- Whole inputs: the frames that a session takes from bytes that are requests in turn and nothing
-- else (this project's profile).
use Rattle.std.specs.Prelude.{◌≡◌, ◌≢◌, ℕ, ◌+◌, ◌≤◌, List, [], ◌∷◌, ◌++◌, length, take, Option, Some, None}
use Rattle.std.specs.List.{flat_map, AllByRecursion}
use Rattle.dsn_text.specs.FaultCode.{lane_lost_code, no_memory_code, read_failed_code}
use Rattle.dsn_outcome.specs.Request.{Body}
use Rattle.dsn_frame.specs.bodies.FrameBody.{frame, IsFrameBody}
use Rattle.dsn_frame.specs.bodies.Request.{Encodes}
use Rattle.dsn_frame.specs.declared.bodies.spoken.Spoken.{Spoken}
use Rattle.dsn_frame.specs.declared.bodies.spoken.Spoken.TheVariants.{Reply, Refused}
use Rattle.dsn_frame.specs.Session.{Medium, Connection, unwritten_code, IsSession}

-- each of these frames encodes the body at its place, with numbers from this one on
abbrev pub EncodeInTurn : ℕ → List (List ℕ) → List Body → Type 0
EncodeInTurn number [] [] = Unit {0}
EncodeInTurn number [] (body ∷ later) = ⊥
EncodeInTurn number (bytes ∷ rest) [] = ⊥
EncodeInTurn number (bytes ∷ rest) (body ∷ later) =
    Encodes bytes number body × EncodeInTurn (number + 1) rest later

-- known bytes that are these frames, which encode these bodies in turn and are within the limit
pub record IsWholeInput (limit before : ℕ) (known : Option (List ℕ)) (frames : List (List ℕ))
    (bodies : List Body) : Type 0 where
  pub bytes : known ≡ Some (flat_map frame frames)
  pub legal : AllByRecursion IsFrameBody frames
  pub few : before + length frames ≤ limit
  pub in_turn : EncodeInTurn 0 frames bodies

-- an answer that is a reply, and an answer that is a reply or a refusal for want of memory
abbrev pub IsReply : Spoken → Type 0
IsReply (Reply reply) = Unit {0}
IsReply (Refused number) = ⊥

abbrev pub IsReplyOrNoMemory : Spoken → Type 0
IsReplyOrNoMemory (Reply reply) = Unit {0}
IsReplyOrNoMemory (Refused number) = number ≡ no_memory_code

-- no fault, or one from outside the bytes: want of memory, a failed read, an unwritten answer, or,
-- on a connection alone, a daemon that gave up
pub data IsOutside (medium : Medium) : Option ℕ → Type 0 where
  none : IsOutside medium None
  no_memory : IsOutside medium (Some no_memory_code)
  read_failed : IsOutside medium (Some read_failed_code)
  unwritten : IsOutside medium (Some (unwritten_code medium))
  given_up : medium ≡ Connection → IsOutside medium (Some lane_lost_code)

-- What a session makes of a whole input. It has no fault of the bytes, and refuses frames only for
-- want of memory. It takes the first frames, and all of them if it has no fault. If all answers are
-- replies and the daemon didn't give up, the bodies asked are the first ones of the input, one for
-- each frame taken.
pub record TakesAll (medium : Medium) (frames : List (List ℕ)) (bodies : List Body)
    (taken : List (List ℕ)) (asked : List Body) (answers : List Spoken)
    (end : Option ℕ) : Type 0 where
  pub outside : IsOutside medium end
  pub replies : AllByRecursion IsReplyOrNoMemory answers
  pub first : (more : List (List ℕ)) × (frames ≡ taken ++ more)
  pub all_taken : end ≡ None → taken ≡ frames
  pub all_asked : end ≢ Some lane_lost_code → AllByRecursion IsReply answers
      → asked ≡ take (length taken) bodies

-- a session refuses nothing without cause of an input that is requests in turn
abbrev pub IsTakenWhole : List ℕ → Type 0
IsTakenWhole bytes =
    (medium : Medium) (limit before : ℕ) (left : Option (List ℕ)) (frames taken : List (List ℕ))
    (bodies asked : List Body)
    (answers : List Spoken) (end : Option ℕ)
    → IsWholeInput limit before (Some bytes) frames bodies
    → IsSession medium limit before (Some bytes) left taken asked answers end
    → TakesAll medium frames bodies taken asked answers end
