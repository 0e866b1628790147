-- Laws of all sessions: a session is a function of its source's bytes, apart from what they don't
-- decide, and its frames are those of the bytes (this project's profile).
use Rattle.std.specs.Prelude.{◌≡◌, ℕ, ◌+◌, ◌≤◌, Bool, true, false, ◌||◌, ◌==◌, List, [], ◌∷◌, ◌++◌, Option, Some, None}
use Rattle.std.specs.List.{AllByRecursion}
use Rattle.std.specs.Option.{option_map, option_map_or}
use Rattle.dsn_text.specs.FaultCode.{connection_write_code, cut_short_code, frame_empty_code, frame_too_long_code, lane_lost_code, no_memory_code, notes_write_code, read_failed_code}
use Rattle.dsn_outcome.specs.Request.{Body}
use Rattle.dsn_outcome.specs.declared.answer.Replied.{Replied}
use Rattle.dsn_frame.specs.declared.bodies.spoken.Spoken.{Spoken}
use Rattle.dsn_frame.specs.declared.bodies.spoken.Spoken.TheVariants
use Rattle.dsn_frame.specs.Frame.{AreFramesOf}
use Rattle.dsn_frame.specs.FrameFault.{frame_fault_code}
use Rattle.dsn_frame.specs.Session.{Medium, IsSession}
use Rattle.dsn_frame.specs.declared.frame_fault.FrameFault.{FrameFault}

-- the numbers of events from outside the bytes: want of memory, a failed read, an unwritten answer
-- (to notes, to a connection), and a daemon that gave up
abbrev pub is_from_outside : ℕ → Bool
is_from_outside code =
    (code == no_memory_code) || ((code == read_failed_code) || ((code == notes_write_code)
    || ((code == connection_write_code) || (code == lane_lost_code))))

-- an answer that the bytes decide; which reply it is stays open
abbrev pub IsDecided : Spoken → Type 0
IsDecided (TheVariants.Reply reply) = Unit {0}
IsDecided (TheVariants.Refused code) = is_from_outside code ≡ false

-- a session that met no event from outside the bytes, neither in an answer nor at its end
pub record IsOfBytesAlone (answers : List Spoken) (end : Option ℕ) : Type 0 where
  pub answered : AllByRecursion IsDecided answers
  pub ended : option_map_or is_from_outside end false ≡ false

-- two answers that are both replies, or both the same refusal
abbrev pub AreAlike : Spoken → Spoken → Type 0
AreAlike (TheVariants.Reply reply) (TheVariants.Reply other) = Unit {0}
AreAlike (TheVariants.Reply reply) (TheVariants.Refused code) = ⊥
AreAlike (TheVariants.Refused code) (TheVariants.Reply reply) = ⊥
AreAlike (TheVariants.Refused code) (TheVariants.Refused other) = code ≡ other

-- lists of the same length whose answers are alike in pairs
abbrev pub AnswerAlike : List Spoken → List Spoken → Type 0
AnswerAlike [] [] = Unit {0}
AnswerAlike [] (other ∷ others) = ⊥
AnswerAlike (answer ∷ rest) [] = ⊥
AnswerAlike (answer ∷ rest) (other ∷ others) = AreAlike answer other × AnswerAlike rest others

-- two sessions that are the same except for their replies
pub record AreSame (frames other_frames : List (List ℕ)) (bodies other_bodies : List Body)
    (answers other_answers : List Spoken) (end other_end : Option ℕ) : Type 0 where
  pub frames_same : frames ≡ other_frames
  pub bodies_same : bodies ≡ other_bodies
  pub answers_alike : AnswerAlike answers other_answers
  pub end_same : end ≡ other_end

-- all sessions over these bytes that met no event from outside are the same except for their
-- replies
abbrev pub HasOneSession : Medium → ℕ → ℕ → List ℕ → Type 0
HasOneSession medium limit before bytes =
    (left other_left : Option (List ℕ)) (frames other_frames : List (List ℕ))
    (bodies other_bodies : List Body)
    (answers other_answers : List Spoken) (end other_end : Option ℕ)
    → IsSession medium limit before (Some bytes) left frames bodies answers end
    → IsOfBytesAlone answers end
    → IsSession medium limit before
    (Some bytes) other_left other_frames other_bodies other_answers other_end
    → IsOfBytesAlone other_answers other_end
    → AreSame frames other_frames bodies other_bodies answers other_answers end other_end

-- and they leave the same bytes, if both know them
abbrev pub LeavesOneRest : Medium → ℕ → ℕ → List ℕ → Type 0
LeavesOneRest medium limit before bytes =
    (left other_left : List ℕ) (frames other_frames : List (List ℕ))
    (bodies other_bodies : List Body)
    (answers other_answers : List Spoken) (end other_end : Option ℕ)
    → IsSession medium limit before (Some bytes) (Some left) frames bodies answers end
    → IsOfBytesAlone answers end
    → IsSession medium limit before (Some bytes)
    (Some other_left) other_frames other_bodies other_answers other_end
    → IsOfBytesAlone other_answers other_end
    → left ≡ other_left

-- each reply among the answers from a place on is the one given for its place
abbrev pub RepliesAre : (ℕ → Replied) → ℕ → List Spoken → Type 0
RepliesAre replies place [] = Unit {0}
RepliesAre replies place (TheVariants.Reply reply ∷ rest) =
    (reply ≡ replies place) × RepliesAre replies (place + 1) rest
RepliesAre replies place (TheVariants.Refused code ∷ rest) = RepliesAre replies (place + 1) rest

-- a session over these bytes that met no event from outside, with these replies
pub record SessionWith (medium : Medium) (limit before : ℕ) (bytes : List ℕ)
    (replies : ℕ → Replied) : Type 0 where
  pub left : Option (List ℕ)
  pub frames : List (List ℕ)
  pub bodies : List Body
  pub answers : List Spoken
  pub end : Option ℕ
  pub session : IsSession medium limit before (Some bytes) left frames bodies answers end
  pub alone : IsOfBytesAlone answers end
  pub replied : RepliesAre replies 0 answers

-- there is one for all replies, if no more requests came before it than the limit
abbrev pub HasSomeSession : Medium → ℕ → ℕ → List ℕ → Type 0
HasSomeSession medium limit before bytes =
    before ≤ limit → (replies : ℕ → Replied) → SessionWith medium limit before bytes replies

-- the ends that the frames of an input make: without a fault, at an invalid length, or at a frame
-- that is cut short
abbrev pub is_end_of_frames : Option ℕ → Bool
is_end_of_frames None = true
is_end_of_frames (Some code) =
    (code == frame_too_long_code) || ((code == frame_empty_code) || (code == cut_short_code))

-- the frames that a session took of an input with these frames and this end: the first ones, and
-- all of them if it ended as frames do
pub record AreFirstFrames (frames whole : List (List ℕ)) (end : Option ℕ)
    (fault : Option FrameFault) : Type 0 where
  pub first : (more : List (List ℕ)) × (whole ≡ frames ++ more)
  pub all : is_end_of_frames end ≡ true → frames ≡ whole
  pub end_is : is_end_of_frames end ≡ true → end ≡ option_map frame_fault_code fault

-- the frames of each session over these bytes are those of the bytes
abbrev pub TakesItsFrames : List ℕ → Type 0
TakesItsFrames bytes =
    (medium : Medium) (limit before : ℕ) (left : Option (List ℕ)) (frames whole : List (List ℕ))
    (bodies : List Body)
    (answers : List Spoken) (end : Option ℕ) (fault : Option FrameFault)
    → IsSession medium limit before (Some bytes) left frames bodies answers end
    → AreFramesOf bytes whole fault
    → AreFirstFrames frames whole end fault
