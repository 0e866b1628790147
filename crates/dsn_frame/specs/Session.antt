-- Sessions: the requests in the frames of a connection, or of an input that is read alone, the
-- answer to each, and how the session ends (this project's profile).
use Rattle.std.specs.Prelude.{◌≡◌, ◌≢◌, ℕ, ◌+◌, ◌<◌, List, [], ◌∷◌, ◌++◌, length, Option, Some, None}
use Rattle.std.specs.Io.KnownBytes.{Consumes, IsAtEnd}
use Rattle.std.specs.List.{flat_map}
use Rattle.dsn_text.specs.FaultCode.{connection_write_code, lane_lost_code, no_memory_code, notes_write_code, out_of_turn_code, too_many_frames_code, used_up_code}
use Rattle.dsn_outcome.specs.Request.{Body}
use Rattle.dsn_outcome.specs.declared.answer.Replied.{Replied}
use Rattle.dsn_frame.specs.bodies.BodyFault.{body_fault_code}
use Rattle.dsn_frame.specs.bodies.FrameBody.{frame, IsFrameBody}
use Rattle.dsn_frame.specs.bodies.Request.{Encodes, first_body_fault}
use Rattle.dsn_frame.specs.declared.bodies.body_fault.BodyFault.{BodyFault}
use Rattle.dsn_frame.specs.declared.bodies.spoken.Spoken.{Spoken}
use Rattle.dsn_frame.specs.declared.bodies.spoken.Spoken.TheVariants
use Rattle.dsn_frame.specs.Frame.{ReadsNone}
use Rattle.dsn_frame.specs.FrameFault.{frame_fault_code}
use Rattle.dsn_frame.specs.declared.frame_fault.FrameFault.{FrameFault}

-- The medium of a session: an input that is read alone, or a connection to a daemon, which may give
-- up
--
-- One definition serves both. They differ in the number of an unwritten answer, 33 in notes and 35
-- on a connection, and only a connection has the fault 41 (the daemon gave up). The refusal 44 (no
-- further request is accepted) needs requests of earlier sessions. The definition leaves the
-- replies open: the history decides them.
pub data Medium : Type 0 where
  Input : Medium
  Connection : Medium

-- the number of the end at an unwritten answer: to the notes of a run, or to a connection
abbrev pub unwritten_code : Medium → ℕ
unwritten_code Input = notes_write_code
unwritten_code Connection = connection_write_code

-- The result of one frame at its place, after `accepted` requests of at most `limit`. It is the
-- body that is asked, the answer, and the number of the session's end, each of them if there is
-- one.
pub data Takes (medium : Medium) (limit accepted place : ℕ) (bytes : List ℕ) : List Body
    → List Spoken → Option ℕ → Type 0 where
  -- a body with a fault is refused with the number of its first fault
  faulty : (fault : BodyFault) → first_body_fault bytes ≡ Some fault
      → Takes medium limit accepted place bytes []
      (TheVariants.Refused (body_fault_code fault) ∷ []) None
  -- a body without a fault may be refused for want of memory
  out_of_memory : first_body_fault bytes ≡ None
      → Takes medium limit accepted place bytes [] (TheVariants.Refused no_memory_code ∷ []) None
  -- a body whose number isn't the frame's place is refused, and ends the session
  out_of_turn : (number : ℕ) (body : Body) → Encodes bytes number body → number ≢ place
      → Takes medium limit accepted place bytes [] (TheVariants.Refused out_of_turn_code ∷ [])
      (Some out_of_turn_code)
  -- a body is refused once the limit of accepted requests is reached
  used_up : (body : Body) → Encodes bytes place body → accepted ≡ limit
      → Takes medium limit accepted place bytes [] (TheVariants.Refused used_up_code ∷ []) None
  -- any other body is asked, and gets a reply
  asked : (body : Body) (reply : Replied) → Encodes bytes place body → accepted < limit
      → Takes medium limit accepted place bytes (body ∷ []) (TheVariants.Reply reply ∷ []) None
  -- on a connection the daemon may have given up before the body is asked
  given_up : (body : Body) → Encodes bytes place body → medium ≡ Connection
      → Takes medium limit accepted place bytes [] [] (Some lane_lost_code)
  -- or it gave up after that, and there is no reply
  given_up_after : (body : Body) → Encodes bytes place body → accepted < limit
      → medium ≡ Connection
      → Takes medium limit accepted place bytes (body ∷ []) [] (Some lane_lost_code)

-- the end after a frame: that of the frame, or that of an unwritten answer
pub data GoesOn (medium : Medium) : List Spoken → Option ℕ → Option ℕ → Type 0 where
  written : (answers : List Spoken) (end : Option ℕ) → GoesOn medium answers end end
  unwritten : (answer : Spoken) (end : Option ℕ)
      → GoesOn medium (answer ∷ []) end (Some (unwritten_code medium))

-- The session so far: the bodies of its frames in order, the bodies asked among them, the answers,
-- and the end at the last frame, if it ended there. `before` is the number of requests accepted
-- before the session.
pub data SessionSoFar (medium : Medium) (limit before : ℕ) : List (List ℕ) → List Body
    → List Spoken → Option ℕ → Type 0 where
  begun : SessionSoFar medium limit before [] [] [] None
  taken :
      (frames : List (List ℕ)) (bodies more : List Body) (answers said : List Spoken)
      (bytes : List ℕ) (end last : Option ℕ)
      → SessionSoFar medium limit before frames bodies answers None
      → length frames < limit → IsFrameBody bytes
      → Takes medium limit (before + length bodies) (length frames) bytes more said end
      → GoesOn medium said end last
      → SessionSoFar medium limit before (frames ++ bytes ∷ []) (bodies ++ more)
      (answers ++ said) last

-- How a session ends after `count` frames: as the last frame ended it, without a fault at the
-- input's end, or with the number of a fault. `left` was unread then, and `now` is unread at last.
pub data SessionEnds (medium : Medium) (limit count : ℕ) (made : Option ℕ)
    (left now : Option (List ℕ)) : Option ℕ → Type 0 where
  stopped : (code : ℕ) → made ≡ Some code → left ≡ now
      → SessionEnds medium limit count made left now (Some code)
  well : made ≡ None → IsAtEnd left → IsAtEnd now → SessionEnds medium limit count made left now None
  -- the next frame can't be read: its length is invalid, it is cut short, a read fails, or memory
  -- for it is refused
  cut : made ≡ None → (fault : FrameFault) → ReadsNone left now fault
      → SessionEnds medium limit count made left now (Some (frame_fault_code fault))
  -- `limit` frames were taken, and one more is read
  too_many : made ≡ None → (bytes : List ℕ) → count ≡ limit → IsFrameBody bytes
      → Consumes left now (frame bytes) → SessionEnds medium limit count made left now (Some too_many_frames_code)
  -- memory for the logs of an input that is read alone is refused before anything is read
  no_memory_for_book : medium ≡ Input → made ≡ None → count ≡ 0 → left ≡ now
      → SessionEnds medium limit count made left now (Some no_memory_code)

-- A session over the bytes of a source, from `start` to the bytes unread at last, `now`. It has the
-- bodies of the frames taken, the bodies asked among them, the answers, and the number of its
-- fault, if it had one.
pub record IsSession (medium : Medium) (limit before : ℕ) (start now : Option (List ℕ))
    (frames : List (List ℕ)) (bodies : List Body) (answers : List Spoken)
    (end : Option ℕ) : Type 0 where
  pub made : Option ℕ
  pub takes : SessionSoFar medium limit before frames bodies answers made
  pub left : Option (List ℕ)
  pub read : Consumes start left (flat_map frame frames)
  pub ends : SessionEnds medium limit (length frames) made left now end
