-- Sends: the result of a client that sends the frames of an input to a daemon, and notes the answer
-- to each (this project's profile).
use Rattle.std.specs.Prelude.{◌≡◌, ℕ, suc, ◌<◌, List, [], ◌∷◌, length, Option, Some, None, Result, Ok, Err, is_some, if◌then◌else◌}
use Rattle.std.specs.Io.KnownBytes.{Appends, Consumes, Keeps}
use Rattle.std.specs.List.{flat_map, AllByRecursion}
use Rattle.std.specs.Option.{option_map}
use Rattle.dsn_device.specs.Transfer.{AppendsPart}
use Rattle.dsn_device.specs.declared.drain.Drain.{Ghosts as Drain}
use Rattle.dsn_device.specs.declared.source.Source.{Ghosts as Source}
use Rattle.dsn_frame.specs.bodies.FrameBody.{frame, IsFrameBody}
use Rattle.dsn_frame.specs.bodies.Spoken.{FitsAnswer, answer_frames_from}
use Rattle.dsn_frame.specs.declared.bodies.spoken.Spoken.{Spoken}
use Rattle.dsn_frame.specs.Frame.{ReadsNext, ReadsNone}
use Rattle.dsn_notes.specs.Notes.{answer_line, answer_lines_from}
use Rattle.noticed_lib.specs.client.Ask.{IsAsked}
use Rattle.dsn_device.specs.Counts.{Counts}
use Rattle.noticed_lib.specs.client.SendFault.{send_fault_code, is_input_failed, is_notes_failed, is_connection_failed}
use Rattle.noticed_lib.specs.declared.client.send_end.SendEnd.{SendEnd}
use Rattle.noticed_lib.specs.declared.client.send_fault.SendFault.{SendFault}
use Rattle.noticed_lib.specs.declared.client.send_fault.SendFault.TheVariants.{Input, TooMany, NotSent, Unanswered, AnswerFrame, Answer, OutOfTurn, NotesLost}

-- how many frames may be sent
abbrev pub most_frames : ℕ
most_frames = 1000000

-- what the devices of a client expose of their bytes. `input` is what is left of the input, `sent`
-- what the daemon was sent. `unread` is what is left of what it has to say, and `lines` what was
-- noted
pub record Known : Type 0 where
  pub input : Option (List ℕ)
  pub sent : Option (List ℕ)
  pub unread : Option (List ℕ)
  pub lines : Option (List ℕ)

-- answers to the frames from this place on, whose places and values fit four bytes
abbrev pub FitFrom : ℕ → List Spoken → Type 0
FitFrom place [] = Unit {0}
FitFrom place (answer ∷ rest) = FitsAnswer place answer × FitFrom (suc place) rest

-- the frames of these bodies were read and sent, and each was answered, and its answer noted
pub record AreAllAnswered (start left : Known) (frames : List (List ℕ))
    (answers : List Spoken) : Type 0 where
  pub each : length answers ≡ length frames
  pub legal : AllByRecursion IsFrameBody frames
  pub fit : FitFrom 0 answers
  pub read : Consumes start.input left.input (flat_map frame frames)
  pub sent : Appends start.sent left.sent (flat_map frame frames)
  pub got : Consumes start.unread left.unread (answer_frames_from 0 answers)
  pub noted : Appends start.lines left.lines (answer_lines_from 0 answers)

-- nothing was sent, got or noted
pub record IsSilent (left now : Known) : Type 0 where
  pub nothing_sent : Keeps left.sent now.sent
  pub nothing_got : Keeps left.unread now.unread
  pub nothing_noted : Keeps left.lines now.lines

-- the next frame was read and sent, with this result
pub record EndsAtFrame (limit count : ℕ) (left now : Known)
    (result : Result Spoken SendFault) : Type 0 where
  pub few : count < limit
  pub bytes : List ℕ
  pub read : ReadsNext left.input now.input (Some bytes)
  pub asked : IsAsked count bytes left.sent now.sent left.unread now.unread result

-- it was not answered, and nothing was noted
pub record EndsUnanswered (limit count : ℕ) (left now : Known) (fault : SendFault) : Type 0 where
  pub at_frame : EndsAtFrame limit count left now (Err fault)
  pub nothing_noted : Keeps left.lines now.lines

-- it was answered, and a part of the answer's line was written, and not all of it
pub record EndsUntold (limit count : ℕ) (left now : Known) : Type 0 where
  pub answer : Spoken
  pub at_frame : EndsAtFrame limit count left now (Ok answer)
  pub part : AppendsPart left.lines now.lines (answer_line count answer)

-- as many frames as there may be were sent, and one more is read, and not sent
pub record EndsBeyond (limit count : ℕ) (left now : Known) : Type 0 where
  pub all : count ≡ limit
  pub bytes : List ℕ
  pub read : ReadsNext left.input now.input (Some bytes)
  pub silent : IsSilent left now

-- how a send ends after `count` frames, from what was left then to what is left at last: well, at
-- the input's end; or with a fault
abbrev pub SendEnds : ℕ → ℕ → Known → Known → Option SendFault → Type 0
SendEnds limit count left now None = ReadsNext left.input now.input None × IsSilent left now
SendEnds limit count left now (Some (Input fault)) =
    ReadsNone left.input now.input fault × IsSilent left now
SendEnds limit count left now (Some TooMany) = EndsBeyond limit count left now
SendEnds limit count left now (Some NotSent) = EndsUnanswered limit count left now NotSent
SendEnds limit count left now (Some Unanswered) = EndsUnanswered limit count left now Unanswered
SendEnds limit count left now (Some (AnswerFrame fault)) =
    EndsUnanswered limit count left now (AnswerFrame fault)
SendEnds limit count left now (Some (Answer fault)) =
    EndsUnanswered limit count left now (Answer fault)
SendEnds limit count left now (Some OutOfTurn) = EndsUnanswered limit count left now OutOfTurn
SendEnds limit count left now (Some NotesLost) = EndsUntold limit count left now

-- a send of at most `limit` frames: these are the frames that were answered and noted, and how it
-- then ended
pub record Sends (limit : ℕ) (start now : Known) (frames : List (List ℕ)) (answers : List Spoken)
    (fault : Option SendFault) : Type 0 where
  pub left : Known
  pub answered : AreAllAnswered start left frames answers
  pub ends : SendEnds limit (length frames) left now fault

module _ {R S N : Type 0} (input_device : Source R) (source : Source S) (drain : Drain S)
    (notes_device : Drain N) where
  -- what these three devices expose
  abbrev pub known : R → S → N → Known
  known input stream
      notes = record {
        input = input_device.remaining input;
        sent = drain.contents stream;
        unread = source.remaining stream;
        lines = notes_device.contents notes;
      }

  -- a send over an input, a stream and notes: each device failed once where that ended it, and else
  -- not
  pub record HandsOver (input now : R) (stream later : S) (notes last : N)
      (fault : Option SendFault) : Type 0 where
    pub frames : List (List ℕ)
    pub answers : List Spoken
    pub sends : Sends most_frames (known input stream notes)
        (known now later last) frames answers fault
    pub input_counts : Counts input_device.failures input_device.flushes input_device.steady
        (is_input_failed fault) input now
    pub stream_counts : Counts source.failures source.flushes source.steady
        (is_connection_failed fault) stream later
    pub notes_counts : Counts notes_device.failures notes_device.flushes notes_device.steady
        (is_notes_failed fault) notes last

  -- the same, with the number of the fault, and the status, which is 1 where there was one
  pub record IsSend (input now : R) (stream later : S) (notes last : N)
      (end : SendEnd) : Type 0 where
    pub fault : Option SendFault
    pub hands_over : HandsOver input now stream later notes last fault
    pub fault_is : end.fault ≡ option_map send_fault_code fault
    pub status_is : end.status ≡ (if is_some end.fault then 1 else 0)
