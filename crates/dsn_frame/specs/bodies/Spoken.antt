-- Answers in bytes: the bytes that encode an answer, and why bytes are refused (this project's
-- profile).
use Rattle.std.specs.Prelude.{◌≡◌, ℕ, suc, ◌<◌, ◌^◌, Bool, true, false, ◌&&◌, ◌||◌, not, ◌==◌, nat_le, List, [], ◌∷◌, ◌++◌, length, drop, Option, None, IfSome, slice_get, if◌then◌else◌}
use Rattle.std.specs.Int.{w32, w64, to_be_bytes, from_be_bytes}
use Rattle.std.specs.Option.{option_map_or}
use Rattle.dsn_outcome.specs.History.{plain}
use Rattle.dsn_outcome.specs.Outcome.{first_failed}
use Rattle.dsn_outcome.specs.declared.answer.Replied.{Replied}
use Rattle.dsn_outcome.specs.declared.answer.Reply.{Reply}
use Rattle.dsn_outcome.specs.declared.answer.Reply.TheVariants.{Logged, Closed, TableFull, LogFull, Nothing, NoReturn, Sealed, Discarded, Gone, Forgotten, NotClosed, Differs}
use Rattle.dsn_frame.specs.bodies.FrameBody.{frame}
use Rattle.dsn_frame.specs.declared.bodies.answer_fault.AnswerFault.{AnswerFault}
use Rattle.dsn_frame.specs.declared.bodies.answer_fault.AnswerFault.TheVariants as faults
use Rattle.dsn_frame.specs.declared.bodies.spoken.Spoken.{Spoken}
use Rattle.dsn_frame.specs.declared.bodies.spoken.Spoken.TheVariants as spoken

-- ---- how an answer is written

-- the byte of each reply
abbrev pub reply_kind : Reply → ℕ
reply_kind (Logged place) = 1
reply_kind Closed = 2
reply_kind TableFull = 3
reply_kind LogFull = 4
reply_kind Nothing = 5
reply_kind (NoReturn count) = 6
reply_kind (Sealed count) = 7
reply_kind (Discarded count) = 8
reply_kind Gone = 9
reply_kind Forgotten = 11
reply_kind NotClosed = 12
reply_kind (Differs count) = 13

-- the number in a reply: a place in a log, or a count of outcomes; 0 in a reply without one
abbrev pub reply_value : Reply → ℕ
reply_value (Logged place) = place
reply_value Closed = 0
reply_value TableFull = 0
reply_value LogFull = 0
reply_value Nothing = 0
reply_value (NoReturn count) = count
reply_value (Sealed count) = count
reply_value (Discarded count) = count
reply_value Gone = 0
reply_value Forgotten = 0
reply_value NotClosed = 0
reply_value (Differs count) = count

-- a refusal has its own kind byte, and its number as the value
abbrev pub spoken_kind : Spoken → ℕ
spoken_kind (spoken.Reply replied) = reply_kind replied.reply
spoken_kind (spoken.Refused code) = 10

abbrev pub spoken_value : Spoken → ℕ
spoken_value (spoken.Reply replied) = reply_value replied.reply
spoken_value (spoken.Refused code) = code

-- the serial of the reported notice, if there is one
abbrev pub spoken_serial : Spoken → Option ℕ
spoken_serial (spoken.Reply replied) = replied.serial
spoken_serial (spoken.Refused code) = None

-- a serial in bytes, if there is one
abbrev pub serial_bytes : Option ℕ → List ℕ
serial_bytes serial = option_map_or (to_be_bytes w64) serial []

-- an answer's body: version 1, the kind byte, the place of the frame that is answered, the value,
-- and the serial, if there is one
unfoldable pub answer_body : ℕ → Spoken → List ℕ
answer_body number said =
    1 ∷ spoken_kind said
    ∷ (to_be_bytes w32 number
    ++ (to_be_bytes w32 (spoken_value said) ++ serial_bytes (spoken_serial said)))

-- an answer's frame
unfoldable pub answer_bytes : ℕ → Spoken → List ℕ
answer_bytes number said = frame (answer_body number said)

-- the frames of answers to the frames from this place on
unfoldable pub answer_frames_from : ℕ → List Spoken → List ℕ
answer_frames_from place [] = []
answer_frames_from place (answer ∷ rest) =
    answer_bytes place answer ++ answer_frames_from (suc place) rest

-- the kind byte of an answer that reports a notice
abbrev pub sealed_kind : ℕ
sealed_kind = 7

-- both numbers fit four bytes, and a serial fits eight; only an answer that reports a notice has
-- one
pub record FitsAnswer (number : ℕ) (said : Spoken) : Type 0 where
  pub number_fits : number < 2 ^ 32
  pub value_fits : spoken_value said < 2 ^ 32
  pub serial_fits : IfSome (spoken_serial said)
      (λ serial. (spoken_kind said ≡ sealed_kind) × (serial < 2 ^ 64))

-- ---- the answer that a frame gets

-- whether the answer to a frame with this body includes a serial: only in version 3
abbrev pub says_serial : List ℕ → Bool
says_serial bytes = option_map_or (λ version. version == 3) (slice_get bytes 0) false

-- an answer, as a frame with this body gets it
abbrev pub told_to : List ℕ → Spoken → Spoken
told_to bytes (spoken.Reply replied) =
    spoken.Reply (if says_serial bytes then replied else plain replied.reply)
told_to bytes (spoken.Refused code) = spoken.Refused code

-- these answers, as frames with these bodies get them, one for each frame
abbrev pub told_each : List (List ℕ) → List Spoken → List Spoken
told_each [] answers = []
told_each (bytes ∷ frames) [] = []
told_each (bytes ∷ frames) (answer ∷ answers) = told_to bytes answer ∷ told_each frames answers

-- ---- replies

-- the reply that an answer is, if it is one
abbrev pub reply_of : Spoken → List Replied
reply_of (spoken.Reply replied) = replied ∷ []
reply_of (spoken.Refused code) = []

-- ---- refusals

-- the kind bytes of replies and of a refusal
abbrev pub is_spoken_kind : ℕ → Bool
is_spoken_kind kind = nat_le 1 kind && nat_le kind 13

-- the kind bytes of replies that have no value: closed, table full, log full, nothing, gone,
-- forgotten, and not closed
abbrev pub is_without_value : ℕ → Bool
is_without_value kind =
    (nat_le 2 kind && nat_le kind 5) || ((kind == 9) || (nat_le 11 kind && nat_le kind 12))

-- the value of an answer without a serial: the last four of ten bytes
abbrev pub value_at : List ℕ → ℕ
value_at bytes = from_be_bytes w32 (drop 6 bytes)

-- whether no byte follows an answer's body: it has at most 10 bytes, or 18 if it reports a notice
-- and its serial
abbrev pub is_without_rest : List ℕ → Bool
is_without_rest bytes =
    nat_le (length bytes) 10
    || ((length bytes == 18) && option_map_or (λ kind. kind == sealed_kind) (slice_get bytes 1) false)

-- the checks in order: the first and the second byte, if present, are valid; there are 10 bytes, or
-- 18; and the value is 0 if the reply has none
abbrev pub answer_checks : List ℕ → List (Bool × AnswerFault)
answer_checks bytes =
    (option_map_or (λ version. version == 1) (slice_get bytes 0) true, faults.Version)
    ∷ (option_map_or is_spoken_kind (slice_get bytes 1) true, faults.Kind)
    ∷ (nat_le 10 (length bytes), faults.Short)
    ∷ (is_without_rest bytes, faults.Extra)
    ∷ (
      option_map_or (λ kind. not (is_without_value kind) || (value_at bytes == 0))
          (slice_get bytes 1) true,
      faults.Value,
    )
    ∷ []

-- the first fault of an answer's body, if it has one
unfoldable pub first_answer_fault : List ℕ → Option AnswerFault
first_answer_fault bytes = first_failed (answer_checks bytes)
