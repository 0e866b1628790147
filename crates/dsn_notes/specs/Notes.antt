-- Notes: the lines of text about a run, each ended by LF alone (this project's profile).
use Rattle.std.specs.Prelude.{ℕ, suc, Bool, true, false, List, [], ◌∷◌, ◌++◌, codes, decimal, Option, Some, None}
use Rattle.std.specs.List.{flat_map}
use Rattle.dsn_text.specs.FaultCode.{no_memory_code, outbox_write_code}
use Rattle.dsn_outcome.specs.Letter.{Letter}
use Rattle.dsn_text.specs.Service.{service_letter}
use Rattle.dsn_outcome.specs.declared.answer.Reply.{Reply}
use Rattle.dsn_outcome.specs.declared.answer.Reply.TheVariants.{Logged, Closed, TableFull, LogFull, Nothing, NoReturn, Sealed, Discarded, Gone, Forgotten, NotClosed, Differs}
use Rattle.dsn_text.specs.declared.key.Key.{Key}
use Rattle.dsn_book.specs.declared.open_line.OpenLine.{OpenLine}
use Rattle.dsn_frame.specs.declared.bodies.spoken.Spoken.{Spoken}
use Rattle.dsn_frame.specs.declared.bodies.spoken.Spoken.TheVariants as spoken

-- a reply in words; the number is a place or a count
unfoldable pub reply_words : Reply → List ℕ
reply_words (Logged place) = codes "logged " ++ decimal place
reply_words Closed = codes "closed"
reply_words TableFull = codes "table full"
reply_words LogFull = codes "log full"
reply_words Nothing = codes "nothing"
reply_words (NoReturn count) = codes "no return " ++ decimal count
reply_words (Sealed count) = codes "sealed " ++ decimal count
reply_words (Discarded count) = codes "discarded " ++ decimal count
reply_words Gone = codes "gone"
reply_words Forgotten = codes "forgotten"
reply_words NotClosed = codes "not closed"
reply_words (Differs count) = codes "differs " ++ decimal count

-- an answer in words, without its serial
unfoldable pub spoken_words : Spoken → List ℕ
spoken_words (spoken.Reply replied) = reply_words replied.reply
spoken_words (spoken.Refused code) = codes "refused " ++ decimal code

-- the line of an answer: the frame's position in the input, and the words of its answer
unfoldable pub answer_line : ℕ → Spoken → List ℕ
answer_line position answer = decimal position ++ codes " " ++ spoken_words answer ++ codes "\n"

-- the lines of answers to consecutive frames from this position on
unfoldable pub answer_lines_from : ℕ → List Spoken → List ℕ
answer_lines_from position [] = []
answer_lines_from position (answer ∷ rest) =
    answer_line position answer ++ answer_lines_from (suc position) rest

-- the line of a fault: its number
unfoldable pub fault_line : ℕ → List ℕ
fault_line code = codes "fault " ++ decimal code ++ codes "\n"

-- the words of a key: its service's letter and its queue id
unfoldable pub key_words : Key → List ℕ
key_words key = (service_letter key.service ∷ codes " ") ++ key.id

-- the line of a letter that was not written
unfoldable pub unsent_line : Letter → List ℕ
unsent_line letter = codes "unsent " ++ key_words letter.key ++ codes "\n"

-- the line of a log that is still open, with how many outcomes it has
unfoldable pub open_line : OpenLine → List ℕ
open_line line =
    codes "open " ++ key_words line.key ++ codes " " ++ decimal line.count ++ codes "\n"

-- the line of a fault, if there is one
unfoldable pub fault_lines : Option ℕ → List ℕ
fault_lines None = []
fault_lines (Some code) = fault_line code

-- the line of the fault of the outbox, unless the outbox is whole
unfoldable pub outbox_lines : Bool → List ℕ
outbox_lines true = []
outbox_lines false = fault_line outbox_write_code

unfoldable pub unsent_lines : List Letter → List ℕ
unsent_lines letters = flat_map unsent_line letters

-- the lines of the open logs, or the fault if there was no memory to list them
unfoldable pub open_lines : Option (List OpenLine) → List ℕ
open_lines None = fault_line no_memory_code
open_lines (Some lines) = flat_map open_line lines

-- the last lines of a run: the fault of the reading, the fault of the outbox, the letters that were not written, and
-- the open logs
unfoldable pub end_lines : Option ℕ → Bool → List Letter → Option (List OpenLine) → List ℕ
end_lines fault whole unsent logs =
    fault_lines fault ++ (outbox_lines whole ++ (unsent_lines unsent ++ open_lines logs))
