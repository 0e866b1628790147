-- Calls from C: what a call writes into the room that it gets, and which fault it names (this
-- project's profile).
use Rattle.std.specs.Prelude.{◌≡◌, ℕ, ◌==◌, nat_le, List, ◌++◌, length, drop, codes, if◌then◌else◌}
use Rattle.dsn_text.specs.FaultCode.{bad_host_code, no_memory_code}
use Rattle.dsn_text.specs.FaultWords.{fault_words}
use Rattle.dsn_outcome.specs.Letter.{Letter}
use Rattle.dsn_report.specs.Site.{IsHost}
use Rattle.noticed_dsn.specs.Log.{IsLetterIn, IsRefused, not_one_log, empty_log, other_number, null_return_path}

-- the room with a text at its front, if the text fits
abbrev pub at_front : List ℕ → List ℕ → List ℕ
at_front text room =
    if nat_le (length text) (length room) then text ++ drop (length text) room else room

-- what a call leaves: the room, the length that it returns, and the number of a fault. A text is at
-- the front of the room if it fits, and its length tells whether it did. After a fault the room is
-- as it was
pub data GivesText (is_text : List ℕ → Type 0) (is_fault : ℕ → Type 0) (old new : List ℕ) : ℕ → ℕ
    → Type 0 where
  gives : (text : List ℕ) → is_text text → new ≡ at_front text old
      → GivesText is_text is_fault old new (length text) 0
  refuses : (code : ℕ) → is_fault code → new ≡ old → GivesText is_text is_fault old new 0 code

-- the text that is made of the letter in frames
pub record IsTextOf (made : Letter → List ℕ) (frames : List ℕ) (serial : ℕ)
    (text : List ℕ) : Type 0 where
  pub letter : Letter
  pub read : IsLetterIn frames serial letter
  pub text_is : text ≡ made letter

-- why a call makes no text: its host is no host name, its frames are no letter, or memory was
-- refused
pub data IsCallRefused (host frames : List ℕ) : ℕ → Type 0 where
  bad_host : ¬ IsHost host → IsCallRefused host frames bad_host_code
  no_letter : (code : ℕ) → IsHost host → IsRefused frames code → IsCallRefused host frames code
  no_memory : IsCallRefused host frames no_memory_code

-- the words of a fault's number
abbrev pub library_words : ℕ → List ℕ
library_words code =
    if code == not_one_log
    then codes "the frames are not the appends of one log and then its flush"
    else (if code == empty_log then codes "the log is empty"
    else (if code == other_number then codes "the flush expects another number of outcomes"
    else (if code == null_return_path then codes "the return path is null"
    else fault_words code)))
