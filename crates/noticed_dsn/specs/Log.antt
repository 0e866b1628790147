-- One log in frames: the appends of a log and then its flush, the letter that they are, and why
-- other bytes are none (this project's profile).
use Rattle.std.specs.Prelude.{◌≡◌, ◌≢◌, ℕ, ◌+◌, Bool, true, false, ◌&&◌, not, ◌==◌, List, [], ◌∷◌, ◌++◌, length, Option, Some, None, is_none, if◌then◌else◌}
use Rattle.std.specs.Io.KnownBytes.{Consumes}
use Rattle.dsn_text.specs.Key.{same_key}
use Rattle.dsn_text.specs.declared.key.Key.{Key}
use Rattle.dsn_outcome.specs.Draft.{Draft, differs}
use Rattle.dsn_outcome.specs.History.{is_empty}
use Rattle.dsn_outcome.specs.Letter.{Letter}
use Rattle.dsn_outcome.specs.Outcome.{Outcome}
use Rattle.dsn_outcome.specs.Outcomes.{most_outcomes}
use Rattle.dsn_outcome.specs.Request.{Body, Append, Flush, Discard, Forget, Bye}
use Rattle.dsn_frame.specs.Frame.{ReadsNone}
use Rattle.dsn_frame.specs.FrameFault.{frame_fault_code}
use Rattle.dsn_frame.specs.Refusal.{IsFrameRefused, refusal_code}
use Rattle.dsn_frame.specs.bodies.FrameBody.{frame, IsFrameBody}
use Rattle.dsn_frame.specs.bodies.Request.{Encodes}
use Rattle.dsn_frame.specs.declared.frame_fault.FrameFault.{FrameFault}
use Rattle.dsn_frame.specs.declared.frame_fault.FrameFault.TheVariants.{Read}
use Rattle.dsn_frame.specs.declared.refusal.Refusal.{Refusal}

-- the numbers of the faults that a daemon answers by replies
abbrev pub not_one_log : ℕ
not_one_log = 101

abbrev pub empty_log : ℕ
empty_log = 102

abbrev pub other_number : ℕ
other_number = 103

abbrev pub null_return_path : ℕ
null_return_path = 104

-- bytes whose next frame encodes this body with the number of its place; `later` is what follows it
pub record IsNextRequest (rest later : List ℕ) (place : ℕ) (body : Body) : Type 0 where
  pub bytes : List ℕ
  pub whole : IsFrameBody bytes
  pub read : Consumes (Some rest) (Some later) (frame bytes)
  pub encoded : Encodes bytes place body

-- why bytes have no next request: a frame can't be read, there is none, or it is refused
pub data IsUnreadable (rest : List ℕ) (place : ℕ) : ℕ → Type 0 where
  cut : (later : List ℕ) (fault : FrameFault) → fault ≢ Read
      → ReadsNone (Some rest) (Some later) fault
      → IsUnreadable rest place (frame_fault_code fault)
  ended : rest ≡ [] → IsUnreadable rest place not_one_log
  refused : (later bytes : List ℕ) (refusal : Refusal) → IsFrameBody bytes
      → Consumes (Some rest) (Some later) (frame bytes) → IsFrameRefused place bytes refusal
      → IsUnreadable rest place (refusal_code refusal)

-- whether a key is that of the log, if an append before it has named it
abbrev pub is_of_log : Option Key → Key → Bool
is_of_log None key = true
is_of_log (Some log) key = same_key log key

-- whether a request continues a log at this place: a further append of it, if it isn't full, or its
-- flush, if nothing follows it
abbrev pub continues_log : ℕ → Option Key → List ℕ → Body → Bool
continues_log place log later (Append id outcome) =
    is_of_log log (record { service = outcome.service; id = id }) && not (place == most_outcomes)
continues_log place log later (Flush key draft) = is_of_log log key && is_empty later
continues_log place log later (Discard key) = false
continues_log place log later (Forget key) = false
continues_log place log later Bye = false

-- bytes that begin with the frames of appends to one log: their number, the log's key if there is
-- one, the outcomes in order, and the bytes that follow
pub data Logs (bytes : List ℕ) : ℕ → Option Key → List Outcome → List ℕ → Type 0 where
  begun : Logs bytes 0 None [] bytes
  logged : (place : ℕ) (log : Option Key) (outcomes : List Outcome) (rest later id : List ℕ)
      (outcome : Outcome)
      → Logs bytes place log outcomes rest → IsNextRequest rest later place (Append id outcome)
      → continues_log place log later (Append id outcome) ≡ true
      → Logs bytes (place + 1) (Some (record { service = outcome.service; id = id }))
      (outcomes ++ outcome ∷ []) later

-- why there is no letter of a log with this draft, in this order: the log is empty, another number
-- of outcomes is expected, or the return path is null
abbrev pub lack_of : Draft → List Outcome → Option ℕ
lack_of draft outcomes =
    if length outcomes == 0 then Some empty_log
    else (if differs draft.expected (length outcomes) then Some other_number
    else (if is_none draft.return_path then Some null_return_path else None))

-- bytes that are the frames of a letter: an append of each of its outcomes in order, and then the
-- flush of its log
pub record IsLetterIn (bytes : List ℕ) (serial : ℕ) (letter : Letter) : Type 0 where
  pub place : ℕ
  pub log : Option Key
  pub rest : List ℕ
  pub logs : Logs bytes place log letter.outcomes rest
  pub flushed : IsNextRequest rest [] place (Flush letter.key letter.draft)
  pub continues_log : continues_log place log [] (Flush letter.key letter.draft) ≡ true
  pub serial_is : letter.serial ≡ serial

-- why bytes are no letter, at the first frame that doesn't continue a log: there is no next
-- request, it doesn't continue the log, or there is no letter of the log
pub data IsRefused (bytes : List ℕ) : ℕ → Type 0 where
  unreadable : (place code : ℕ) (log : Option Key) (outcomes : List Outcome) (rest : List ℕ)
      → Logs bytes place log outcomes rest → IsUnreadable rest place code → IsRefused bytes code
  other : (place : ℕ) (log : Option Key) (outcomes : List Outcome) (rest later : List ℕ)
      (body : Body)
      → Logs bytes place log outcomes rest → IsNextRequest rest later place body
      → continues_log place log later body ≡ false → IsRefused bytes not_one_log
  unsealed : (place code : ℕ) (log : Option Key) (outcomes : List Outcome) (rest later : List ℕ)
      (key : Key) (draft : Draft)
      → Logs bytes place log outcomes rest → IsNextRequest rest later place (Flush key draft)
      → continues_log place log later (Flush key draft) ≡ true → lack_of draft outcomes ≡ Some code
      → IsRefused bytes code
