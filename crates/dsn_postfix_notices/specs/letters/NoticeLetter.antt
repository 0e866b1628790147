-- The letter of a planned notice: its log's key, what it says of the message, and the outcome of each recipient, in its
-- order.
use Rattle.std.specs.Option.{option_map, option_map_or}
use Rattle.std.specs.Prelude.{◌≡◌, ℕ, Bool, ◌&&◌, nat_le, List, [], ◌∷◌, length, map, Option, Some, None, if◌then◌else◌}
use Rattle.dsn_outcome.specs.Letter.{Letter}
use Rattle.dsn_outcome.specs.Outcomes.{most_outcomes}
use Rattle.dsn_text.specs.Stamp.{last_moment}
use Rattle.dsn_text.specs.declared.service.Service.{Service}
use Rattle.dsn_postfix.specs.PlannedNotice.{NoticeFacts}
use Rattle.dsn_postfix_files.specs.LogRecord.{LoggedFields}
use Rattle.dsn_postfix_notices.specs.declared.letters.letter_fault.LetterFault.{LetterFault}
use Rattle.dsn_postfix_notices.specs.declared.letters.letter_fault.LetterFault.TheVariants.{Count, Arrival}
use Rattle.dsn_postfix_notices.specs.letters.NoticeDraft.{IsDraftTold, first_draft_fault_told, tried_until}
use Rattle.dsn_postfix_notices.specs.letters.ReportedMessage.{MessageSaid}
use Rattle.dsn_postfix_notices.specs.letters.ToldOutcome.{first_told_fault, outcome_told}

-- the first value, or else the second
abbrev pub first_of : {F : Type 0} → Option F → Option F → Option F
first_of None later = later
first_of (Some found) later = Some found

-- the first fault of the outcomes of some records
abbrev pub first_fault_of_told : Service → Option ℕ → List LoggedFields → Option LetterFault
first_fault_of_told service until [] = None
first_fault_of_told service until (fields ∷ rest) =
    first_of (first_told_fault service until fields) (first_fault_of_told service until rest)

abbrev pub has_a_count : List LoggedFields → Bool
has_a_count told = nat_le 1 (length told) && nat_le (length told) most_outcomes

-- the first fault of a notice about a message that arrived at this moment
abbrev pub first_fault_at : MessageSaid → NoticeFacts → ℕ → Option LetterFault
first_fault_at message notice arrival =
    if nat_le arrival last_moment
    then
    first_of (first_draft_fault_told message notice)
    (first_fault_of_told notice.service (tried_until notice.service arrival message.lifetime) notice.outcomes)
    else Some Arrival

-- the first fault of a planned notice, in the order of the variants; those of outcomes are tested record by record
abbrev pub first_letter_fault : MessageSaid → NoticeFacts → Option LetterFault
first_letter_fault message notice =
    if has_a_count notice.outcomes then option_map_or (first_fault_at message notice) message.arrival (Some Arrival)
    else Some Count

-- the letter of a planned notice: made at `moment`, about a message that arrived at `arrival`
pub record IsLetterOf (message : MessageSaid) (notice : NoticeFacts) (moment serial arrival : ℕ) (letter : Letter) : Type 0 where
  pub came : message.arrival ≡ Some arrival
  pub service_is : letter.key.service ≡ notice.service
  pub id_is : letter.key.id ≡ message.queue_id
  pub draft_is : IsDraftTold message notice moment arrival letter.draft
  pub outcomes_are : letter.outcomes
      ≡ map (outcome_told notice.service (tried_until notice.service arrival message.lifetime)) notice.outcomes
  pub serial_is : letter.serial ≡ serial
