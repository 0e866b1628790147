-- What a planned notice says of its message, as the fields of a draft.
use Rattle.std.specs.Option.{option_map}
use Rattle.std.specs.Prelude.{◌≡◌, ℕ, ◌+◌, ◌==◌, Bool, true, false, ◌&&◌, ◌||◌, nat_le, List, [], ◌++◌, length, codes, Option, Some, None, if◌then◌else◌}
use Rattle.dsn_outcome.specs.Draft.{Draft, DraftFields, first_draft_fault}
use Rattle.dsn_outcome.specs.declared.returned.Returned.{Returned}
use Rattle.dsn_outcome.specs.declared.returned.Returned.TheVariants as returned
use Rattle.dsn_outcome.specs.declared.wording.Wording.TheVariants.{ByOutcome}
use Rattle.dsn_text.specs.Optional.{unless_empty}
use Rattle.dsn_text.specs.Stamp.{last_moment}
use Rattle.dsn_text.specs.Text.{is_address, longest_header}
use Rattle.dsn_text.specs.declared.service.Service.{Service}
use Rattle.dsn_text.specs.declared.service.Service.TheVariants.{Bounce, Defer, Trace}
use Rattle.dsn_postfix.specs.PlannedNotice.{NoticeFacts}
use Rattle.dsn_postfix.specs.QuotedAddress.{needs_no_quotes}
use Rattle.dsn_postfix.specs.VerpPath.{notice_address}
use Rattle.dsn_postfix.specs.declared.returned_part.ReturnedPart.{ReturnedPart}
use Rattle.dsn_postfix.specs.declared.returned_part.ReturnedPart.TheVariants.{Whole, Header}
use Rattle.dsn_postfix_files.specs.MessageHeader.{message_header}
use Rattle.dsn_postfix_notices.specs.declared.letters.letter_fault.LetterFault.{LetterFault}
use Rattle.dsn_postfix_notices.specs.declared.letters.letter_fault.LetterFault.TheVariants.{Quotes}
use Rattle.dsn_postfix_notices.specs.letters.LetterFault.{of_draft}
use Rattle.dsn_postfix_notices.specs.letters.ReportedMessage.{MessageSaid}

-- the moment until which delivery is tried, if it has a date: only a warning of delay reports it (RFC 3464 section
-- 2.3.9)
abbrev pub moment_if_dated : ℕ → Option ℕ
moment_if_dated seconds = if nat_le seconds last_moment then Some seconds else None

abbrev pub tried_until : Service → ℕ → ℕ → Option ℕ
tried_until Bounce arrival lifetime = None
tried_until Defer arrival lifetime = moment_if_dated (arrival + lifetime)
tried_until Trace arrival lifetime = None

-- the longest sender behind `rfc822; ` in the value of an extension field, in bytes
abbrev pub longest_sender : ℕ
longest_sender = 247

abbrev pub is_said_sender : List ℕ → Bool
is_said_sender sender = is_address sender && nat_le (length sender) longest_sender

-- a field; the name includes the separator before the value
abbrev pub postfix_field : List ℕ → List ℕ → List ℕ
postfix_field name value = name ++ (value ++ codes "\n")

abbrev pub sender_field : List ℕ → List ℕ
sender_field sender =
    if is_said_sender sender then postfix_field (codes "X-Postfix-Sender: rfc822; ") sender else []

-- the fields that Postfix adds to those of the message as a whole (RFC 3464 section 2.4): its queue id, and its sender
-- if that is an address and fits
abbrev pub postfix_fields : List ℕ → List ℕ → List ℕ
postfix_fields queue_id sender =
    postfix_field (codes "X-Postfix-Queue-ID: ") queue_id ++ sender_field sender

-- a field can name the null sender, and an address without quotes (RFC 5321 section 4.1.2)
abbrev pub is_named_sender : List ℕ → Bool
is_named_sender sender = length sender == 0 || (is_address sender && needs_no_quotes sender)

-- the line with the sender that is before what is returned of a message (RFC 5321 section 4.4), as bounce(8) writes it
abbrev pub return_path_line : List ℕ → List ℕ
return_path_line sender =
    if is_named_sender sender then codes "Return-Path: <" ++ (sender ++ codes ">\n") else []

-- A message is returned whole if that is requested, if it is not longer than what the mail system returns, and if a
-- notice has room for it behind this line. Otherwise its header is returned, whatever its length.
abbrev pub is_returned_whole : ReturnedPart → ℕ → List ℕ → List ℕ → Bool
is_returned_whole Whole size_limit line text =
    nat_le (length text) size_limit && nat_le (length line + length text) longest_header
is_returned_whole Header size_limit line text = false

abbrev pub returned_text : Bool → List ℕ → List ℕ → List ℕ
returned_text true line text = line ++ text
returned_text false line text = line ++ message_header text

-- whether a notice returns its message whole
abbrev pub is_message_told : MessageSaid → NoticeFacts → Bool
is_message_told message notice =
    is_returned_whole notice.returned message.size_limit (return_path_line message.sender) message.text

-- Postfix's own smtpd takes the notice, and Postfix converts what a later server can't take, so that it may be 8bit
abbrev pub returned_as : Bool → Returned
returned_as true = returned.EightBitMessage
returned_as false = returned.Header

abbrev pub draft_fields_told : MessageSaid → NoticeFacts → DraftFields
draft_fields_told message notice = record {
  return_path = notice_address notice;
  envelope_id = message.envelope_id;
  header = returned_text (is_message_told message notice) (return_path_line message.sender) message.text;
  returned = Some (returned_as (is_message_told message notice));
  -- the wording follows the outcomes
  wording = Some ByOutcome;
  extensions = postfix_fields message.queue_id message.sender;
}

-- the first fault of the draft: an address that needs quotes in SMTP is not reported, since it could be read as another
-- address (RFC 5321 section 4.1.2)
abbrev pub first_draft_fault_told : MessageSaid → NoticeFacts → Option LetterFault
first_draft_fault_told message notice =
    if needs_no_quotes (notice_address notice) then option_map of_draft (first_draft_fault (draft_fields_told message notice))
    else Some Quotes

-- the draft says exactly this of the message
pub record IsDraftTold (message : MessageSaid) (notice : NoticeFacts) (moment arrival : ℕ) (draft : Draft) : Type 0 where
  pub moment_is : draft.moment ≡ moment
  pub arrival_is : draft.arrival ≡ arrival
  pub return_path_is : draft.return_path ≡ unless_empty (notice_address notice)
  pub envelope_id_is : draft.envelope_id ≡ unless_empty message.envelope_id
  pub header_is : draft.header ≡ (draft_fields_told message notice).header
  pub returned_is : draft.returned ≡ returned_as (is_message_told message notice)
  pub worded_by_outcome : draft.wording ≡ ByOutcome
  pub extensions_is : draft.extensions ≡ postfix_fields message.queue_id message.sender
  pub none_expected : draft.expected ≡ None
