-- The recipients of a queue file: each has a record, and the records before it may have further
-- facts of it.
use Rattle.std.specs.Prelude.{◌≡◌, ℕ, List, [], ◌∷◌, Option, Some, None, Result, MatchOption, MatchResult, ◌==◌, codes, if◌then◌else◌}
use Rattle.dsn_postfix_files.specs.LogLine.{value_named}
use Rattle.dsn_postfix_files.specs.LogRecord.{number_if_said, number_or_0, written_number}
use Rattle.dsn_postfix_files.specs.QueueListing.{BrokenOff, QueueEnding, RecordsFrom, WholeFile}
use Rattle.dsn_postfix_files.specs.QueueRecord.{PlacedBytes}
use Rattle.dsn_postfix_files.specs.QueueWalk.{QueueReading}
use Rattle.dsn_postfix_files.specs.declared.log_field.LogField.TheVariants.{NotifyFlags}
use Rattle.dsn_postfix_files.specs.declared.queue_broken.QueueBroken.{QueueBroken}
use Rattle.dsn_postfix_files.specs.declared.queued_recipient.QueuedRecipient.{QueuedRecipient}
use Rattle.dsn_postfix_files.specs.declared.recipient_state.RecipientState.{RecipientState}
use Rattle.dsn_postfix_files.specs.declared.recipient_state.RecipientState.TheVariants.{Waiting, Done, Removed}

-- the state of a recipient, by the type of its record: `R`, `D` or `/`
abbrev pub state_of_kind : ℕ → Option RecipientState
state_of_kind kind =
    if kind == 82 then Some Waiting
    else (if kind == 68 then Some Done
    else (if kind == 47 then Some Removed else None))

-- the facts before a recipient's record
pub record SaidBefore : Type 0 where
  pub original : List ℕ
  pub dsn_original : List ℕ
  pub notify_flags : ℕ

abbrev pub nothing_before : SaidBefore
nothing_before = record { original = []; dsn_original = []; notify_flags = 0 }

abbrev pub with_original : SaidBefore → List ℕ → SaidBefore
with_original before text = record { original = text; dsn_original = before.dsn_original; notify_flags = before.notify_flags }

abbrev pub with_dsn_original : SaidBefore → List ℕ → SaidBefore
with_dsn_original before text = record { original = before.original; dsn_original = text; notify_flags = before.notify_flags }

-- unknown flags are a missing fact
abbrev pub with_notify : SaidBefore → List ℕ → SaidBefore
with_notify before text = record { original = before.original; dsn_original = before.dsn_original; notify_flags = number_or_0 (number_if_said NotifyFlags (written_number text)) }

-- an attribute is equivalent to a record with a type of its own
abbrev pub with_named : SaidBefore → Option (List ℕ) → Option (List ℕ) → SaidBefore
with_named before (Some text) flags = with_dsn_original before text
with_named before None (Some text) = with_notify before text
with_named before None None = before

abbrev pub with_attribute : SaidBefore → List ℕ → SaidBefore
with_attribute before bytes = with_named before (value_named (codes "dsn_orig_rcpt") bytes) (value_named (codes "notify_flags") bytes)

-- the types: `O` the original recipient, `o` the one that the sender named, `n` the flags, `A` an
-- attribute; other records have no facts of a recipient
unfoldable pub after_record : SaidBefore → PlacedBytes → SaidBefore
after_record before placed =
    if placed.kind == 79 then with_original before placed.bytes
    else (if placed.kind == 111 then with_dsn_original before placed.bytes
    else (if placed.kind == 110 then with_notify before placed.bytes
    else (if placed.kind == 65 then with_attribute before placed.bytes else before)))

-- a recipient, with the place of its record
pub record RecipientFacts : Type 0 where
  pub place : ℕ
  pub address : List ℕ
  pub original : List ℕ
  pub dsn_original : List ℕ
  pub notify_flags : ℕ
  pub state : RecipientState

abbrev pub recipient_facts_in : QueuedRecipient → RecipientFacts
recipient_facts_in recipient = record {
  place = recipient.place;
  address = recipient.address.now;
  original = recipient.original.now;
  dsn_original = recipient.dsn_original.now;
  notify_flags = recipient.notify_flags;
  state = recipient.state;
}

abbrev pub recipient_with : SaidBefore → PlacedBytes → RecipientState → RecipientFacts
recipient_with before placed state = record {
  place = placed.place;
  address = placed.bytes;
  original = before.original;
  dsn_original = before.dsn_original;
  notify_flags = before.notify_flags;
  state = state;
}

-- all recipients of these records, in order; facts belong to the next recipient only
abbrev pub recipient_or_more : Option RecipientState → SaidBefore → PlacedBytes → List RecipientFacts → List RecipientFacts → List RecipientFacts
recipient_or_more (Some state) before placed others more = recipient_with before placed state ∷ others
recipient_or_more None before placed others more = more

abbrev pub recipients_after : SaidBefore → List PlacedBytes → List RecipientFacts
recipients_after before [] = []
recipients_after before (placed ∷ records) =
    recipient_or_more (state_of_kind placed.kind) before placed (recipients_after nothing_before records) (recipients_after (after_record before placed) records)

abbrev pub recipients_of : List PlacedBytes → List RecipientFacts
recipients_of records = recipients_after nothing_before records

-- ---- a reading of the recipients

-- these records follow from here on, and these are their recipients
pub record RecipientsLeft (reading : QueueReading) (before : SaidBefore) (recipients : List RecipientFacts) (ending : QueueEnding) : Type 0 where
  pub records : List PlacedBytes
  pub come : RecordsFrom reading.file reading.place records ending
  pub are : recipients ≡ recipients_after before records

-- the recipient is the first one, and the others follow from here on
pub record BeginsRecipients (found : RecipientFacts) (recipients : List RecipientFacts) (ending : QueueEnding) (later : QueueReading) : Type 0 where
  pub others : List RecipientFacts
  pub first : recipients ≡ found ∷ others
  pub left : RecipientsLeft later nothing_before others ending

abbrev pub ReadsRecipients : Result (Option QueuedRecipient) QueueBroken → List RecipientFacts → QueueEnding → QueueReading → Type 0
ReadsRecipients result recipients ending later =
    MatchResult result
    (λ found. MatchOption found
    ((recipients ≡ []) × (ending ≡ WholeFile))
    (λ recipient. BeginsRecipients (recipient_facts_in recipient) recipients ending later))
    (λ broken. (recipients ≡ []) × (ending ≡ BrokenOff))
