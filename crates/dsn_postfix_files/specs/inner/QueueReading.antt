-- The reading of a queue file, step by step.
use Rattle.std.specs.Prelude.{None, List, ◌≡◌, Bool, ℕ, ◌++◌, [], ◌<◌, ◌≤◌, length}
use Rattle.std.specs.List.{filter_map, last_or}
use Rattle.dsn_postfix_files.specs.MessageFacts.{SaidOfMessage, arrival_in, sender_in, envelope_id_in, return_flags_in, message_id_in, first_or, earliest}
use Rattle.dsn_postfix_files.specs.MessageText.{text_from}
use Rattle.dsn_postfix_files.specs.QueueListing.{QueueEnding, RecordsFrom, BrokenOff, WholeFile}
use Rattle.dsn_postfix_files.specs.QueueRecipients.{SaidBefore, RecipientFacts, recipient_facts_in, BeginsRecipients}
use Rattle.dsn_postfix_files.specs.QueueRecord.{PlacedBytes, placed_bytes_in}
use Rattle.dsn_postfix_files.specs.QueueWalk.{QueueReading, QueuePlace, steps_left, WalkStep, RecordThere, PointerTo, EndThere, BrokenThere}
use Rattle.dsn_postfix_files.specs.declared.queue_step.QueueStep.TheVariants as steps
use Rattle.dsn_postfix_files.specs.declared.queue_step.QueueStep.{QueueStep}
use Rattle.dsn_postfix_files.specs.declared.queued_recipient.RecipientStep.TheVariants as recipient_steps
use Rattle.dsn_postfix_files.specs.declared.queued_recipient.RecipientStep.{RecipientStep}
use Rattle.dsn_postfix_files.specs.declared.said_before.SaidBefore.{SaidBefore as WhatWasSaid}

abbrev pub nothing_said : SaidOfMessage
nothing_said = record { arrival = None; sender = None; envelope_id = None; return_flags = None; message_id = None }

unfoldable pub with_record : SaidOfMessage → PlacedBytes → SaidOfMessage
with_record before placed = record {
  arrival = first_or before.arrival (arrival_in placed);
  sender = first_or before.sender (sender_in placed);
  envelope_id = first_or (envelope_id_in placed) before.envelope_id;
  return_flags = first_or (return_flags_in placed) before.return_flags;
  message_id = first_or before.message_id (message_id_in placed);
}

abbrev pub said_with : SaidOfMessage → List PlacedBytes → SaidOfMessage
said_with before records = record {
  arrival = first_or before.arrival (earliest arrival_in records);
  sender = first_or before.sender (earliest sender_in records);
  envelope_id = last_or before.envelope_id (filter_map envelope_id_in records);
  return_flags = last_or before.return_flags (filter_map return_flags_in records);
  message_id = first_or before.message_id (earliest message_id_in records);
}

-- records follow from here on, and together with the facts before they have these facts
pub record MessageLeft (reading : QueueReading) (before said : SaidOfMessage) (ending : QueueEnding) : Type 0 where
  pub records : List PlacedBytes
  pub come : RecordsFrom reading.file reading.place records ending
  pub are : said ≡ said_with before records

-- records follow from here on, and together with the text before they have this text
pub record TextLeft (reading : QueueReading) (before : List ℕ) (within : Bool) (text : List ℕ) (ending : QueueEnding) : Type 0 where
  pub records : List PlacedBytes
  pub come : RecordsFrom reading.file reading.place records ending
  pub are : text ≡ before ++ text_from within records

-- the texts that the program's references point to
abbrev pub said_before_in : WhatWasSaid → SaidBefore
said_before_in before = record { original = before.original.now; dsn_original = before.dsn_original.now; notify_flags = before.notify_flags }

-- a step, as the program represents it
abbrev pub StepsRecipients : List ℕ → RecipientStep → List RecipientFacts → QueueEnding → Type 0
StepsRecipients file (recipient_steps.Recipient found rest jumps) recipients ending =
    BeginsRecipients (recipient_facts_in found) recipients ending (record { file = file; place = record { rest = rest.now; jumps = jumps } })
StepsRecipients file recipient_steps.End recipients ending = (recipients ≡ []) × (ending ≡ WholeFile)
StepsRecipients file recipient_steps.Broken recipients ending = (recipients ≡ []) × (ending ≡ BrokenOff)

-- the place after a step is within the file, and fewer steps are left from there
abbrev pub IsLaterPlace : List ℕ → QueuePlace → RecipientStep → Type 0
IsLaterPlace file start (recipient_steps.Recipient found rest jumps) =
    (steps_left (length file) (record { rest = rest.now; jumps = jumps }) < steps_left (length file) start) × (length rest.now ≤ length file)
IsLaterPlace file start recipient_steps.End = Unit {0}
IsLaterPlace file start recipient_steps.Broken = Unit {0}

-- a step, as the program represents it
abbrev pub step_in : QueueStep → WalkStep
step_in (steps.Record queue_record rest jumps) =
    RecordThere (placed_bytes_in queue_record) (record { rest = rest.now; jumps = jumps })
step_in (steps.Pointer rest jumps) = PointerTo (record { rest = rest.now; jumps = jumps })
step_in steps.End = EndThere
step_in steps.Broken = BrokenThere

-- the step isn't a pointer, and after a record the place is within the file, with fewer steps left
-- from there
abbrev pub IsNextStep : List ℕ → QueuePlace → WalkStep → Type 0
IsNextStep file start (PointerTo place) = ⊥
IsNextStep file start (RecordThere bytes place) =
    (steps_left (length file) place < steps_left (length file) start) × (length place.rest ≤ length file)
IsNextStep file start EndThere = Unit {0}
IsNextStep file start BrokenThere = Unit {0}
