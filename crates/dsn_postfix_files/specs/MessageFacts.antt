-- The facts of a message in the records of its queue file: its arrival, its sender, its envelope
-- id, the part that the sender wants returned, and its Message-ID.
use Rattle.std.specs.Prelude.{◌≡◌, ◌||◌, ℕ, List, [], ◌∷◌, Option, Some, None, Result, MatchResult, ◌==◌, codes, if◌then◌else◌}
use Rattle.std.specs.List.{before_first, filter_map, last_or}
use Rattle.std.specs.Option.{option_map}
use Rattle.dsn_postfix_files.specs.LogLine.{is_space, value_named}
use Rattle.dsn_postfix_files.specs.LogRecord.{written_number}
use Rattle.dsn_postfix_files.specs.QueueListing.{BrokenOff, QueueEnding, WholeFile}
use Rattle.dsn_postfix_files.specs.QueueRecord.{PlacedBytes}
use Rattle.dsn_postfix_files.specs.declared.broken_message.BrokenMessage.{BrokenMessage}
use Rattle.dsn_postfix_files.specs.declared.message_facts.MessageFacts.{MessageFacts}

-- ---- the facts in one record

-- the text of a record with a type of its own, or `A`, an attribute with a name
abbrev pub said_as : ℕ → List ℕ → PlacedBytes → Option (List ℕ)
said_as kind name placed =
    if placed.kind == kind then Some placed.bytes
    else (if placed.kind == 65 then value_named name placed.bytes else None)

-- `T`: the seconds since 1970, a space, and a part of a second; 0 means a missing time
abbrev pub time_if_some : Option ℕ → Option ℕ
time_if_some None = None
time_if_some (Some seconds) = if seconds == 0 then None else Some seconds

abbrev pub arrival_in : PlacedBytes → Option ℕ
arrival_in placed =
    if placed.kind == 84 then time_if_some (written_number (before_first is_space placed.bytes)) else None

-- `S`: the sender
abbrev pub sender_in : PlacedBytes → Option (List ℕ)
sender_in placed = if placed.kind == 83 then Some placed.bytes else None

-- `i`: the envelope id
abbrev pub envelope_id_in : PlacedBytes → Option (List ℕ)
envelope_id_in placed = said_as 105 (codes "envelope_id") placed

-- `A` alone: the Message-ID of the header, which cleanup(8) of Postfix 3.10 notes after the text
abbrev pub message_id_in : PlacedBytes → Option (List ℕ)
message_id_in placed = if placed.kind == 65 then value_named (codes "message_id") placed.bytes else None

-- `<`: 1 for the whole message, 2 for its header; other numbers are ignored
abbrev pub known_return : Option ℕ → Option ℕ
known_return None = None
known_return (Some number) = if number == 1 || number == 2 then Some number else None

abbrev pub return_written : Option (List ℕ) → Option ℕ
return_written None = None
return_written (Some text) = known_return (written_number text)

abbrev pub return_flags_in : PlacedBytes → Option ℕ
return_flags_in placed = return_written (said_as 60 (codes "ret_flags") placed)

-- ---- the facts in all records

abbrev pub first_or : {X : Type 0} → Option X → Option X → Option X
first_or (Some x) later = Some x
first_or None later = later

-- the first fact that the records have, and the last
abbrev pub earliest : {X : Type 0} → (PlacedBytes → Option X) → List PlacedBytes → Option X
earliest says [] = None
earliest says (placed ∷ records) = first_or (says placed) (earliest says records)

abbrev pub latest : {X : Type 0} → (PlacedBytes → Option X) → List PlacedBytes → Option X
latest says records = last_or None (filter_map says records)

pub record SaidOfMessage : Type 0 where
  pub arrival : Option ℕ
  pub sender : Option (List ℕ)
  pub envelope_id : Option (List ℕ)
  pub return_flags : Option ℕ
  pub message_id : Option (List ℕ)

-- the first arrival, sender and Message-ID count, and the last envelope id and return flags, since
-- a milter may change these
abbrev pub said_of_message : List PlacedBytes → SaidOfMessage
said_of_message records = record {
  arrival = earliest arrival_in records;
  sender = earliest sender_in records;
  envelope_id = latest envelope_id_in records;
  return_flags = latest return_flags_in records;
  message_id = earliest message_id_in records;
}

-- the texts that the program's references point to
abbrev pub message_facts_in : MessageFacts → SaidOfMessage
message_facts_in facts = record {
  arrival = facts.arrival;
  sender = option_map (λ text. text.now) facts.sender;
  envelope_id = option_map (λ text. text.now) facts.envelope_id;
  return_flags = facts.return_flags;
  message_id = option_map (λ text. text.now) facts.message_id;
}

-- the result has the facts in the records: all of them, or those before the break if the file can't
-- be read to its end
abbrev pub ReadsMessage : Result MessageFacts BrokenMessage → List PlacedBytes → QueueEnding → Type 0
ReadsMessage result records ending =
    MatchResult result
    (λ facts. (ending ≡ WholeFile) × (message_facts_in facts ≡ said_of_message records))
    (λ broken. (ending ≡ BrokenOff) × (message_facts_in broken.before ≡ said_of_message records))

-- ---- after some records
