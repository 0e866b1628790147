-- A session with a mail server: its beginning, its mail transactions from the null sender (RFC 5321 section 3.3), and
-- its end; the turns and the outcome of each.
use Rattle.std.specs.Prelude.{◌≡◌, ℕ, Bool, true, false, List, [], ◌∷◌, Option, Some, None, Result, Ok, Err, MatchBool}
use Rattle.dsn_device.specs.declared.drain.Drain
use Rattle.dsn_device.specs.declared.source.Source
use Rattle.dsn_smtp.specs.Body.{body_kind}
use Rattle.dsn_smtp.specs.Command.{Command}
use Rattle.dsn_smtp.specs.CommandLine.{data_line, hello_line, quit_line, recipient_line, sender_line}
use Rattle.dsn_smtp.specs.Dialogue.{TakesTurns, Turn, Heard, Said, HeardEach, HeardNone, SaidPart, is_of_device}
use Rattle.dsn_smtp.specs.ReplyCode.{class_of}
use Rattle.dsn_smtp.specs.declared.body.Body.{Body}
use Rattle.dsn_smtp.specs.declared.hand_in_fault.HandInFault.{HandInFault}
use Rattle.dsn_smtp.specs.declared.hand_in_fault.HandInFault.TheVariants.{Refused, Unheard, Unsaid, NotOffered}
use Rattle.dsn_smtp.specs.declared.hand_in_step.HandInStep.{HandInStep}
use Rattle.dsn_smtp.specs.declared.hand_in_step.HandInStep.TheVariants.{Greeting, Hello, Sender, Recipient, Data, Message}
use Rattle.dsn_smtp.specs.declared.reply_class.ReplyClass.{ReplyClass}
use Rattle.dsn_smtp.specs.declared.reply_class.ReplyClass.TheVariants.{Positive, Intermediate, RefusedForNow, RefusedForGood}

-- the commands of a transaction, in their order (RFC 5321 section 3.3), with the kind of the message's bytes, the line
-- for RCPT and the message
abbrev pub commands_in : Body → List ℕ → List ℕ → List Command
commands_in body recipient message =
    record { step = Sender; text = sender_line body }
    ∷ record { step = Recipient; text = recipient }
    ∷ record { step = Data; text = data_line }
    ∷ record { step = Message; text = message }
    ∷ []

-- MAIL says BODY=8BITMIME exactly if the message has a byte above 127
abbrev pub commands_with : List ℕ → List ℕ → List Command
commands_with recipient message = commands_in (body_kind message) recipient message

-- the commands that submit a message for one path
abbrev pub commands_of : List ℕ → List ℕ → List Command
commands_of path message = commands_with (recipient_line path) message

-- whether a reply of this class allows the next step: DATA needs 3yz, all others 2yz (RFC 5321 section 4.3.2)
abbrev pub is_wanted_reply : HandInStep → ReplyClass → Bool
is_wanted_reply Data Positive = false
is_wanted_reply Data Intermediate = true
is_wanted_reply Data RefusedForNow = false
is_wanted_reply Data RefusedForGood = false
is_wanted_reply step Positive = true
is_wanted_reply step Intermediate = false
is_wanted_reply step RefusedForNow = false
is_wanted_reply step RefusedForGood = false

-- A reply is received at a step. If it is of the class that the step wants, `Follow` holds for the turns after it.
-- Otherwise it is the last turn, and the fault says why.
abbrev pub Listens : HandInStep → (List Turn → Option HandInFault → Type 0) → List Turn → Option HandInFault → Type 0
Listens step Follow [] outcome = ⊥
Listens step Follow (Heard code bytes ∷ turns) outcome =
    MatchBool (is_wanted_reply step (class_of code)) (Follow turns outcome)
    ((turns ≡ []) × (outcome ≡ Some (Refused step code)))
Listens step Follow (HeardNone why ∷ turns) outcome = (turns ≡ []) × (outcome ≡ Some (Unheard step why))
Listens step Follow (HeardEach codes missing ∷ turns) outcome = ⊥
Listens step Follow (Said text ∷ turns) outcome = ⊥
Listens step Follow (SaidPart text ∷ turns) outcome = ⊥

-- a command is sent, and a reply is received; if it can't be sent, that is the last turn
abbrev pub AsksCommand : Command → (List Turn → Option HandInFault → Type 0) → List Turn → Option HandInFault → Type 0
AsksCommand command Follow [] outcome = ⊥
AsksCommand command Follow (Said text ∷ turns) outcome = (text ≡ command.text) × Listens command.step Follow turns outcome
AsksCommand command Follow (SaidPart text ∷ turns) outcome =
    (text ≡ command.text) × ((turns ≡ []) × (outcome ≡ Some (Unsaid command.step)))
AsksCommand command Follow (Heard code bytes ∷ turns) outcome = ⊥
AsksCommand command Follow (HeardNone why ∷ turns) outcome = ⊥
AsksCommand command Follow (HeardEach codes missing ∷ turns) outcome = ⊥

-- commands are sent in their order, each after the one before it succeeded
abbrev pub AsksAll : List Command → List Turn → Option HandInFault → Type 0
AsksAll [] turns outcome = (turns ≡ []) × (outcome ≡ None)
AsksAll (command ∷ commands) turns outcome = AsksCommand command (AsksAll commands) turns outcome

-- a session begins: the greeting is received, and then EHLO is sent (RFC 5321 section 3.2), by this line
abbrev pub GreetsWith : List ℕ → List Turn → Option HandInFault → Type 0
GreetsWith line turns outcome = Listens Greeting (AsksAll (record { step = Hello; text = line } ∷ [])) turns outcome

-- a session begins, with a client of this name
abbrev pub Greets : List ℕ → List Turn → Option HandInFault → Type 0
Greets host turns outcome = GreetsWith (hello_line host) turns outcome

-- whether the device failed
abbrev pub is_broken : Option HandInFault → Bool
is_broken None = false
is_broken (Some (Refused step code)) = false
is_broken (Some (Unheard step why)) = is_of_device why
is_broken (Some (Unsaid step)) = true
is_broken (Some NotOffered) = false

-- QUIT is sent, or tried once; its reply isn't waited for, although RFC 5321 section 4.1.1.10 says that a client should
abbrev pub SaysGoodbye : List Turn → Type 0
SaysGoodbye [] = ⊥
SaysGoodbye (Said text ∷ turns) = (text ≡ quit_line) × (turns ≡ [])
SaysGoodbye (SaidPart text ∷ turns) = (text ≡ quit_line) × (turns ≡ [])
SaysGoodbye (Heard code bytes ∷ turns) = ⊥
SaysGoodbye (HeardNone why ∷ turns) = ⊥
SaysGoodbye (HeardEach codes missing ∷ turns) = ⊥

-- a session ends with QUIT; over a device that failed nothing is sent
abbrev pub Leaves : Option HandInFault → List Turn → Type 0
Leaves outcome turns = MatchBool (is_broken outcome) (turns ≡ []) (SaysGoodbye turns)

-- the bytes of the reply that was received last, except of those to a group, which aren't held
abbrev pub last_heard_after : List ℕ → List Turn → List ℕ
last_heard_after before [] = before
last_heard_after before (Heard code bytes ∷ turns) = last_heard_after bytes turns
last_heard_after before (HeardNone why ∷ turns) = last_heard_after before turns
last_heard_after before (HeardEach codes missing ∷ turns) = last_heard_after before turns
last_heard_after before (Said text ∷ turns) = last_heard_after before turns
last_heard_after before (SaidPart text ∷ turns) = last_heard_after before turns

-- Turns for which `Go` holds took a stream from one state to the other, with this outcome. If nothing went wrong, the
-- reply that is held after them is the one that was received last, or else the one that was held before.
pub record TurnsOver {S : Type 0} (source : Source.Ghosts S) (drain : Drain.Ghosts S) (old new : S)
    (Go : List Turn → Option HandInFault → Type 0) (before after : List ℕ) (outcome : Option HandInFault) : Type 0 where
  pub turns : List Turn
  pub taken : TakesTurns source drain old new turns
  pub go : Go turns outcome
  pub last : outcome ≡ None → last_heard_after before turns ≡ after

-- the fault of a result
abbrev pub fault_said : {T : Type 0} → Result T HandInFault → Option HandInFault
fault_said (Ok value) = None
fault_said (Err why) = Some why

abbrev pub is_sender_step : HandInStep → Bool
is_sender_step Sender = true
is_sender_step step = false

-- whether a transaction failed at its first command
abbrev pub is_at_sender : HandInFault → Bool
is_at_sender (Refused step code) = is_sender_step step
is_at_sender (Unheard step why) = is_sender_step step
is_at_sender (Unsaid step) = is_sender_step step
is_at_sender NotOffered = false

abbrev pub is_message_step : HandInStep → Bool
is_message_step Message = true
is_message_step step = false

-- Whether the message may have been accepted although no acceptance was received (RFC 5321 section 4.2.5): it was sent,
-- in whole or in part, and no refusal was received.
abbrev pub may_be_taken : HandInFault → Bool
may_be_taken (Refused step code) = false
may_be_taken (Unheard step why) = is_message_step step
may_be_taken (Unsaid step) = is_message_step step
may_be_taken NotOffered = false

-- whether a reply of this class is a refusal for good, by 5yz (RFC 5321 section 4.2.1)
abbrev pub is_for_good : ReplyClass → Bool
is_for_good Positive = false
is_for_good Intermediate = false
is_for_good RefusedForNow = false
is_for_good RefusedForGood = true

-- whether a later attempt would end in the same way: by 5yz, or since the server lacks what the message needs
abbrev pub is_refused_for_good : HandInFault → Bool
is_refused_for_good (Refused step code) = is_for_good (class_of code)
is_refused_for_good (Unheard step why) = false
is_refused_for_good (Unsaid step) = false
is_refused_for_good NotOffered = true
