-- A mail transaction whose commands before the message are sent as one group (RFC 2920).
use Rattle.std.specs.Prelude.{◌≡◌, ℕ, Bool, true, false, List, [], ◌∷◌, ◌++◌, Option, Some, None, MatchBool, codes, if◌then◌else◌}
use Rattle.dsn_smtp.specs.Body.{body_kind}
use Rattle.dsn_smtp.specs.CommandLine.{data_line, recipient_line, sender_line}
use Rattle.dsn_smtp.specs.Dialogue.{Turn, Heard, HeardEach, HeardNone, Said, SaidPart}
use Rattle.dsn_smtp.specs.HandIn.{AsksAll, commands_in, is_wanted_reply}
use Rattle.dsn_smtp.specs.ReplyCode.{class_of}
use Rattle.dsn_smtp.specs.declared.body.Body.{Body}
use Rattle.dsn_smtp.specs.declared.extensions.Extensions.{Extensions}
use Rattle.dsn_smtp.specs.declared.hand_in_fault.HandInFault.{HandInFault}
use Rattle.dsn_smtp.specs.declared.hand_in_fault.HandInFault.TheVariants.{Refused, Unheard, Unsaid}
use Rattle.dsn_smtp.specs.declared.hand_in_step.HandInStep.{HandInStep}
use Rattle.dsn_smtp.specs.declared.hand_in_step.HandInStep.TheVariants.{Sender, Recipient, Data, Message}
use Rattle.dsn_smtp.specs.declared.reply_fault.ReplyFault.{ReplyFault}

-- the commands of a group, as one text, for one path and a message of this kind
abbrev pub group_text : Body → List ℕ → List ℕ
group_text body path = sender_line body ++ (recipient_line path ++ data_line)

-- the steps of a group
abbrev pub group_steps : List HandInStep
group_steps = Sender ∷ Recipient ∷ Data ∷ []

-- there is a reply to each command of a group, or to each before the one whose reply is missing
abbrev pub AnswersEach : List HandInStep → List (List ℕ) → Option ReplyFault → Type 0
AnswersEach [] [] None = Unit {0}
AnswersEach [] [] (Some why) = ⊥
AnswersEach [] (code ∷ codes) missing = ⊥
AnswersEach (step ∷ steps) [] None = ⊥
AnswersEach (step ∷ steps) [] (Some why) = Unit {0}
AnswersEach (step ∷ steps) (code ∷ codes) missing = AnswersEach steps codes missing

-- the first step of a group that went wrong: its reply isn't of the class that it wants, or is missing
abbrev pub first_fault : List HandInStep → List (List ℕ) → Option ReplyFault → Option HandInFault
first_fault [] codes missing = None
first_fault (step ∷ steps) [] None = None
first_fault (step ∷ steps) [] (Some why) = Some (Unheard step why)
first_fault (step ∷ steps) (code ∷ codes) missing =
    if is_wanted_reply step (class_of code) then first_fault steps codes missing else Some (Refused step code)

-- whether the server waits for a message: the last command of the group had the reply that it wants
abbrev pub waits_for_message : List HandInStep → List (List ℕ) → Bool
waits_for_message [] codes = false
waits_for_message (step ∷ steps) [] = false
waits_for_message (step ∷ []) (code ∷ codes) = is_wanted_reply step (class_of code)
waits_for_message (step ∷ next ∷ steps) (code ∷ codes) = waits_for_message (next ∷ steps) codes

-- a message without a line, for a server that waits for one after a refusal (RFC 2920 section 3.1)
abbrev pub empty_message : List ℕ
empty_message = codes "." ++ 13 ∷ 10 ∷ []

-- one reply is received, or couldn't be
abbrev pub HearsOne : List Turn → Type 0
HearsOne [] = ⊥
HearsOne (Heard code bytes ∷ turns) = turns ≡ []
HearsOne (HeardNone why ∷ turns) = turns ≡ []
HearsOne (HeardEach codes missing ∷ turns) = ⊥
HearsOne (Said text ∷ turns) = ⊥
HearsOne (SaidPart text ∷ turns) = ⊥

-- the empty message is sent, and its reply received; if it can't be sent, that is the last turn
abbrev pub Cancels : List Turn → Type 0
Cancels [] = ⊥
Cancels (Said text ∷ turns) = (text ≡ empty_message) × HearsOne turns
Cancels (SaidPart text ∷ turns) = (text ≡ empty_message) × (turns ≡ [])
Cancels (Heard code bytes ∷ turns) = ⊥
Cancels (HeardNone why ∷ turns) = ⊥
Cancels (HeardEach codes missing ∷ turns) = ⊥

-- What follows the replies to a group: the message, if nothing went wrong. Otherwise the first fault is the outcome, and
-- a server that waits for a message gets an empty one.
abbrev pub FollowsGroup : Option HandInFault → Bool → List ℕ → List Turn → Option HandInFault → Type 0
FollowsGroup None waits message turns outcome = AsksAll (record { step = Message; text = message } ∷ []) turns outcome
FollowsGroup (Some why) true message turns outcome = Cancels turns × (outcome ≡ Some why)
FollowsGroup (Some why) false message turns outcome = (turns ≡ []) × (outcome ≡ Some why)

-- the replies to a group are received, each for its command, in their order
abbrev pub HearsGroup : List ℕ → List Turn → Option HandInFault → Type 0
HearsGroup message [] outcome = ⊥
HearsGroup message (HeardEach codes missing ∷ turns) outcome =
    AnswersEach group_steps codes missing
    × FollowsGroup (first_fault group_steps codes missing) (waits_for_message group_steps codes) message turns outcome
HearsGroup message (Heard code bytes ∷ turns) outcome = ⊥
HearsGroup message (HeardNone why ∷ turns) outcome = ⊥
HearsGroup message (Said text ∷ turns) outcome = ⊥
HearsGroup message (SaidPart text ∷ turns) outcome = ⊥

-- a group is sent by this text, and a message follows; if the group can't be sent, that is the last turn
abbrev pub AsksGroup : List ℕ → List ℕ → List Turn → Option HandInFault → Type 0
AsksGroup text message [] outcome = ⊥
AsksGroup text message (Said said ∷ turns) outcome = (said ≡ text) × HearsGroup message turns outcome
AsksGroup text message (SaidPart said ∷ turns) outcome = (said ≡ text) × ((turns ≡ []) × (outcome ≡ Some (Unsaid Sender)))
AsksGroup text message (Heard code bytes ∷ turns) outcome = ⊥
AsksGroup text message (HeardNone why ∷ turns) outcome = ⊥
AsksGroup text message (HeardEach codes missing ∷ turns) outcome = ⊥

-- A transaction with a message of this kind, in a session whose server offers these extensions: by a group with
-- PIPELINING, else command by command.
abbrev pub TransactsAs : Extensions → Body → List ℕ → List ℕ → List Turn → Option HandInFault → Type 0
TransactsAs extensions body path message turns outcome =
    MatchBool extensions.pipelining (AsksGroup (group_text body path) message turns outcome)
    (AsksAll (commands_in body (recipient_line path) message) turns outcome)

abbrev pub Transacts : Extensions → List ℕ → List ℕ → List Turn → Option HandInFault → Type 0
Transacts extensions path message turns outcome = TransactsAs extensions (body_kind message) path message turns outcome
