-- What a submission's outcome says of its letter.
use Rattle.std.specs.Prelude.{ℕ, Bool, true, false, ◌&&◌, ◌==◌, List, [], ◌∷◌, ◌++◌, codes, Option, Some, None}
use Rattle.dsn_smtp.specs.HandIn.{is_for_good}
use Rattle.dsn_smtp.specs.ReplyCode.{class_of}
use Rattle.dsn_text.specs.Text.{is_between}
use Rattle.dsn_smtp.specs.declared.hand_in_fault.HandInFault.{HandInFault}
use Rattle.dsn_smtp.specs.declared.hand_in_fault.HandInFault.TheVariants.{Refused, Unheard, Unsaid, NotOffered}
use Rattle.dsn_smtp.specs.declared.hand_in_step.HandInStep.{HandInStep}
use Rattle.dsn_smtp.specs.declared.hand_in_step.HandInStep.TheVariants.{Greeting, Hello, Sender, Recipient, Data, Message}
use Rattle.dsn_submission.specs.declared.verdict.Verdict.{Verdict}
use Rattle.dsn_submission.specs.declared.verdict.Verdict.TheVariants.{Accepted, RefusedForGood, PutOff, ServerAway}

-- whether a step precedes all that concerns the letter
abbrev pub is_server_step : HandInStep → Bool
is_server_step Greeting = true
is_server_step Hello = true
is_server_step Sender = true
is_server_step Recipient = false
is_server_step Data = false
is_server_step Message = false

-- whether a fault is the server's, and says nothing of the letter
abbrev pub is_of_server : HandInFault → Bool
is_of_server (Refused step code) = is_server_step step
is_of_server (Unheard step why) = is_server_step step
is_of_server (Unsaid step) = is_server_step step
is_of_server NotOffered = false

-- whether a code says that a mailbox takes no mail: 550 to 553 (RFC 5321 section 4.2.3)
abbrev pub is_of_mailbox : List ℕ → Bool
is_of_mailbox [] = false
is_of_mailbox (first ∷ []) = false
is_of_mailbox (first ∷ second ∷ []) = false
is_of_mailbox (first ∷ second ∷ third ∷ []) = first == 53 && (second == 53 && is_between 48 51 third)
is_of_mailbox (first ∷ second ∷ third ∷ more ∷ rest) = false

-- Whether a reply of this code at a step refuses the letter for good. At RCPT a server also refuses a client whose mail
-- it doesn't take at all, by 530 or 554, say: only the codes of a mailbox speak of the letter there.
abbrev pub is_refusal_at : HandInStep → List ℕ → Bool
is_refusal_at Recipient code = is_of_mailbox code
is_refusal_at step code = is_for_good (class_of code)

-- whether a fault refuses the letter for good
abbrev pub is_of_letter : HandInFault → Bool
is_of_letter (Refused step code) = is_refusal_at step code
is_of_letter (Unheard step why) = false
is_of_letter (Unsaid step) = false
is_of_letter NotOffered = true

-- the verdict, if the fault is the server's, and if it is a refusal for good
abbrev pub verdict_if : Bool → Bool → Verdict
verdict_if true for_good = ServerAway
verdict_if false true = RefusedForGood
verdict_if false false = PutOff

abbrev pub verdict_of : Option HandInFault → Verdict
verdict_of None = Accepted
verdict_of (Some fault) = verdict_if (is_of_server fault) (is_of_letter fault)

-- why a letter wasn't accepted, in lines: the last reply, or words if nothing was sent for it
abbrev pub reason_of : Option HandInFault → List ℕ → List ℕ
reason_of None reply = reply
reason_of (Some (Refused step code)) reply = reply
reason_of (Some (Unheard step why)) reply = reply
reason_of (Some (Unsaid step)) reply = reply
reason_of (Some NotOffered) reply = codes "the server has no 8BITMIME, and the notice has 8bit bytes" ++ 13 ∷ 10 ∷ []
