-- Worked examples of transactions: what is sent and received, and the outcome.
use Rattle.std.proofs.Common.{◌≡◌, ℕ, List, [], ◌∷◌, ◌++◌, Some, None, false, true, refl}
use Rattle.std.specs.Prelude.{codes}
use Rattle.dsn_smtp.specs.Body.{body_kind, suffice_for}
use Rattle.dsn_smtp.specs.CommandLine.{hello_line, recipient_line}
use Rattle.dsn_smtp.specs.Dialogue.{Turn, Heard, HeardNone, Said}
use Rattle.dsn_smtp.specs.HandIn.{AsksAll, Greets, Leaves, commands_of, is_at_sender, is_refused_for_good, may_be_taken}
use Rattle.dsn_smtp.specs.declared.body.Body.TheVariants.{SevenBit, EightBit}
use Rattle.dsn_smtp.specs.declared.extensions.Extensions.{Extensions}
use Rattle.dsn_smtp.specs.declared.hand_in_fault.HandInFault.TheVariants.{Refused, Unheard, NotOffered}
use Rattle.dsn_smtp.specs.declared.hand_in_step.HandInStep.TheVariants.{Greeting, Sender, Recipient, Data, Message}
use Rattle.dsn_smtp.specs.declared.reply_fault.ReplyFault.TheVariants.{Nothing, CutShort, Read}

abbrev line : List ℕ → List ℕ
line text = text ++ 13 ∷ 10 ∷ []

hello : hello_line (codes "mail.example.net") ≡ line (codes "EHLO mail.example.net")
hello = refl

recipient : recipient_line (codes "ann@example.org") ≡ line (codes "RCPT TO:<ann@example.org>")
recipient = refl

abbrev message : List ℕ
message = line (codes "Subject: no") ++ line (codes ".")

abbrev heard : List ℕ → Turn
heard code = Heard code (line code)

-- a session begins, or the server has no service now
begun : Greets (codes "a.example") (heard (codes "220") ∷ Said (line (codes "EHLO a.example")) ∷ heard (codes "250") ∷ []) None
begun = (refl, (refl, refl))

no_service : Greets (codes "a.example") (heard (codes "421") ∷ []) (Some (Refused Greeting (codes "421")))
no_service = (refl, refl)

abbrev to_recipient : List Turn
to_recipient = Said (line (codes "MAIL FROM:<>")) ∷ heard (codes "250") ∷ Said (line (codes "RCPT TO:<b@c.example>")) ∷ []

-- all four replies are of the wanted class
taken : AsksAll (commands_of (codes "b@c.example") message)
    (to_recipient ++ heard (codes "250") ∷ Said (line (codes "DATA")) ∷ heard (codes "354") ∷ Said message ∷ heard (codes "250") ∷ []) None
taken = (refl, (refl, (refl, (refl, (refl, refl)))))

-- a message with a byte above 127 is said to be one, and others aren't
abbrev in_latin : List ℕ
in_latin = 99 ∷ 97 ∷ 102 ∷ 233 ∷ line [] ++ line (codes ".")

eight_bit : body_kind in_latin ≡ EightBit
eight_bit = refl

seven_bit : body_kind (127 ∷ message) ≡ SevenBit
seven_bit = refl

taken_in_latin : AsksAll (commands_of (codes "b@c.example") in_latin)
    (Said (line (codes "MAIL FROM:<> BODY=8BITMIME")) ∷ heard (codes "250") ∷ Said (line (codes "RCPT TO:<b@c.example>")) ∷ heard (codes "250")
    ∷ Said (line (codes "DATA")) ∷ heard (codes "354") ∷ Said in_latin ∷ heard (codes "250") ∷ []) None
taken_in_latin = (refl, (refl, (refl, (refl, (refl, refl)))))

-- only such a message needs 8BITMIME
abbrev bare : Extensions
bare = record { eight_bit_mime = false; pipelining = true; size_limit = None }

needed : suffice_for bare (body_kind in_latin) ≡ false
needed = refl

not_needed : suffice_for bare (body_kind message) ≡ true
not_needed = refl

offered : suffice_for (record { eight_bit_mime = true; pipelining = false; size_limit = None }) (body_kind in_latin) ≡ true
offered = refl

-- another server, or another try, is no use to it; and it isn't taken
for_good : is_refused_for_good NotOffered ≡ true
for_good = refl

no_second_try : is_at_sender NotOffered ≡ false
no_second_try = refl

not_taken : may_be_taken NotOffered ≡ false
not_taken = refl

-- the refusal of a recipient is the last turn
refused : AsksAll (commands_of (codes "b@c.example") message) (to_recipient ++ heard (codes "550") ∷ []) (Some (Refused Recipient (codes "550")))
refused = (refl, (refl, (refl, refl)))

-- 250 as the reply to DATA is a refusal too
not_to_go_on : AsksAll (commands_of (codes "b@c.example") message)
    (to_recipient ++ heard (codes "250") ∷ Said (line (codes "DATA")) ∷ heard (codes "250") ∷ []) (Some (Refused Data (codes "250")))
not_to_go_on = (refl, (refl, (refl, (refl, refl))))

-- the reply to the message is cut short: the message may be accepted
unheard : AsksAll (commands_of (codes "b@c.example") message)
    (to_recipient ++ heard (codes "250") ∷ Said (line (codes "DATA")) ∷ heard (codes "354") ∷ Said message ∷ HeardNone CutShort ∷ []) (Some (Unheard Message CutShort))
unheard = (refl, (refl, (refl, (refl, (refl, refl)))))

may_be : may_be_taken (Unheard Message CutShort) ≡ true
may_be = refl

may_not : may_be_taken (Refused Message (codes "451")) ≡ false
may_not = refl

-- a kept session is followed by a new one if it fails at MAIL, and at no other step
gone : is_at_sender (Unheard Sender Nothing) ≡ true
gone = refl

past_sender : is_at_sender (Refused Recipient (codes "421")) ≡ false
past_sender = refl

-- QUIT after a refusal, and nothing after a device that failed
quit : Leaves (Some (Refused Recipient (codes "550"))) (Said (line (codes "QUIT")) ∷ [])
quit = (refl, refl)

nothing : Leaves (Some (Unheard Message Read)) []
nothing = refl
