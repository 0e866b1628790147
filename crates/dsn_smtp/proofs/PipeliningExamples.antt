-- Worked examples of transactions whose commands before the message are one group.
use Rattle.std.proofs.Common.{◌≡◌, ℕ, List, [], ◌∷◌, ◌++◌, Some, None, true, refl}
use Rattle.std.specs.Prelude.{codes}
use Rattle.dsn_smtp.specs.Dialogue.{Heard, HeardEach, Said}
use Rattle.dsn_smtp.specs.HandIn.{is_at_sender}
use Rattle.dsn_smtp.specs.Pipelining.{AsksGroup, group_text}
use Rattle.dsn_smtp.specs.declared.body.Body.TheVariants.{SevenBit, EightBit}
use Rattle.dsn_smtp.specs.declared.hand_in_fault.HandInFault.TheVariants.{Refused, Unheard}
use Rattle.dsn_smtp.specs.declared.hand_in_step.HandInStep.TheVariants.{Sender, Recipient, Data}
use Rattle.dsn_smtp.specs.declared.reply_fault.ReplyFault.TheVariants.{Nothing, Read, Trailing}

abbrev line : List ℕ → List ℕ
line text = text ++ 13 ∷ 10 ∷ []

abbrev group : List ℕ
group = line (codes "MAIL FROM:<>") ++ line (codes "RCPT TO:<b@c.example>") ++ line (codes "DATA")

group_is : group_text SevenBit (codes "b@c.example") ≡ group
group_is = refl

eight_bit_group : group_text EightBit (codes "b@c.example")
    ≡ line (codes "MAIL FROM:<> BODY=8BITMIME") ++ line (codes "RCPT TO:<b@c.example>") ++ line (codes "DATA")
eight_bit_group = refl

abbrev message : List ℕ
message = line (codes "Subject: no") ++ line (codes ".")

-- all replies are of the wanted class
taken : AsksGroup group message
    (Said group ∷ HeardEach (codes "250" ∷ codes "250" ∷ codes "354" ∷ []) None ∷ Said message ∷ Heard (codes "250") (line (codes "250")) ∷ []) None
taken = (refl, (tt, (refl, (refl, refl))))

-- the recipient is refused, and the server waits for a message all the same: it gets an empty one, whose reply doesn't count
refused_and_waiting : AsksGroup group message
    (Said group ∷ HeardEach (codes "250" ∷ codes "550" ∷ codes "354" ∷ []) None ∷ Said (line (codes ".")) ∷ Heard (codes "250") (line (codes "250")) ∷ [])
    (Some (Refused Recipient (codes "550")))
refused_and_waiting = (refl, (tt, ((refl, refl), refl)))

-- the recipient is refused, and so is DATA: the first refusal is the outcome
refused : AsksGroup group message
    (Said group ∷ HeardEach (codes "250" ∷ codes "550" ∷ codes "554" ∷ []) None ∷ []) (Some (Refused Recipient (codes "550")))
refused = (refl, (tt, (refl, refl)))

-- the connection ends after one reply
cut : AsksGroup group message (Said group ∷ HeardEach (codes "250" ∷ []) (Some Nothing) ∷ []) (Some (Unheard Recipient Nothing))
cut = (refl, (tt, (refl, refl)))

-- bytes follow the reply to DATA
trailing : AsksGroup group message (Said group ∷ HeardEach (codes "250" ∷ codes "250" ∷ []) (Some Trailing) ∷ []) (Some (Unheard Data Trailing))
trailing = (refl, (tt, (refl, refl)))

-- the server ends a session that was kept: the notice is tried in a new one
gone : AsksGroup group message (Said group ∷ HeardEach (codes "421" ∷ []) (Some Read) ∷ []) (Some (Refused Sender (codes "421")))
gone = (refl, (tt, (refl, refl)))

again : is_at_sender (Refused Sender (codes "421")) ≡ true
again = refl
