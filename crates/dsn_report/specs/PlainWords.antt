-- What happened to a recipient, in plain words: a sentence for each action, and for a status code
-- that says why a delivery failed or is delayed (RFC 3463 section 3, RFC 7505, RFC 7372).
use Rattle.std.specs.Prelude.{ℕ, Bool, ◌&&◌, ◌||◌, List, [], ◌∷◌, length, drop, codes, nat_eq, if◌then◌else◌}
use Rattle.std.specs.List.{starts_with}
use Rattle.std.specs.Str.{bytes_eq}
use Rattle.dsn_text.specs.declared.action.Action.{Action}
use Rattle.dsn_text.specs.declared.action.Action.TheVariants.{Failed, Delayed, Delivered, Relayed, Expanded}

-- each sentence after its key, which is a status code without its class, or a subject with its dot
abbrev pub status_table : List (List ℕ × List ℕ)
status_table =
    (codes "1.1", codes "The address does not exist. Check how it is spelled.")
    ∷ (codes "1.2", codes "The part after the @ does not exist. Check how it is spelled.")
    ∷ (codes "1.3", codes "The address is not written correctly. Check how it is spelled.")
    ∷ (codes "1.4", codes "The address matches more than one recipient.")
    ∷ (codes "1.6", codes "The recipient has moved, and the new address is not known.")
    ∷ (codes "1.7", codes "Your own address was not accepted as the sender of the message.")
    ∷ (codes "1.8", codes "Your own address was not accepted as the sender of the message.")
    ∷ (codes "1.10", codes "The part after the @ accepts no mail. Check how it is spelled.")
    ∷ (codes "1.", codes "There is a problem with the address.")
    ∷ (codes "2.1", codes "The mailbox is disabled, or does not accept messages now.")
    ∷ (codes "2.2", codes "The mailbox is full.")
    ∷ (codes "2.3", codes "The message is larger than the mailbox accepts.")
    ∷ (codes "2.4", codes "There is a problem with the mailing list of this address.")
    ∷ (codes "2.", codes "There is a problem with the recipient's mailbox.")
    ∷ (codes "3.1", codes "The recipient's mail system has no space left.")
    ∷ (codes "3.2", codes "The recipient's mail system does not accept messages now.")
    ∷ (codes "3.4", codes "The message is too large for the recipient's mail system.")
    ∷ (codes "3.5", codes "The recipient's mail system is not configured correctly.")
    ∷ (codes "3.", codes "There is a problem in the recipient's mail system.")
    ∷ (codes "4.1", codes "The recipient's mail server could not be reached.")
    ∷ (codes "4.2", codes "The connection to the recipient's mail server was lost.")
    ∷ (codes "4.3", codes "The recipient's mail server could not be looked up.")
    ∷ (codes "4.4", codes "No mail server was found for the address. Check how it is spelled.")
    ∷ (codes "4.5", codes "The recipient's mail server is too busy.")
    ∷ (codes "4.6", codes "The message went in a circle between mail servers.")
    ∷ (codes "4.7", codes "The message could not be delivered in time.")
    ∷ (codes "4.", codes "There is a problem on the way to the recipient's mail server.")
    ∷ (codes "5.3", codes "The message has too many recipients.")
    ∷ (codes "5.", codes "The mail servers did not understand each other.")
    ∷ (codes "6.1", codes "The recipient's mail system does not accept this kind of content.")
    ∷ (codes "6.", codes "The recipient's mail system cannot handle the content of the message.")
    ∷ (codes "7.2", codes "You are not permitted to write to this mailing list.")
    ∷ (codes "7.26", codes "The recipient's mail system could not verify that you sent the message.")
    ∷ (codes "7.", codes "The recipient's mail system refused the message under one of its rules.")
    ∷ []

-- the sentence of a code that no key is for
abbrev pub other_words : List ℕ
other_words = codes "The mail system could not deliver the message."

-- whether a key is for a code without its class: the key is the code, or is the code's subject
abbrev pub is_for : List ℕ → List ℕ → Bool
is_for key code = bytes_eq code key || (nat_eq (length key) 2 && starts_with nat_eq code key)

-- the sentence after the first key that is for the code
abbrev pub words_for : List (List ℕ × List ℕ) → List ℕ → List ℕ
words_for [] code = other_words
words_for ((key, words) ∷ rest) code = if is_for key code then words else words_for rest code

-- the sentence of a status code, which has the same meaning in classes 4 and 5
unfoldable pub status_words : List ℕ → List ℕ
status_words status = words_for status_table (drop 2 status)

-- what happened to a recipient
abbrev pub meaning_of : Action → List ℕ → List ℕ
meaning_of Failed status = status_words status
meaning_of Delayed status = status_words status
meaning_of Delivered status = codes "The message was delivered."
meaning_of Relayed status =
    codes "The message was passed to a mail system that does not report deliveries."
meaning_of Expanded status = codes "The message was delivered, and passed on to other recipients."
