-- Worked examples of the words for people, computed by the definitions.
use Rattle.std.proofs.Common.{◌≡◌, true, false, [], ◌∷◌, refl}
use Rattle.std.specs.Prelude.{codes, Some, None}
use Rattle.dsn_outcome.specs.Letter.{Letter}
use Rattle.dsn_outcome.specs.Outcome.{Outcome}
use Rattle.dsn_outcome.specs.declared.wording.Wording.{Wording}
use Rattle.dsn_outcome.specs.declared.wording.Wording.TheVariants.{ByService, ByOutcome}
use Rattle.dsn_text.specs.declared.action.Action.TheVariants.{Failed, Delayed, Relayed}
use Rattle.dsn_text.specs.declared.service.Service.TheVariants.{Bounce, Defer, Trace}
use Rattle.dsn_report.specs.DeliveryStatus.{line_if_any}
use Rattle.dsn_report.specs.Notice.{explanation, guidance, has_text, notification, outcome_lines, preface_of, recipient_told, reply_lines, template_of, words_by}
use Rattle.dsn_report.specs.PlainWords.{meaning_of, status_words}
use Rattle.dsn_report.specs.Site.{plain_site}
use Rattle.dsn_report.proofs.Examples.{bob_fails, retried_until, to_ann}

-- ---- the sentence of a status code

unknown_address : status_words (codes "5.1.1") ≡ codes "The address does not exist. Check how it is spelled."
unfolding status_words
unknown_address = refl

-- a code has the same sentence in both classes
full_mailbox : status_words (codes "4.2.2") ≡ status_words (codes "5.2.2")
unfolding status_words
full_mailbox = refl

full_mailbox_words : status_words (codes "5.2.2") ≡ codes "The mailbox is full."
unfolding status_words
full_mailbox_words = refl

-- a longer code isn't taken for the one that it begins with
null_mx : status_words (codes "5.1.10") ≡ codes "The part after the @ accepts no mail. Check how it is spelled."
unfolding status_words
null_mx = refl

-- a detail without a key has its subject's sentence
other_detail : status_words (codes "5.1.11") ≡ codes "There is a problem with the address."
unfolding status_words
other_detail = refl

refused : status_words (codes "5.7.1") ≡ codes "The recipient's mail system refused the message under one of its rules."
unfolding status_words
refused = refl

-- a subject without a key has the last sentence, also one that begins as another does
no_subject : status_words (codes "5.0.0") ≡ codes "The mail system could not deliver the message."
unfolding status_words
no_subject = refl

long_subject : status_words (codes "5.10.1") ≡ codes "The mail system could not deliver the message."
unfolding status_words
long_subject = refl

unreachable : meaning_of Delayed (codes "4.4.1") ≡ codes "The recipient's mail server could not be reached."
unfolding status_words
unreachable = refl

-- a success goes by its action
relayed : meaning_of Relayed (codes "2.0.0") ≡ codes "The message was passed to a mail system that does not report deliveries."
relayed = refl

-- ---- whether the reason has the reply

in_the_middle : has_text (codes "550 no") (codes "host mx said: 550 no (in reply to RCPT TO command)") ≡ true
in_the_middle = refl

at_the_end : has_text (codes "550 no") (codes "host mx said: 550 no") ≡ true
at_the_end = refl

the_same : has_text (codes "550 no") (codes "550 no") ≡ true
the_same = refl

cut_off : has_text (codes "550 no") (codes "host mx said: 550 n") ≡ false
cut_off = refl

-- ---- the lines of an outcome

abbrev bob_replied : Outcome
bob_replied = record bob_fails { mta = Some (codes "mx.example.org"); diagnostic = Some (codes "550 5.1.1 no such user") }

reply_word_for_word : outcome_lines ByOutcome ByOutcome bob_replied ≡
    codes "<bob@example.org>: failed (5.1.1)"
    ∷ codes "    The address does not exist. Check how it is spelled."
    ∷ codes "    mx.example.org said:"
    ∷ codes "      550 5.1.1 no such user"
    ∷ []
unfolding outcome_lines explanation recipient_told line_if_any reply_lines status_words
reply_word_for_word = refl

-- a reason that has the reply is enough
reason_with_reply : outcome_lines ByOutcome ByOutcome (record bob_replied { reason = Some (codes "host mx.example.org[192.0.2.1] said: 550 5.1.1 no such user (in reply to RCPT TO command)") }) ≡
    codes "<bob@example.org>: failed (5.1.1)"
    ∷ codes "    The address does not exist. Check how it is spelled."
    ∷ codes "    host mx.example.org[192.0.2.1] said: 550 5.1.1 no such user (in reply to RCPT TO command)"
    ∷ []
unfolding outcome_lines explanation recipient_told line_if_any reply_lines status_words
reason_with_reply = refl

-- a reason in other words comes beside the reply
reason_and_reply : outcome_lines ByOutcome ByOutcome (record bob_replied { mta = None; reason = Some (codes "refused") }) ≡
    codes "<bob@example.org>: failed (5.1.1)"
    ∷ codes "    The address does not exist. Check how it is spelled."
    ∷ codes "    refused"
    ∷ codes "    The recipient's mail system said:"
    ∷ codes "      550 5.1.1 no such user"
    ∷ []
unfolding outcome_lines explanation recipient_told line_if_any reply_lines status_words
reason_and_reply = refl

-- by service there is the reason alone
reason_by_service : outcome_lines ByService ByService (record bob_replied { reason = Some (codes "refused") }) ≡
    codes "<bob@example.org>: failed (5.1.1)"
    ∷ codes "    refused"
    ∷ []
unfolding outcome_lines explanation recipient_told line_if_any
reason_by_service = refl

-- ---- the part for people

abbrev delayed_letter : Wording → Letter
delayed_letter wording = record {
  key = record { service = Defer; id = codes "A1B2C3" };
  draft = record (to_ann None []) { wording = wording };
  outcomes = record bob_fails { service = Defer; action = Delayed; status = codes "4.4.1"; retry_until = Some 1700432000 } ∷ [];
  serial = 0;
}

delay_by_outcome : notification (plain_site (codes "mx.example.net")) (delayed_letter ByOutcome) ≡
    codes "This is the mail system at host mx.example.net."
    ∷ []
    ∷ codes "Your message has not yet been delivered to the recipients below."
    ∷ codes "You do not need to send it again."
    ∷ codes "For help, write to <postmaster@mx.example.net> and include this notice."
    ∷ []
    ∷ codes "<bob@example.org>: delayed (4.4.1)"
    ∷ codes "    The recipient's mail server could not be reached."
    ∷ codes "    It will be tried again until Sun, 19 Nov 2023 22:13:20 +0000"
    ∷ []
unfolding notification preface_of template_of guidance outcome_lines explanation recipient_told line_if_any reply_lines status_words
delay_by_outcome = rw retried_until refl

delay_by_service : notification (plain_site (codes "mx.example.net")) (delayed_letter ByService) ≡
    codes "This is the mail system at host mx.example.net."
    ∷ []
    ∷ codes "Your message has not yet been delivered to the recipients below."
    ∷ []
    ∷ codes "<bob@example.org>: delayed (4.4.1)"
    ∷ []
unfolding notification preface_of template_of guidance outcome_lines explanation recipient_told line_if_any
delay_by_service = refl

final_by_outcome : (words_by ByOutcome Bounce false).consequence ≡ codes "No further attempt will be made."
final_by_outcome = refl

requested_by_outcome : (words_by ByOutcome Trace true).consequence ≡ codes "You or your mail program requested this report."
requested_by_outcome = refl
