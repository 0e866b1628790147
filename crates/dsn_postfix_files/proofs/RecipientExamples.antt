-- Worked examples of the recipients of a queue file, computed by the definitions. Except for the last ones, the records
-- and their places are from queue files that Postfix 3.7.11 wrote (tests/postfix/queue-mixed and queue-milter).
use Rattle.std.proofs.Common.{◌≡◌, ℕ, List, [], ◌∷◌, codes, refl}
use Rattle.dsn_postfix_files.specs.QueueRecipients.{after_record, recipients_of}
use Rattle.dsn_postfix_files.specs.QueueRecord.{PlacedBytes}
use Rattle.dsn_postfix_files.specs.declared.recipient_state.RecipientState.TheVariants.{Waiting, Done, Removed}

abbrev at : ℕ → ℕ → List ℕ → PlacedBytes
at place kind bytes = record { place = place; kind = kind; bytes = bytes }

-- some are done, and one is not; each has its own flags
mixed : recipients_of (
    at 635 65 (codes "notify_flags=12")
    ∷ at 652 65 (codes "dsn_orig_rcpt=rfc822;Hans.No@example.org")
    ∷ at 694 79 (codes "no-one@example.org")
    ∷ at 714 68 (codes "no-one@example.org")
    ∷ at 819 65 (codes "dsn_orig_rcpt=rfc822;later@example.org")
    ∷ at 859 79 (codes "later@example.org")
    ∷ at 878 82 (codes "later@example.org")
    ∷ at 994 77 []
    ∷ [])
    ≡ record { place = 714; address = codes "no-one@example.org"; original = codes "no-one@example.org"; dsn_original = codes "rfc822;Hans.No@example.org"; notify_flags = 12; state = Done }
    ∷ record { place = 878; address = codes "later@example.org"; original = codes "later@example.org"; dsn_original = codes "rfc822;later@example.org"; notify_flags = 0; state = Waiting }
    ∷ []
unfolding after_record
mixed = refl

-- one was removed, and one was added by a milter, so the sender gave no name for it
milter : recipients_of (
    at 755 65 (codes "dsn_orig_rcpt=rfc822;gone@example.org")
    ∷ at 794 79 (codes "gone@example.org")
    ∷ at 812 47 (codes "gone@example.org")
    ∷ at 1548 65 (codes "notify_flags=8")
    ∷ at 1564 65 (codes "dsn_orig_rcpt=rfc822;x@example.org")
    ∷ at 1600 79 (codes "later-added@example.org")
    ∷ at 1625 82 (codes "later-added@example.org")
    ∷ at 1667 79 (codes "no-added@example.org")
    ∷ at 1689 68 (codes "no-added@example.org")
    ∷ [])
    ≡ record { place = 812; address = codes "gone@example.org"; original = codes "gone@example.org"; dsn_original = codes "rfc822;gone@example.org"; notify_flags = 0; state = Removed }
    ∷ record { place = 1625; address = codes "later-added@example.org"; original = codes "later-added@example.org"; dsn_original = codes "rfc822;x@example.org"; notify_flags = 8; state = Waiting }
    ∷ record { place = 1689; address = codes "no-added@example.org"; original = codes "no-added@example.org"; dsn_original = []; notify_flags = 0; state = Done }
    ∷ []
unfolding after_record
milter = refl

-- the last fact before a recipient counts, unknown flags are missing, and a type is equivalent to an attribute; two
-- recipients with one address are separate
again : recipients_of (
    at 1 110 (codes "4")
    ∷ at 4 110 (codes "3")
    ∷ at 7 79 (codes "a@example.org")
    ∷ at 22 79 (codes "b@example.org")
    ∷ at 37 111 (codes "rfc822;c@example.org")
    ∷ at 59 82 (codes "d@example.org")
    ∷ at 74 82 (codes "d@example.org")
    ∷ [])
    ≡ record { place = 59; address = codes "d@example.org"; original = codes "b@example.org"; dsn_original = codes "rfc822;c@example.org"; notify_flags = 0; state = Waiting }
    ∷ record { place = 74; address = codes "d@example.org"; original = []; dsn_original = []; notify_flags = 0; state = Waiting }
    ∷ []
unfolding after_record
again = refl
