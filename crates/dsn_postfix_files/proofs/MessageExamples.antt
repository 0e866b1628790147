-- Worked examples of the facts of a message in its queue file, computed by the definitions. Except for the last ones,
-- the records and their places are from queue files that Postfix 3.7.11 wrote (tests/postfix/queue-mixed and
-- queue-null-sender).
use Rattle.std.proofs.Common.{◌≡◌, ℕ, List, [], ◌∷◌, codes, refl, Some, None}
use Rattle.dsn_postfix_files.specs.MessageFacts.{arrival_in, return_flags_in, said_of_message}
use Rattle.dsn_postfix_files.specs.QueueRecord.{PlacedBytes}

abbrev at : ℕ → ℕ → List ℕ → PlacedBytes
at place kind bytes = record { place = place; kind = kind; bytes = bytes }

mixed : said_of_message (
    at 0 67 (codes "            324             996               4              28             324               0")
    ∷ at 97 84 (codes "1795671363 200294")
    ∷ at 116 65 (codes "create_time=1795671363")
    ∷ at 186 65 (codes "envelope_id=QQ314159")
    ∷ at 208 65 (codes "ret_flags=2")
    ∷ at 221 83 (codes "ann@example.com")
    ∷ at 635 65 (codes "notify_flags=12")
    ∷ at 714 68 (codes "no-one@example.org")
    ∷ at 994 77 []
    ∷ at 1320 88 []
    ∷ [])
    ≡ record { arrival = Some 1795671363; sender = Some (codes "ann@example.com"); envelope_id = Some (codes "QQ314159"); return_flags = Some 2; message_id = None }
mixed = refl

-- a notice has an empty sender, and no further facts
null_sender : said_of_message (at 97 84 (codes "1795671363 224406") ∷ at 186 83 [] ∷ at 729 77 [] ∷ [])
    ≡ record { arrival = Some 1795671363; sender = Some []; envelope_id = None; return_flags = None; message_id = None }
null_sender = refl

-- the first time, sender and Message-ID count, and the last id and flags, in either form
again : said_of_message (
    at 0 84 (codes "0 5")
    ∷ at 9 84 (codes "7 5")
    ∷ at 18 84 (codes "8 5")
    ∷ at 27 83 (codes "a@example.org")
    ∷ at 42 83 (codes "b@example.org")
    ∷ at 57 105 (codes "first")
    ∷ at 64 65 (codes "envelope_id=second")
    ∷ at 84 60 (codes "1")
    ∷ at 87 65 (codes "ret_flags=3")
    ∷ at 100 65 (codes "message_id=<1@example.org>")
    ∷ at 129 65 (codes "message_id=<2@example.org>")
    ∷ [])
    ≡ record { arrival = Some 7; sender = Some (codes "a@example.org"); envelope_id = Some (codes "second"); return_flags = Some 1; message_id = Some (codes "<1@example.org>") }
again = refl

no_record : said_of_message [] ≡ record { arrival = None; sender = None; envelope_id = None; return_flags = None; message_id = None }
no_record = refl

no_time : arrival_in (at 0 84 (codes "soon")) ≡ None
no_time = refl

no_digits : return_flags_in (at 0 60 (codes "2x")) ≡ None
no_digits = refl
