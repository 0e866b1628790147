-- Worked examples of the text of a queue file's message, computed by the definitions.
use Rattle.std.proofs.Common.{◌≡◌, ℕ, List, [], ◌∷◌, codes, refl, take}
use Rattle.dsn_postfix_files.specs.MessageText.{message_text}
use Rattle.dsn_postfix_files.specs.QueueRecord.{PlacedBytes}

abbrev at : ℕ → ℕ → List ℕ → PlacedBytes
at place kind bytes = record { place = place; kind = kind; bytes = bytes }

-- lines, one of them in two records; a record that fills a place; and records after the text
in_lines : message_text (
    at 0 83 (codes "ann@example.com")
    ∷ at 17 78 (codes "no text yet")
    ∷ at 30 77 []
    ∷ at 32 78 (codes "Subject: hello")
    ∷ at 48 119 (codes "filled")
    ∷ at 56 78 []
    ∷ at 58 76 (codes "one ")
    ∷ at 64 78 (codes "line")
    ∷ at 70 88 []
    ∷ at 72 78 (codes "no text any more")
    ∷ [])
    ≡ codes "Subject: hello\n\none line\n"
in_lines = refl

-- a last line without a line feed, and a file without a message
without_an_end : message_text (at 0 77 [] ∷ at 2 76 (codes "half") ∷ []) ≡ codes "half"
without_an_end = refl

no_message : message_text (at 0 78 (codes "line") ∷ []) ≡ []
no_message = refl

-- the front of the text, cut within a line
front_of_lines : take 7 (message_text (at 0 77 [] ∷ at 2 78 (codes "one") ∷ at 7 78 (codes "two three") ∷ [])) ≡ codes "one\ntwo"
front_of_lines = refl
