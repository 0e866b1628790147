-- Worked examples of the header of a message, computed by the definitions.
use Rattle.std.proofs.Common.{◌≡◌, ℕ, true, false, List, [], ◌∷◌, ◌++◌, codes, refl, Some, None}
use Rattle.dsn_postfix_files.specs.MessageHeader.{is_header_line, message_header, message_id_of_text}

-- up to the empty line; a field may continue on further lines, and may have blanks before its colon
fields : message_header (codes "Subject: hello\n\tand more\nX-Old : form\n\nTo: nobody\n") ≡ codes "Subject: hello\n\tand more\nX-Old : form\n"
fields = refl

-- a message that Postfix 3.7.11 held, and of which it returned these lines as the header
abbrev kept : List ℕ
kept = codes "Subject: then a body\nMessage-Id: <20261126234815.D8CA2A85C29@mx.example.net>\nDate: Thu, 26 Nov 2026 23:48:15 +0000 (UTC)\nFrom: ann@example.com\n"

given_back : message_header (kept ++ codes "\nno colon stands in this line\nX-Never: a field\n\nMore.\n") ≡ kept
given_back = refl

-- without an empty line, up to the first line that isn't of a header
no_empty_line : message_header (codes "Subject: hello\nno field\nTo: nobody\n") ≡ codes "Subject: hello\n"
no_empty_line = refl

-- the whole text, even without a final line feed; or nothing of it
header_alone : message_header (codes "Subject: hello\n") ≡ codes "Subject: hello\n"
header_alone = refl

half_a_line : message_header (codes "Subject: hello\nTo: x") ≡ codes "Subject: hello\nTo: x"
half_a_line = refl

no_header : message_header (codes "\nSubject: hello\n") ≡ []
no_header = refl

-- without a name, with a name that has a byte outside ASCII or a NUL, and with words before the colon
no_names : is_header_line (codes ": x") ≡ false
no_names = refl

other_letters : is_header_line (88 ∷ (195 ∷ (188 ∷ codes ": x"))) ≡ false
other_letters = refl

nul : is_header_line (88 ∷ (0 ∷ codes ": x")) ≡ false
nul = refl

words : is_header_line (codes "From ann@example.com Thu Nov 26 05:36:03 2026") ≡ false
words = refl

-- a line of blanks continues a field
blanks : is_header_line (codes " ") ≡ true
blanks = refl

-- ---- the Message-ID

own_id : message_id_of_text (kept ++ codes "\nMessage-ID: <body@example.com>\n") ≡ Some (codes "<20261126234815.D8CA2A85C29@mx.example.net>")
own_id = refl

-- blanks around it don't count, and letters of either case are the same
blanks_around_id : message_id_of_text (codes "Subject: x\nMESSAGE-id:\t <1@example.com> \t\n") ≡ Some (codes "<1@example.com>")
blanks_around_id = refl

-- the first line counts, and only that line of a field
first_id : message_id_of_text (codes "Message-ID: <1@example.com>\nMessage-ID: <2@example.com>\n") ≡ Some (codes "<1@example.com>")
first_id = refl

id_on_the_next_line : message_id_of_text (codes "Message-ID:\n <1@example.com>\n") ≡ Some []
id_on_the_next_line = refl

-- other fields, a longer name, the older form, and text in the body
no_id : message_id_of_text (codes "Resent-Message-ID: <1@example.com>\nMessage-IDs: <2@example.com>\nMessage-ID : <3@example.com>\n\nMessage-ID: <4@example.com>\n") ≡ None
no_id = refl

id_at_the_end : message_id_of_text (codes "Message-ID: <1@example.com>") ≡ Some (codes "<1@example.com>")
id_at_the_end = refl

short_text : message_id_of_text (codes "Message-ID") ≡ None
short_text = refl
