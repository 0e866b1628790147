-- Worked examples of how a reader divides a message, computed by the definitions.
use Rattle.std.proofs.Common.{◌≡◌, ℕ, true, false, List, [], ◌∷◌, ◌++◌, refl}
use Rattle.std.specs.Prelude.{codes, replicate, Some, None}
use Rattle.dsn_report.specs.Data.{data_after, message_lines, message_of, messages_in, messages_of}
use Rattle.dsn_report.specs.Grammar.{Field, delivery_status_in, is_choice_of, per_recipient_names}
use Rattle.dsn_report.specs.LegalLines.{is_legal_line}
use Rattle.dsn_report.specs.Lines.{pieces_more, pieces_of_text, text_of_lines, text_of_pieces}
use Rattle.dsn_report.specs.Multipart.{message_body, divide, divide_more, multipart_of}
use Rattle.dsn_report.proofs.Examples.{crlf}

-- only CR directly followed by LF ends a line
pieces : pieces_of_text (codes "a" ++ crlf ++ 98 ∷ 13 ∷ 99 ∷ 10 ∷ 100 ∷ [] ++ crlf) ≡ codes "a" ∷ (98 ∷ 13 ∷ 99 ∷ 10 ∷ 100 ∷ []) ∷ [] ∷ []
unfolding pieces_of_text pieces_more
pieces = refl

no_end : pieces_of_text (codes "a" ++ 13 ∷ 13 ∷ 10 ∷ 98 ∷ []) ≡ (97 ∷ 13 ∷ []) ∷ codes "b" ∷ []
unfolding pieces_of_text pieces_more
no_end = refl

-- two parts, with text before and after them; a line of the header that looks like a delimiter doesn't count
two_parts :
    multipart_of (codes "B") (codes "--B: y" ++ crlf ++ crlf ++ codes "pre" ++ crlf ++ codes "--B" ++ crlf ++ codes "T: x" ++ crlf ++ crlf ++ codes "one" ++ crlf ++ crlf
    ++ codes "--B more" ++ crlf ++ codes "two" ++ crlf ++ codes "--B--" ++ crlf ++ codes "post" ++ crlf) ≡
    record { preamble = Some (codes "pre"); parts = (codes "T: x" ++ crlf ++ crlf ++ codes "one" ++ crlf) ∷ codes "two" ∷ []; epilogue = Some (codes "post" ++ crlf) }
unfolding multipart_of divide divide_more message_body pieces_of_text pieces_more text_of_pieces
two_parts = refl

-- a message that was cut short has no last delimiter
cut_short :
    multipart_of (codes "B") (crlf ++ codes "--B" ++ crlf ++ codes "one" ++ crlf ++ codes "--B") ≡ record { preamble = None; parts = codes "one" ∷ [] ∷ []; epilogue = None }
unfolding multipart_of divide divide_more message_body pieces_of_text pieces_more text_of_pieces
cut_short = refl

-- one dot is removed from each line that begins with a dot, up to a line of one dot
dots_taken :
    message_of (codes "MAIL FROM:<>" ++ crlf ++ codes "RCPT TO:<a>" ++ crlf ++ codes "DATA" ++ crlf ++ codes "..x" ++ crlf ++ codes ".y" ++ crlf ++ codes "z." ++ crlf ++ codes "." ++ crlf ++ codes "QUIT" ++ crlf) ≡
    codes ".x" ++ crlf ++ codes "y" ++ crlf ++ codes "z." ++ crlf
unfolding message_of data_after message_lines pieces_of_text pieces_more text_of_lines
dots_taken = refl

-- a session of two messages: a line DATA within a message begins no message, and an unfinished message doesn't count
two_messages :
    messages_of (codes "EHLO h" ++ crlf ++ codes "DATA" ++ crlf ++ codes "..x" ++ crlf ++ codes "DATA" ++ crlf ++ codes "." ++ crlf ++ codes "y" ++ crlf ++ codes "DATA" ++ crlf ++ codes "." ++ crlf
    ++ codes "DATA" ++ crlf ++ codes "z" ++ crlf) ≡
    (codes ".x" ++ crlf ++ codes "DATA" ++ crlf) ∷ [] ∷ []
unfolding messages_of messages_in pieces_of_text pieces_more text_of_lines
two_messages = refl

-- the second part's body begins after its first empty line, and has further empty lines
status_found :
    delivery_status_in (multipart_of (codes "B") (crlf ++ codes "--B" ++ crlf ++ crlf ++ codes "one" ++ crlf ++ codes "--B" ++ crlf ++ codes "T: x" ++ crlf ++ crlf
    ++ codes "M: m" ++ crlf ++ crlf ++ codes "R: r" ++ crlf ++ crlf ++ codes "--B--" ++ crlf)) ≡
    Some (codes "M: m" ∷ [] ∷ codes "R: r" ∷ [] ∷ [])
unfolding multipart_of divide divide_more message_body pieces_of_text pieces_more text_of_pieces
status_found = refl

-- a message of one part has no second part
no_second :
    delivery_status_in (multipart_of (codes "B") (crlf ++ codes "--B" ++ crlf ++ crlf ++ codes "one" ++ crlf ++ codes "--B--" ++ crlf)) ≡ None
unfolding multipart_of divide divide_more message_body pieces_of_text pieces_more text_of_pieces
no_second = refl

-- a line of 998 bytes is legal, and a longer one isn't
longest_line : is_legal_line (replicate 998 97) ≡ true
longest_line = refl

line_too_long : is_legal_line (replicate 999 97) ≡ false
line_too_long = refl

-- a field with this name, with any value
abbrev named : List ℕ → Field
named name = record { name = name; value = codes "x" }

-- a recipient's fields are in the order of RFC 3464 section 2.3, each at most once; in another order they are not valid
fields_in_order : is_choice_of per_recipient_names (named (codes "Final-Recipient") ∷ named (codes "Action") ∷ named (codes "Status") ∷ named (codes "Will-Retry-Until") ∷ []) ≡ true
fields_in_order = refl

fields_out_of_order : is_choice_of per_recipient_names (named (codes "Final-Recipient") ∷ named (codes "Status") ∷ named (codes "Action") ∷ []) ≡ false
fields_out_of_order = refl

field_twice : is_choice_of per_recipient_names (named (codes "Action") ∷ named (codes "Action") ∷ []) ≡ false
field_twice = refl
