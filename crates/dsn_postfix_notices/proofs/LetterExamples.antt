-- Worked examples of what a notice reports for a log's record and says of its message, each computed. The records and
-- the notices are those of Postfix 3.7.11.
use Rattle.std.proofs.Common.{◌≡◌, ℕ, ◌+◌, true, false, List, [], Some, None, codes, length, refl}
use Rattle.std.specs.Prelude.{◌&&◌, nat_le}
use Rattle.dsn_outcome.specs.Outcome.{Fields, first_outcome_fault}
use Rattle.dsn_text.specs.Extension.{are_extension_lines, is_extension_line, is_extension_text}
use Rattle.dsn_text.specs.declared.service.Service.TheVariants.{Bounce, Defer}
use Rattle.dsn_postfix.specs.QuotedAddress.{needs_no_quotes}
use Rattle.dsn_postfix.specs.declared.returned_part.ReturnedPart.TheVariants.{Whole, Header}
use Rattle.dsn_postfix_files.specs.LogRecord.{LoggedFields}
use Rattle.dsn_postfix_notices.specs.letters.NoticeDraft.{is_returned_whole, postfix_fields, return_path_line, returned_text, tried_until}
use Rattle.dsn_postfix_notices.specs.letters.PlainStatus.{plain_status}
use Rattle.dsn_postfix_notices.specs.letters.ToldOutcome.{diagnostic_said, fields_told, first_told_fault, original_said, unless_final}

-- ---- statuses

zero_gone : plain_status (codes "5.01.1") ≡ codes "5.1.1"
zero_gone = refl

zeros_gone : plain_status (codes "5.000.010") ≡ codes "5.0.10"
zeros_gone = refl

zero_stays : plain_status (codes "5.0.0") ≡ codes "5.0.0"
zero_stays = refl

zero_within : plain_status (codes "4.10.100") ≡ codes "4.10.100"
zero_within = refl

-- ---- a recipient

abbrev said : LoggedFields
said = record {
  recipient = codes "no.bob@example.org";
  original_recipient = codes "bob@example.org";
  offset = 727;
  dsn_original = codes "rfc822;Bob@example.org";
  notify_flags = 12;
  status = codes "5.01.1";
  action = codes "failed";
  diagnostic_type = codes "smtp";
  diagnostic_text = codes "550 5.1.1 no such user here";
  mta_type = codes "dns";
  mta_name = codes "127.0.0.1";
  reason = codes "host 127.0.0.1[127.0.0.1] said: 550 5.1.1 no such user here";
}

abbrev unsaid_by_others : LoggedFields
unsaid_by_others = record {
  recipient = codes "carol@example.org";
  original_recipient = [];
  offset = 0;
  dsn_original = [];
  notify_flags = 0;
  status = codes "4.4.1";
  action = codes "delayed";
  diagnostic_type = [];
  diagnostic_text = [];
  mta_type = [];
  mta_name = [];
  reason = codes "connect to 127.0.0.1[127.0.0.1]:25: Connection refused";
}

abbrev fields_of_said : Fields
fields_of_said = record {
  recipient = codes "no.bob@example.org";
  recipient_type = [];
  original = codes "Bob@example.org";
  original_type = codes "rfc822";
  action = 1;
  status = codes "5.1.1";
  mta = codes "127.0.0.1";
  diagnostic = codes "550 5.1.1 no such user here";
  diagnostic_type = codes "smtp";
  reason = codes "host 127.0.0.1[127.0.0.1] said: 550 5.1.1 no such user here";
  last_attempt = None;
  retry_until = None;
  extensions = [];
}

abbrev fields_of_unsaid : Fields
fields_of_unsaid = record {
  recipient = codes "carol@example.org";
  recipient_type = [];
  original = [];
  original_type = [];
  action = 2;
  status = codes "4.4.1";
  mta = [];
  diagnostic = codes "connect to 127.0.0.1[127.0.0.1]:25: Connection refused";
  diagnostic_type = codes "X-Postfix";
  reason = codes "connect to 127.0.0.1[127.0.0.1]:25: Connection refused";
  last_attempt = None;
  retry_until = Some 1700432000;
  extensions = [];
}

said_is_told : fields_told None said ≡ fields_of_said
said_is_told = refl

unsaid_is_told : fields_told (tried_until Defer 1700000000 432000) unsaid_by_others ≡ fields_of_unsaid
unsaid_is_told = refl

said_is_legal : first_told_fault Bounce None said ≡ None
unfolding first_outcome_fault are_extension_lines
said_is_legal = refl

unsaid_is_legal : first_told_fault Defer (Some 1700432000) unsaid_by_others ≡ None
unfolding first_outcome_fault are_extension_lines
unsaid_is_legal = refl

-- an original recipient without its type, and one of another type
original_without_type : original_said (codes "bob@example.org") [] ≡ record { kind = codes "bob@example.org"; text = [] }
original_without_type = refl

original_of_x400 : original_said (codes "x400;/C=US/O=Acme/") [] ≡ record { kind = codes "x400"; text = codes "/C=US/O=Acme/" }
original_of_x400 = refl

-- smtpd(8) logs the address of RCPT as if it had come with ORCPT: a notice reports it for a recipient that was
-- rewritten
said_as_final : fields_told None (record {
  recipient = codes "bob@example.org";
  original_recipient = [];
  offset = 727;
  dsn_original = codes "rfc822;bob@example.org";
  notify_flags = 0;
  status = codes "5.1.1";
  action = codes "failed";
  diagnostic_type = [];
  diagnostic_text = [];
  mta_type = [];
  mta_name = [];
  reason = codes "no";
}) ≡ record {
  recipient = codes "bob@example.org";
  recipient_type = [];
  original = [];
  original_type = [];
  action = 1;
  status = codes "5.1.1";
  mta = [];
  diagnostic = codes "no";
  diagnostic_type = codes "X-Postfix";
  reason = codes "no";
  last_attempt = None;
  retry_until = None;
  extensions = [];
}
said_as_final = refl

type_in_capitals : unless_final (codes "bob@example.org") (original_said (codes "RFC822;bob@example.org") []) ≡ record { kind = []; text = [] }
type_in_capitals = refl

before_rewriting : unless_final (codes "no.bob@example.org") (original_said [] (codes "bob@example.org")) ≡ record { kind = []; text = codes "bob@example.org" }
before_rewriting = refl

not_rewritten : unless_final (codes "bob@example.org") (original_said [] (codes "bob@example.org")) ≡ record { kind = []; text = [] }
not_rewritten = refl

-- the sender's own spelling is reported, and another type with the same address
other_spelling : unless_final (codes "bob@example.org") (original_said (codes "rfc822;Bob@example.org") []) ≡ record { kind = codes "rfc822"; text = codes "Bob@example.org" }
other_spelling = refl

other_type : unless_final (codes "bob@example.org") (original_said (codes "utf-8;bob@example.org") []) ≡ record { kind = codes "utf-8"; text = codes "bob@example.org" }
other_type = refl

-- a diagnostic needs both its type and its text
type_alone : diagnostic_said (codes "smtp") [] (codes "no") ≡ record { kind = codes "X-Postfix"; text = codes "no" }
type_alone = refl

nothing_said : diagnostic_said [] (codes "550 no") [] ≡ record { kind = []; text = [] }
nothing_said = refl

-- ---- a message

fields_of_postfix : postfix_fields (codes "090B8A85C9C") (codes "ann@example.com")
    ≡ codes "X-Postfix-Queue-ID: 090B8A85C9C\nX-Postfix-Sender: rfc822; ann@example.com\n"
fields_of_postfix = refl

sender_left_out : postfix_fields (codes "090B8A85C9C") (codes "a\nX-B: c") ≡ codes "X-Postfix-Queue-ID: 090B8A85C9C\n"
sender_left_out = refl

they_are_extension_fields : is_extension_text (codes "X-Postfix-Queue-ID: 090B8A85C9C\nX-Postfix-Sender: rfc822; ann@example.com\n") ≡ true
unfolding are_extension_lines is_extension_line
they_are_extension_fields = refl

-- the line in front of what is returned
line_of_ann : return_path_line (codes "ann@example.com") ≡ codes "Return-Path: <ann@example.com>\n"
unfolding needs_no_quotes
line_of_ann = refl

line_of_the_null_sender : return_path_line [] ≡ codes "Return-Path: <>\n"
line_of_the_null_sender = refl

-- a sender that needs quotes, and one that would end the line
no_line_with_quotes : return_path_line (codes "ann,bob@example.com") ≡ []
unfolding needs_no_quotes
no_line_with_quotes = refl

no_line_of_two : return_path_line (codes "a\nX-B: c") ≡ []
no_line_of_two = refl

whole_if_wanted : is_returned_whole Whole 50000 (codes "P: q\n") (codes "A: b\n\nc\n") ≡ true
whole_if_wanted = refl

message_behind_its_line : returned_text true (codes "P: q\n") (codes "A: b\n\nc\n") ≡ codes "P: q\nA: b\n\nc\n"
message_behind_its_line = refl

header_if_wanted : is_returned_whole Header 50000 (codes "P: q\n") (codes "A: b\n\nc\n") ≡ false
header_if_wanted = refl

header_behind_its_line : returned_text false (codes "P: q\n") (codes "A: b\n\nc\n") ≡ codes "P: q\nA: b\n"
header_behind_its_line = refl

-- bounce_size_limit counts the message alone: the last byte that it allows, and one more
whole_at_the_limit : is_returned_whole Whole 8 (codes "P: q\n") (codes "A: b\n\nc\n") ≡ true
whole_at_the_limit = refl

header_beyond_the_limit : is_returned_whole Whole 7 (codes "P: q\n") (codes "A: b\n\nc\n") ≡ false
header_beyond_the_limit = refl

-- the room of a notice counts the line too: the last byte that fits, and one more
room_for_the_rest : (text : List ℕ) → length text ≡ 32763 → is_returned_whole Whole 50000 (codes "P: q\n") text ≡ true
room_for_the_rest text is = λ i. nat_le (is i) 50000 && nat_le (5 + is i) 32768

no_room_for_the_rest : (text : List ℕ) → length text ≡ 32764 → is_returned_whole Whole 50000 (codes "P: q\n") text ≡ false
no_room_for_the_rest text is = λ i. nat_le (is i) 50000 && nat_le (5 + is i) 32768

failures_are_final : tried_until Bounce 1700000000 432000 ≡ None
failures_are_final = refl

after_the_last_year : tried_until Defer 253402300799 1 ≡ None
after_the_last_year = refl
