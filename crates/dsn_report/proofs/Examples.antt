-- Worked examples of notices and outboxes, computed by the definitions.
use Rattle.std.proofs.Common.{◌≡◌, ℕ, true, false, List, [], ◌∷◌, ◌++◌, map, refl, take}
use Rattle.std.specs.Fmt.{digits}
use Rattle.std.specs.Prelude.{codes, Option, Some, None, replicate}
use Rattle.dsn_outcome.specs.Draft.{Draft}
use Rattle.dsn_outcome.specs.Letter.{Letter}
use Rattle.dsn_outcome.specs.Outcome.{Outcome}
use Rattle.dsn_text.specs.Extension.{lines_ended_by_lf}
use Rattle.dsn_text.specs.Stamp.{date_text, civil_after}
use Rattle.dsn_text.specs.declared.action.Action.TheVariants.{Failed, Delayed}
use Rattle.dsn_outcome.specs.declared.returned.Returned.TheVariants.{Header, Message, EightBitMessage}
use Rattle.dsn_outcome.specs.declared.wording.Wording.TheVariants.{ByService, ByOutcome}
use Rattle.dsn_text.specs.declared.service.Service.TheVariants.{Bounce, Defer, Trace}
use Rattle.dsn_report.specs.Boundary.{returns_eight_bit, returned_lines, returns_message, stands_whole, header_lines, boundary_text, boundary_number, is_ruled_out, first_failing}
use Rattle.dsn_report.specs.DeliveryStatus.{line_if_any, per_message_fields, per_recipient_fields, delivery_status}
use Rattle.dsn_report.specs.Lines.{text_of_lines, dot_stuffed}
use Rattle.dsn_report.specs.Notice.{notice_header, part_header, part_of, outcome_lines, preface_of, recipient_told, explanation, guidance, notification, template_of, words_by, reply_lines, returned_part, lines_with_boundary, notice_lines, notice_of}
use Rattle.dsn_report.specs.PlainWords.{status_words}
use Rattle.dsn_report.specs.Site.{Site, plain_site}
use Rattle.dsn_report.specs.Outbox.{greeting, goodbye, transaction_lines, mail_transaction, outbox_of}

abbrev host : List ℕ
host = codes "mx.example.net"

abbrev site : Site
site = plain_site host

-- line feed, and the CRLF of a line
abbrev lf : List ℕ
lf = 10 ∷ []

abbrev pub crlf : List ℕ
crlf = 13 ∷ 10 ∷ []

abbrev pub bob_fails : Outcome
bob_fails = record {
  service = Bounce;
  recipient = codes "bob@example.org";
  recipient_type = None;
  original = None;
  original_type = None;
  action = Failed;
  status = codes "5.1.1";
  mta = None;
  diagnostic = None;
  diagnostic_type = None;
  reason = None;
  last_attempt = None;
  retry_until = None;
  extensions = [];
}

abbrev pub to_ann : Option (List ℕ) → List ℕ → Draft
to_ann envelope_id header = record {
  moment = 1700000000;
  arrival = 1699996400;
  return_path = Some (codes "ann@example.com");
  envelope_id = envelope_id;
  header = header;
  extensions = [];
  expected = None;
  returned = Header;
  wording = ByService;
}

abbrev letter_with : Draft → Outcome → Letter
letter_with draft outcome = record {
  key = record { service = Bounce; id = codes "A1B2C3" };
  draft = draft;
  outcomes = outcome ∷ [];
  serial = 0;
}

-- the two dates of the examples
pub flushed_at : date_text 1700000000 ≡ codes "Tue, 14 Nov 2023 22:13:20 +0000"
unfolding date_text civil_after
flushed_at = refl

pub arrived_at : date_text 1699996400 ≡ codes "Tue, 14 Nov 2023 21:13:20 +0000"
unfolding date_text civil_after
arrived_at = refl

pub retried_until : date_text 1700432000 ≡ codes "Sun, 19 Nov 2023 22:13:20 +0000"
unfolding date_text civil_after
retried_until = refl

-- a delayed recipient: when delivery was last tried, and until when it is retried
delayed_recipient :
    per_recipient_fields (record bob_fails { service = Defer; action = Delayed; status = codes "4.4.1"; last_attempt = Some 1700000000; retry_until = Some 1700432000 }) ≡
    codes "Final-Recipient: rfc822; bob@example.org"
    ∷ codes "Action: delayed"
    ∷ codes "Status: 4.4.1"
    ∷ codes "Last-Attempt-Date: Tue, 14 Nov 2023 22:13:20 +0000"
    ∷ codes "Will-Retry-Until: Sun, 19 Nov 2023 22:13:20 +0000"
    ∷ []
unfolding per_recipient_fields line_if_any lines_ended_by_lf
delayed_recipient = rw (flushed_at, retried_until) refl

-- a recipient whose address, original address and diagnostic have unusual types
typed_recipient :
    per_recipient_fields (record bob_fails {
      recipient = codes "+15551234@example.org";
      recipient_type = Some (codes "X-Fax");
      original = Some (codes "/C=US/O=Acme/");
      original_type = Some (codes "x400");
      diagnostic = Some (codes "mail transport unavailable");
      diagnostic_type = Some (codes "X-Postfix");
    }) ≡
    codes "Original-Recipient: x400; /C=US/O=Acme/"
    ∷ codes "Final-Recipient: X-Fax; +15551234@example.org"
    ∷ codes "Action: failed"
    ∷ codes "Status: 5.1.1"
    ∷ codes "Diagnostic-Code: X-Postfix; mail transport unavailable"
    ∷ []
unfolding per_recipient_fields line_if_any lines_ended_by_lf
typed_recipient = refl

-- a recipient with extension fields, which are last and unchanged
extended_recipient :
    per_recipient_fields (record bob_fails {
      mta = Some (codes "mx.example.org");
      extensions = codes "X-Postfix-Queue-ID: 4F9D195432C\nX-A: b\n";
    }) ≡
    codes "Final-Recipient: rfc822; bob@example.org"
    ∷ codes "Action: failed"
    ∷ codes "Status: 5.1.1"
    ∷ codes "Remote-MTA: dns; mx.example.org"
    ∷ codes "X-Postfix-Queue-ID: 4F9D195432C"
    ∷ codes "X-A: b"
    ∷ []
unfolding per_recipient_fields line_if_any lines_ended_by_lf
extended_recipient = refl

-- a message with extension fields, which end its group unchanged
extended_message :
    per_message_fields host (letter_with (record (to_ann (Some (codes "QQ314159")) []) { extensions = codes "X-Postfix-Queue-ID: 4F9D195432C\nX-Postfix-Sender: rfc822; ann@example.com\n" }) bob_fails) ≡
    codes "Original-Envelope-Id: QQ314159"
    ∷ codes "Reporting-MTA: dns; mx.example.net"
    ∷ codes "Arrival-Date: Tue, 14 Nov 2023 21:13:20 +0000"
    ∷ codes "X-Postfix-Queue-ID: 4F9D195432C"
    ∷ codes "X-Postfix-Sender: rfc822; ann@example.com"
    ∷ []
unfolding per_message_fields line_if_any lines_ended_by_lf
extended_message = rw arrived_at refl

-- the fields of the message are in its own group, before the first recipient's
extended_message_and_recipient :
    delivery_status host (letter_with (record (to_ann None []) { extensions = codes "X-A: b\nX-C: d\n" }) (record bob_fails { extensions = codes "X-E: f\n" })) ≡
    codes "Reporting-MTA: dns; mx.example.net"
    ∷ codes "Arrival-Date: Tue, 14 Nov 2023 21:13:20 +0000"
    ∷ codes "X-A: b"
    ∷ codes "X-C: d"
    ∷ []
    ∷ codes "Final-Recipient: rfc822; bob@example.org"
    ∷ codes "Action: failed"
    ∷ codes "Status: 5.1.1"
    ∷ codes "X-E: f"
    ∷ []
unfolding delivery_status per_message_fields per_recipient_fields line_if_any lines_ended_by_lf
extended_message_and_recipient = rw arrived_at refl

-- one append and one flush: the whole outbox
one_append_one_flush : outbox_of site (letter_with (to_ann None []) bob_fails ∷ []) ≡
    codes "EHLO mx.example.net" ++ crlf
    ++ codes "MAIL FROM:<>" ++ crlf
    ++ codes "RCPT TO:<ann@example.com>" ++ crlf
    ++ codes "DATA" ++ crlf
    ++ codes "From: Mail Delivery System <MAILER-DAEMON@mx.example.net>" ++ crlf
    ++ codes "To: <ann@example.com>" ++ crlf
    ++ codes "Subject: Undelivered Mail Returned to Sender" ++ crlf
    ++ codes "Date: Tue, 14 Nov 2023 22:13:20 +0000" ++ crlf
    ++ codes "Message-ID: <B.A1B2C3.1700000000.0@mx.example.net>" ++ crlf
    ++ codes "Auto-Submitted: auto-replied" ++ crlf
    ++ codes "MIME-Version: 1.0" ++ crlf
    ++ codes "Content-Type: multipart/report; report-type=delivery-status;" ++ crlf
    ++ codes " boundary=\"B.A1B2C3.1700000000.0000\"" ++ crlf
    ++ crlf
    ++ codes "--B.A1B2C3.1700000000.0000" ++ crlf
    ++ codes "Content-Description: Notification" ++ crlf
    ++ codes "Content-Type: text/plain; charset=us-ascii" ++ crlf
    ++ crlf
    ++ codes "This is the mail system at host mx.example.net." ++ crlf
    ++ crlf
    ++ codes "Your message could not be delivered to the recipients below." ++ crlf
    ++ crlf
    ++ codes "<bob@example.org>: failed (5.1.1)" ++ crlf
    ++ crlf
    ++ codes "--B.A1B2C3.1700000000.0000" ++ crlf
    ++ codes "Content-Description: Delivery report" ++ crlf
    ++ codes "Content-Type: message/delivery-status" ++ crlf
    ++ crlf
    ++ codes "Reporting-MTA: dns; mx.example.net" ++ crlf
    ++ codes "Arrival-Date: Tue, 14 Nov 2023 21:13:20 +0000" ++ crlf
    ++ crlf
    ++ codes "Final-Recipient: rfc822; bob@example.org" ++ crlf
    ++ codes "Action: failed" ++ crlf
    ++ codes "Status: 5.1.1" ++ crlf
    ++ crlf
    ++ codes "--B.A1B2C3.1700000000.0000--" ++ crlf
    ++ codes "." ++ crlf
    ++ codes "QUIT" ++ crlf
unfolding outbox_of greeting goodbye mail_transaction transaction_lines notice_lines lines_with_boundary notice_header part_header part_of notification recipient_told guidance explanation outcome_lines returned_part delivery_status per_message_fields per_recipient_fields line_if_any lines_ended_by_lf text_of_lines dot_stuffed boundary_text boundary_number is_ruled_out first_failing returns_eight_bit returned_lines returns_message header_lines digits preface_of template_of
one_append_one_flush = rw (flushed_at, arrived_at) refl

abbrev bob_fails_with_all : Outcome
bob_fails_with_all = record bob_fails {
  original = Some (codes "bob.alias@example.org");
  mta = Some (codes "mail.example.org");
  diagnostic = Some (codes "550 5.1.1 no such user");
  reason = Some (codes "host said:?no such user");
}

abbrev two_line_header : List ℕ
two_line_header = codes "Subject: hi" ++ lf ++ codes "X: y" ++ crlf ++ crlf ++ codes "body"

-- all optional fields: the whole notice
all_optional_fields : notice_of site (letter_with (to_ann (Some (codes "QQ314159")) two_line_header) bob_fails_with_all) ≡
    codes "From: Mail Delivery System <MAILER-DAEMON@mx.example.net>" ++ crlf
    ++ codes "To: <ann@example.com>" ++ crlf
    ++ codes "Subject: Undelivered Mail Returned to Sender" ++ crlf
    ++ codes "Date: Tue, 14 Nov 2023 22:13:20 +0000" ++ crlf
    ++ codes "Message-ID: <B.A1B2C3.1700000000.0@mx.example.net>" ++ crlf
    ++ codes "Auto-Submitted: auto-replied" ++ crlf
    ++ codes "MIME-Version: 1.0" ++ crlf
    ++ codes "Content-Type: multipart/report; report-type=delivery-status;" ++ crlf
    ++ codes " boundary=\"B.A1B2C3.1700000000.0000\"" ++ crlf
    ++ crlf
    ++ codes "--B.A1B2C3.1700000000.0000" ++ crlf
    ++ codes "Content-Description: Notification" ++ crlf
    ++ codes "Content-Type: text/plain; charset=us-ascii" ++ crlf
    ++ crlf
    ++ codes "This is the mail system at host mx.example.net." ++ crlf
    ++ crlf
    ++ codes "Your message could not be delivered to the recipients below." ++ crlf
    ++ crlf
    ++ codes "<bob@example.org>: failed (5.1.1)" ++ crlf
    ++ codes "    host said:?no such user" ++ crlf
    ++ crlf
    ++ codes "--B.A1B2C3.1700000000.0000" ++ crlf
    ++ codes "Content-Description: Delivery report" ++ crlf
    ++ codes "Content-Type: message/delivery-status" ++ crlf
    ++ crlf
    ++ codes "Original-Envelope-Id: QQ314159" ++ crlf
    ++ codes "Reporting-MTA: dns; mx.example.net" ++ crlf
    ++ codes "Arrival-Date: Tue, 14 Nov 2023 21:13:20 +0000" ++ crlf
    ++ crlf
    ++ codes "Original-Recipient: rfc822; bob.alias@example.org" ++ crlf
    ++ codes "Final-Recipient: rfc822; bob@example.org" ++ crlf
    ++ codes "Action: failed" ++ crlf
    ++ codes "Status: 5.1.1" ++ crlf
    ++ codes "Remote-MTA: dns; mail.example.org" ++ crlf
    ++ codes "Diagnostic-Code: smtp; 550 5.1.1 no such user" ++ crlf
    ++ crlf
    ++ codes "--B.A1B2C3.1700000000.0000" ++ crlf
    ++ codes "Content-Description: Undelivered Message Headers" ++ crlf
    ++ codes "Content-Type: text/rfc822-headers" ++ crlf
    ++ crlf
    ++ codes "Subject: hi" ++ crlf
    ++ codes "X: y" ++ crlf
    ++ crlf
    ++ codes "--B.A1B2C3.1700000000.0000--" ++ crlf
unfolding notice_of notice_lines lines_with_boundary notice_header part_header part_of notification recipient_told guidance explanation outcome_lines returned_part delivery_status per_message_fields per_recipient_fields line_if_any lines_ended_by_lf text_of_lines boundary_text boundary_number is_ruled_out first_failing returns_eight_bit returned_lines returns_message header_lines digits preface_of template_of
all_optional_fields = rw (flushed_at, arrived_at) refl

-- a returned line begins with the delimiter of number 0: the boundary has number 1, and the body isn't returned
abbrev colliding_header : List ℕ
colliding_header = codes "--B.A1B2C3.1700000000.0000x" ++ lf ++ codes "Subject: hi" ++ crlf ++ crlf ++ codes "body"

boundary_collision : boundary_number (letter_with (to_ann None colliding_header) bob_fails) ≡ 1
unfolding boundary_number first_failing is_ruled_out returned_lines returns_message header_lines boundary_text digits
boundary_collision = refl

boundary_collision_text : boundary_text (letter_with (to_ann None colliding_header) bob_fails) 1 ≡ codes "B.A1B2C3.1700000000.0001"
unfolding boundary_text digits
boundary_collision_text = refl

boundary_collision_returned : returned_lines (to_ann None colliding_header) ≡ codes "--B.A1B2C3.1700000000.0000x" ∷ codes "Subject: hi" ∷ []
unfolding returned_lines returns_message header_lines
boundary_collision_returned = refl

-- a dot, a long line, and bytes that a notice doesn't show; a CR without a following LF is such a byte
dots_long_lines_eight_bit :
    map dot_stuffed (returned_lines (to_ann None (codes ".x" ++ lf ++ replicate 1200 97 ++ lf ++ 98 ∷ 233 ∷ 13 ∷ 99 ∷ 10 ∷ []))) ≡
    codes "..x" ∷ replicate 998 97 ∷ codes "b??c" ∷ []
unfolding returned_lines returns_message header_lines dot_stuffed
dots_long_lines_eight_bit = refl

-- a header that begins with an empty line returns nothing, so there is no third part
empty_first_line : returned_lines (to_ann None (crlf ++ codes "Subject: hi" ++ crlf)) ≡ []
unfolding returned_lines returns_message header_lines
empty_first_line = refl

-- an empty outbox
empty_outbox : outbox_of site [] ≡ codes "EHLO mx.example.net" ++ crlf ++ codes "QUIT" ++ crlf
unfolding outbox_of greeting goodbye text_of_lines
empty_outbox = refl

-- ---- messages

abbrev message_of_ann : List ℕ → Draft
message_of_ann message = record (to_ann None message) { returned = Message }

-- a message in ISO-2022-JP, with a dot, an empty line and a tab: each line is unchanged, and a CR before an LF is
-- removed with it
abbrev japanese : List ℕ
japanese = 27 ∷ 36 ∷ 66 ∷ 70 ∷ 124 ∷ 75 ∷ 92 ∷ 27 ∷ 40 ∷ 66 ∷ []

message_as_it_is :
    returned_lines (message_of_ann (codes "Subject: " ++ japanese ++ crlf ++ crlf ++ codes ".x" ++ lf ++ 9 ∷ japanese ++ lf ++ lf)) ≡
    (codes "Subject: " ++ japanese) ∷ [] ∷ codes ".x" ∷ (9 ∷ japanese) ∷ [] ∷ []
unfolding returned_lines returns_message stands_whole
message_as_it_is = refl

-- if a line is too long, or has a byte above 127, a NUL or a CR of its own, the header is returned
long_line_by_header : returned_lines (message_of_ann (codes "Subject: hi" ++ lf ++ lf ++ replicate 999 97)) ≡ codes "Subject: hi" ∷ []
unfolding returned_lines returns_message stands_whole header_lines
long_line_by_header = refl

longest_line_whole : returned_lines (message_of_ann (replicate 998 97)) ≡ replicate 998 97 ∷ []
unfolding returned_lines returns_message stands_whole
longest_line_whole = refl

eight_bit_by_header : returned_lines (message_of_ann (codes "Subject: hi" ++ lf ++ lf ++ 233 ∷ lf)) ≡ codes "Subject: hi" ∷ []
unfolding returned_lines returns_message stands_whole header_lines
eight_bit_by_header = refl

nul_by_header : returned_lines (message_of_ann (codes "Subject: hi" ++ lf ++ lf ++ 0 ∷ lf)) ≡ codes "Subject: hi" ∷ []
unfolding returned_lines returns_message stands_whole header_lines
nul_by_header = refl

carriage_return_by_header : returned_lines (message_of_ann (codes "Subject: hi" ++ lf ++ lf ++ codes "a" ++ 13 ∷ codes "b" ++ lf)) ≡ codes "Subject: hi" ∷ []
unfolding returned_lines returns_message stands_whole header_lines
carriage_return_by_header = refl

-- a message may begin with an empty line
empty_first_line_of_message : returned_lines (message_of_ann (crlf ++ codes "hi")) ≡ [] ∷ codes "hi" ∷ []
unfolding returned_lines returns_message stands_whole
empty_first_line_of_message = refl

-- a line of a message's body also rules out a number
abbrev colliding_message : List ℕ
colliding_message = codes "Subject: hi" ++ lf ++ lf ++ codes "--B.A1B2C3.1700000000.0000--" ++ lf

boundary_collision_in_body : boundary_number (letter_with (message_of_ann colliding_message) bob_fails) ≡ 1
unfolding boundary_number first_failing is_ruled_out returned_lines returns_message stands_whole boundary_text digits
boundary_collision_in_body = refl

body_of_header_rules_nothing_out : boundary_number (letter_with (to_ann None colliding_message) bob_fails) ≡ 0
unfolding boundary_number first_failing is_ruled_out returned_lines returns_message header_lines boundary_text digits
body_of_header_rules_nothing_out = refl

-- the part of the notice with this message
message_part : returned_part (codes "B") (words_by ByService Bounce true).message (codes "message/rfc822") (returns_eight_bit (message_of_ann colliding_message)) (returned_lines (message_of_ann colliding_message)) ≡
    codes "--B"
    ∷ codes "Content-Description: Undelivered Message"
    ∷ codes "Content-Type: message/rfc822"
    ∷ []
    ∷ codes "Subject: hi"
    ∷ []
    ∷ codes "--B.A1B2C3.1700000000.0000--"
    ∷ []
    ∷ []
unfolding returned_part part_of part_header returns_eight_bit returned_lines returns_message stands_whole
message_part = refl

-- ---- messages in 8bit mails

abbrev eight_bit_message_of_ann : List ℕ → Draft
eight_bit_message_of_ann message = record (to_ann None message) { returned = EightBitMessage }

-- a message in ISO 8859-1, with a byte of 255 and an escape
abbrev french : List ℕ
french = codes "Subject: hi" ++ crlf ++ crlf ++ 233 ∷ 27 ∷ 255 ∷ lf

french_whole : returned_lines (eight_bit_message_of_ann french) ≡ codes "Subject: hi" ∷ [] ∷ (233 ∷ 27 ∷ 255 ∷ []) ∷ []
unfolding returned_lines returns_message stands_whole
french_whole = refl

-- its notice is an 8bit mail, which its header, the part and the command MAIL say
french_header : notice_header site (letter_with (eight_bit_message_of_ann french) bob_fails) (codes "B") ≡
    codes "From: Mail Delivery System <MAILER-DAEMON@mx.example.net>"
    ∷ codes "To: <ann@example.com>"
    ∷ codes "Subject: Undelivered Mail Returned to Sender"
    ∷ codes "Date: Tue, 14 Nov 2023 22:13:20 +0000"
    ∷ codes "Message-ID: <B.A1B2C3.1700000000.0@mx.example.net>"
    ∷ codes "Auto-Submitted: auto-replied"
    ∷ codes "MIME-Version: 1.0"
    ∷ codes "Content-Type: multipart/report; report-type=delivery-status;"
    ∷ codes " boundary=\"B\""
    ∷ codes "Content-Transfer-Encoding: 8bit"
    ∷ []
unfolding notice_header returns_eight_bit returned_lines returns_message stands_whole digits preface_of template_of
french_header = rw flushed_at refl

french_part : returned_part (codes "B") (words_by ByService Bounce true).message (codes "message/rfc822") (returns_eight_bit (eight_bit_message_of_ann french)) (returned_lines (eight_bit_message_of_ann french)) ≡
    codes "--B"
    ∷ codes "Content-Description: Undelivered Message"
    ∷ codes "Content-Type: message/rfc822"
    ∷ codes "Content-Transfer-Encoding: 8bit"
    ∷ []
    ∷ codes "Subject: hi"
    ∷ []
    ∷ (233 ∷ 27 ∷ 255 ∷ [])
    ∷ []
    ∷ []
unfolding returned_part part_of part_header returns_eight_bit returned_lines returns_message stands_whole
french_part = refl

french_mail : take 2 (transaction_lines site (letter_with (eight_bit_message_of_ann french) bob_fails)) ≡ codes "MAIL FROM:<> BODY=8BITMIME" ∷ codes "RCPT TO:<ann@example.com>" ∷ []
unfolding transaction_lines returns_eight_bit returned_lines returns_message stands_whole preface_of template_of
french_mail = refl

-- a message that is 7bit is returned in a 7bit mail
seven_bit_whole : returned_lines (eight_bit_message_of_ann colliding_message) ≡ returned_lines (message_of_ann colliding_message)
unfolding returned_lines returns_message stands_whole
seven_bit_whole = refl

seven_bit_mail : take 1 (transaction_lines site (letter_with (eight_bit_message_of_ann colliding_message) bob_fails)) ≡ codes "MAIL FROM:<>" ∷ []
unfolding transaction_lines returns_eight_bit returned_lines returns_message stands_whole preface_of template_of
seven_bit_mail = refl

-- if a line is too long, or has a NUL or a CR of its own, the header is returned, and cleaned
long_eight_bit_line : returned_lines (eight_bit_message_of_ann (codes "Subject: " ++ 233 ∷ lf ++ lf ++ replicate 999 233)) ≡ codes "Subject: ?" ∷ []
unfolding returned_lines returns_message stands_whole header_lines
long_eight_bit_line = refl

longest_eight_bit_line : returned_lines (eight_bit_message_of_ann (replicate 998 233)) ≡ replicate 998 233 ∷ []
unfolding returned_lines returns_message stands_whole
longest_eight_bit_line = refl

nul_in_eight_bits : returned_lines (eight_bit_message_of_ann (codes "Subject: " ++ 233 ∷ lf ++ lf ++ 0 ∷ lf)) ≡ codes "Subject: ?" ∷ []
unfolding returned_lines returns_message stands_whole header_lines
nul_in_eight_bits = refl

carriage_return_in_eight_bits : returned_lines (eight_bit_message_of_ann (codes "Subject: " ++ 233 ∷ lf ++ lf ++ codes "a" ++ 13 ∷ codes "b" ++ lf)) ≡ codes "Subject: ?" ∷ []
unfolding returned_lines returns_message stands_whole header_lines
carriage_return_in_eight_bits = refl

-- the notice of a header is a 7bit mail
nul_mail : take 1 (transaction_lines site (letter_with (eight_bit_message_of_ann (codes "Subject: " ++ 233 ∷ lf ++ lf ++ 0 ∷ lf)) bob_fails)) ≡ codes "MAIL FROM:<>" ∷ []
unfolding transaction_lines returns_eight_bit returned_lines returns_message stands_whole header_lines preface_of template_of
nul_mail = refl

-- ---- words

delayed_header_by_outcome : (words_by ByOutcome Defer false).header ≡ codes "Delayed Message Headers"
delayed_header_by_outcome = refl

delayed_header_by_service : (words_by ByService Defer false).header ≡ codes "Undelivered Message Headers"
delayed_header_by_service = refl

success_by_outcome : (words_by ByOutcome Trace true).subject ≡ codes "Successful Mail Delivery Report"
success_by_outcome = refl

success_by_service : (words_by ByService Trace true).subject ≡ codes "Mail Delivery Status Report"
success_by_service = refl

-- the original recipient is named if it isn't the final one and the wording is by outcome
origin_by_outcome : outcome_lines ByOutcome ByOutcome (record bob_fails { original = Some (codes "list@example.org") }) ≡
    codes "<bob@example.org> (expanded from <list@example.org>): failed (5.1.1)"
    ∷ codes "    The address does not exist. Check how it is spelled."
    ∷ []
unfolding outcome_lines explanation recipient_told line_if_any reply_lines status_words
origin_by_outcome = refl

same_origin_by_outcome : outcome_lines ByOutcome ByOutcome (record bob_fails { original = Some (codes "bob@example.org") }) ≡
    codes "<bob@example.org>: failed (5.1.1)"
    ∷ codes "    The address does not exist. Check how it is spelled."
    ∷ []
unfolding outcome_lines explanation recipient_told line_if_any reply_lines status_words
same_origin_by_outcome = refl

origin_by_service : outcome_lines ByService ByService (record bob_fails { original = Some (codes "list@example.org") }) ≡ codes "<bob@example.org>: failed (5.1.1)" ∷ []
unfolding outcome_lines explanation recipient_told line_if_any
origin_by_service = refl
