-- Worked examples of templates, and of notices with them, computed by the definitions.
use Rattle.std.proofs.Common.{◌≡◌, ℕ, false, List, [], ◌∷◌, ◌++◌, refl, take}
use Rattle.std.specs.Fmt.{digits}
use Rattle.std.specs.Prelude.{codes, Some, None, replicate}
use Rattle.dsn_outcome.specs.Letter.{Letter}
use Rattle.dsn_outcome.specs.Outcome.{Outcome}
use Rattle.dsn_outcome.specs.declared.wording.Wording.TheVariants.{ByOutcome}
use Rattle.dsn_text.specs.Extension.{lines_ended_by_lf}
use Rattle.dsn_text.specs.declared.action.Action.TheVariants.{Failed, Delayed, Delivered}
use Rattle.dsn_text.specs.declared.service.Service.{Service}
use Rattle.dsn_text.specs.declared.service.Service.TheVariants.{Bounce, Defer, Trace}
use Rattle.dsn_text.specs.declared.action.Action.{Action}
use Rattle.dsn_report.specs.Boundary.{boundary_number, boundary_text, first_failing, header_lines, is_ruled_out, returned_lines, returns_eight_bit, returns_message}
use Rattle.dsn_report.specs.DeliveryStatus.{delivery_status, line_if_any, per_message_fields, per_recipient_fields}
use Rattle.dsn_report.specs.Lines.{text_of_lines}
use Rattle.dsn_report.specs.Notice.{explanation, lines_with_boundary, notice_header, notice_lines, notice_of, notification, outcome_lines, part_header, part_of, preface_of, recipient_told, returned_part, template_of}
use Rattle.dsn_report.specs.Outbox.{transaction_lines}
use Rattle.dsn_report.specs.Site.{Site, no_templates}
use Rattle.dsn_report.specs.Template.{Template, IsFileOf, first_template_fault, is_like_delimiter}
use Rattle.dsn_report.specs.declared.template_fault.TemplateFault.TheVariants as faults
use Rattle.dsn_report.proofs.Examples.{arrived_at, bob_fails, crlf, flushed_at, to_ann}

-- ---- files of templates

-- a template in German: the text has an ü in UTF-8, an empty line, and a line that begins with a dot
abbrev german : Template
german = record {
  charset = codes "utf-8";
  sender = codes "Postmeister <postmaster@example.net>";
  subject = codes "Unzustellbare Nachricht";
  text = codes "Ihre Nachricht kam zur" ++ 195 ∷ 188 ∷ codes "ck.\n\n.Hilfe\n";
}

german_read :
    IsFileOf
    (codes "Charset: utf-8\nFrom: Postmeister <postmaster@example.net>\nSubject: Unzustellbare Nachricht\n\nIhre Nachricht kam zur" ++ 195 ∷ 188 ∷ codes "ck.\n\n.Hilfe\n")
    german
german_read = record { written = refl; charset_line = refl; sender_line = refl; subject_line = refl }

german_legal : first_template_fault german ≡ None
german_legal = refl

-- text in UTF-8 is not US-ASCII, in capitals neither
german_as_ascii : first_template_fault (record german { charset = codes "US-ASCII" }) ≡ Some faults.NotAscii
german_as_ascii = refl

-- a charset has no space, and no field is empty or has a tab
two_charsets : first_template_fault (record german { charset = codes "utf-8 latin1" }) ≡ Some faults.Charset
two_charsets = refl

no_sender : first_template_fault (record german { sender = [] }) ≡ Some faults.From
no_sender = refl

tab_in_subject : first_template_fault (record german { subject = 9 ∷ [] }) ≡ Some faults.Subject
tab_in_subject = refl

longest_subject : first_template_fault (record german { subject = replicate 989 97 }) ≡ None
longest_subject = refl

long_subject : first_template_fault (record german { subject = replicate 990 97 }) ≡ Some faults.Subject
long_subject = refl

-- of several faults the first counts
two_faults : first_template_fault (record german { subject = []; text = [] }) ≡ Some faults.Subject
two_faults = refl

no_text : first_template_fault (record german { text = [] }) ≡ Some faults.NoText
no_text = refl

-- a line ends with LF, or with CR and LF; another CR, a NUL or a byte too many is a fault
dos_lines : first_template_fault (record german { text = codes "a\r\nb\r\n" }) ≡ None
dos_lines = refl

carriage_return : first_template_fault (record german { text = codes "a\rb\n" }) ≡ Some faults.Line
carriage_return = refl

nul : first_template_fault (record german { text = 0 ∷ [] }) ≡ Some faults.Line
nul = refl

long_line : first_template_fault (record german { text = replicate 999 97 }) ≡ Some faults.Line
long_line = refl

-- a line of two dashes and a space, before a signature, is legal; one that begins as a boundary does isn't
signature : first_template_fault (record german { text = codes "-- \nPostmaster\n" }) ≡ None
signature = refl

boundary_line : first_template_fault (record german { text = codes "a\n--D.b\n" }) ≡ Some faults.Delimiter
boundary_line = refl

other_service : is_like_delimiter (codes "--A.b") ≡ false
other_service = refl

-- ---- notices

abbrev english : Template
english = record {
  charset = codes "us-ascii";
  sender = codes "MAILER-DAEMON (Mail Delivery System)";
  subject = codes "Delayed Mail";
  text = codes "THIS IS A WARNING ONLY.\nIt will be retried until it is 5 day(s) old.\n";
}

-- a site with a template of failures and one of delays
abbrev site : Site
site = record {
  host = codes "mx.example.net";
  templates = record no_templates { failure = Some german; delay = Some english };
}

abbrev outcome_of : Service → Action → List ℕ → Outcome
outcome_of service action status = record bob_fails {
  service = service;
  original = Some (codes "list@example.net");
  action = action;
  status = status;
  diagnostic = Some (codes "550 no such user");
  reason = Some (codes "host mx.example.org said: 550 no such user");
}

abbrev letter_of : Service → Action → List ℕ → Letter
letter_of service action status = record {
  key = record { service = service; id = codes "A1B2C3" };
  draft = record (to_ann None (codes "Subject: hi\n")) { wording = ByOutcome };
  outcomes = outcome_of service action status ∷ [];
  serial = 0;
}

-- a failure with the German template: the whole notice is an 8bit mail, and so is its first part; the recipient is
-- named with its origin and the mail system's own reason, without a sentence in English
german_notice : notice_of site (letter_of Bounce Failed (codes "5.1.1")) ≡
    codes "From: Postmeister <postmaster@example.net>" ++ crlf
    ++ codes "To: <ann@example.com>" ++ crlf
    ++ codes "Subject: Unzustellbare Nachricht" ++ crlf
    ++ codes "Date: Tue, 14 Nov 2023 22:13:20 +0000" ++ crlf
    ++ codes "Message-ID: <B.A1B2C3.1700000000.0@mx.example.net>" ++ crlf
    ++ codes "Auto-Submitted: auto-replied" ++ crlf
    ++ codes "MIME-Version: 1.0" ++ crlf
    ++ codes "Content-Type: multipart/report; report-type=delivery-status;" ++ crlf
    ++ codes " boundary=\"B.A1B2C3.1700000000.0000\"" ++ crlf
    ++ codes "Content-Transfer-Encoding: 8bit" ++ crlf
    ++ crlf
    ++ codes "--B.A1B2C3.1700000000.0000" ++ crlf
    ++ codes "Content-Description: Notification" ++ crlf
    ++ codes "Content-Type: text/plain; charset=utf-8" ++ crlf
    ++ codes "Content-Transfer-Encoding: 8bit" ++ crlf
    ++ crlf
    ++ codes "Ihre Nachricht kam zur" ++ 195 ∷ 188 ∷ codes "ck." ++ crlf
    ++ crlf
    ++ codes ".Hilfe" ++ crlf
    ++ crlf
    ++ codes "<bob@example.org> (expanded from <list@example.net>): failed (5.1.1)" ++ crlf
    ++ codes "    host mx.example.org said: 550 no such user" ++ crlf
    ++ crlf
    ++ codes "--B.A1B2C3.1700000000.0000" ++ crlf
    ++ codes "Content-Description: Delivery report" ++ crlf
    ++ codes "Content-Type: message/delivery-status" ++ crlf
    ++ crlf
    ++ codes "Reporting-MTA: dns; mx.example.net" ++ crlf
    ++ codes "Arrival-Date: Tue, 14 Nov 2023 21:13:20 +0000" ++ crlf
    ++ crlf
    ++ codes "Original-Recipient: rfc822; list@example.net" ++ crlf
    ++ codes "Final-Recipient: rfc822; bob@example.org" ++ crlf
    ++ codes "Action: failed" ++ crlf
    ++ codes "Status: 5.1.1" ++ crlf
    ++ codes "Diagnostic-Code: smtp; 550 no such user" ++ crlf
    ++ crlf
    ++ codes "--B.A1B2C3.1700000000.0000" ++ crlf
    ++ codes "Content-Description: Undelivered Message Headers" ++ crlf
    ++ codes "Content-Type: text/rfc822-headers" ++ crlf
    ++ crlf
    ++ codes "Subject: hi" ++ crlf
    ++ crlf
    ++ codes "--B.A1B2C3.1700000000.0000--" ++ crlf
unfolding notice_of notice_lines lines_with_boundary notice_header part_header part_of notification preface_of template_of recipient_told explanation outcome_lines returned_part delivery_status per_message_fields per_recipient_fields line_if_any lines_ended_by_lf text_of_lines boundary_text boundary_number is_ruled_out first_failing returns_eight_bit returned_lines returns_message header_lines digits
german_notice = rw (flushed_at, arrived_at) refl

german_mail : take 1 (transaction_lines site (letter_of Bounce Failed (codes "5.1.1"))) ≡ codes "MAIL FROM:<> BODY=8BITMIME" ∷ []
unfolding transaction_lines preface_of template_of
german_mail = refl

-- a delay with a template in US-ASCII: no line says 8bit
english_header : notice_header site (letter_of Defer Delayed (codes "4.2.2")) (codes "B") ≡
    codes "From: MAILER-DAEMON (Mail Delivery System)"
    ∷ codes "To: <ann@example.com>"
    ∷ codes "Subject: Delayed Mail"
    ∷ codes "Date: Tue, 14 Nov 2023 22:13:20 +0000"
    ∷ codes "Message-ID: <D.A1B2C3.1700000000.0@mx.example.net>"
    ∷ codes "Auto-Submitted: auto-replied"
    ∷ codes "MIME-Version: 1.0"
    ∷ codes "Content-Type: multipart/report; report-type=delivery-status;"
    ∷ codes " boundary=\"B\""
    ∷ []
unfolding notice_header preface_of template_of returns_eight_bit returned_lines returns_message header_lines digits
english_header = rw flushed_at refl

english_text : notification site (letter_of Defer Delayed (codes "4.2.2")) ≡
    codes "THIS IS A WARNING ONLY."
    ∷ codes "It will be retried until it is 5 day(s) old."
    ∷ []
    ∷ codes "<bob@example.org> (expanded from <list@example.net>): delayed (4.2.2)"
    ∷ codes "    host mx.example.org said: 550 no such user"
    ∷ []
unfolding notification preface_of template_of outcome_lines recipient_told explanation line_if_any
english_text = refl

-- which template a letter has: of a report it depends on the outcomes
abbrev all_four : Site
all_four = record site {
  templates = record {
    failure = Some german;
    delay = Some english;
    success = Some (record english { subject = codes "Success" });
    verify = Some (record english { subject = codes "Report" });
  };
}

success_subject : (preface_of all_four (letter_of Trace Delivered (codes "2.0.0"))).subject ≡ codes "Success"
unfolding preface_of template_of
success_subject = refl

report_subject : (preface_of all_four (letter_of Trace Failed (codes "5.1.1"))).subject ≡ codes "Report"
unfolding preface_of template_of
report_subject = refl

-- a site without a template of reports has this project's own words
own_subject : (preface_of site (letter_of Trace Delivered (codes "2.0.0"))).subject ≡ codes "Successful Mail Delivery Report"
unfolding preface_of template_of
own_subject = refl
