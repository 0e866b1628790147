-- Worked examples of the record of an append, each computed. The request is `append-bounce.bin`, which smtp(8) of
-- Postfix 3.7.11 sent, except its original recipient, which an alias had here. The bytes are those that bounce(8) of
-- that version writes for it.
use Rattle.std.proofs.Common.{◌≡◌, ℕ, true, false, List, [], ◌∷◌, ◌++◌, Ok, Some, None, codes, refl}
use Rattle.std.specs.Fmt.{digits}
use Rattle.dsn_text.specs.declared.service.Service.TheVariants.{Bounce, Defer, Trace}
use Rattle.dsn_postfix.specs.Attribute.{attribute_bytes, number_in}
use Rattle.dsn_postfix_files.specs.LogRecord.{logged_bytes, said_of_recipient, said_of_delivery, unsayable_field}
use Rattle.dsn_postfix.specs.LoggedAppend.{logged_as, logged_of, unlogged_field, unlogged_of}
use Rattle.dsn_postfix.specs.PostfixRequest.{postfix_request_bytes}
use Rattle.dsn_postfix.specs.QuotedAddress.{local_part, needs_no_quotes}
use Rattle.dsn_postfix.specs.RequestReading.{append_only_at, append_request_at, own_request_at, postfix_request_at, recipient_at, report_at, tested_at, attribute_at, value_number_at}
use Rattle.dsn_postfix_files.specs.declared.log_field.LogField.TheVariants.{OriginalRecipient, Reason, Recipient}
use Rattle.dsn_postfix.specs.declared.postfix_request.AppendRequest.{AppendRequest}
use Rattle.dsn_postfix.specs.declared.postfix_request.DeliveryReport.{DeliveryReport}
use Rattle.dsn_postfix.specs.declared.postfix_request.PostfixRequest.TheVariants.{Append}
use Rattle.dsn_postfix.specs.declared.postfix_request.ReportedRecipient.{ReportedRecipient}

abbrev request_bytes : List ℕ
request_bytes =
    codes "nrequest" ++ (0 ∷ codes "0") ++ (0 ∷ codes "flags") ++ (0 ∷ codes "0") ++ (0 ∷ codes "queue_id")
    ++ (0 ∷ codes "6BB87A7E6A1") ++ (0 ∷ codes "original_recipient") ++ (0 ∷ codes "bob@example.org")
    ++ (0 ∷ codes "recipient") ++ (0 ∷ codes "no.bob@example.org") ++ (0 ∷ codes "offset") ++ (0 ∷ codes "727")
    ++ (0 ∷ codes "dsn_orig_rcpt") ++ (0 ∷ codes "rfc822;bob@example.org") ++ (0 ∷ codes "notify_flags")
    ++ (0 ∷ codes "12") ++ (0 ∷ codes "status") ++ (0 ∷ codes "5.1.1") ++ (0 ∷ codes "diag_type")
    ++ (0 ∷ codes "smtp") ++ (0 ∷ codes "diag_text") ++ (0 ∷ codes "550 5.1.1 <no.bob>: no such user here")
    ++ (0 ∷ codes "mta_type") ++ (0 ∷ codes "dns") ++ (0 ∷ codes "mta_mname") ++ (0 ∷ codes "127.0.0.1")
    ++ (0 ∷ codes "action") ++ (0 ∷ codes "failed") ++ (0 ∷ codes "reason")
    ++ (0 ∷ codes "host 127.0.0.1[127.0.0.1] said: 550 5.1.1 <no.bob>: no such user here (in reply to RCPT TO command)")
    ++ (0 ∷ []) ++ (0 ∷ [])

abbrev file_bytes : List ℕ
file_bytes = codes "\n<no.bob@example.org>: host 127.0.0.1[127.0.0.1] said: 550 5.1.1 <no.bob>: no such user here (in reply to RCPT TO command)\nrecipient=no.bob@example.org\noriginal_recipient=bob@example.org\noffset=727\ndsn_orig_rcpt=rfc822;bob@example.org\nnotify_flags=12\nstatus=5.1.1\naction=failed\ndiag_type=smtp\ndiag_text=550 5.1.1 <no.bob>: no such user here\nmta_type=dns\nmta_mname=127.0.0.1\nreason=host 127.0.0.1[127.0.0.1] said: 550 5.1.1 <no.bob>: no such user here (in reply to RCPT TO command)\n\n"

abbrev said_recipient : ReportedRecipient
said_recipient = record {
  original = codes "bob@example.org";
  address = codes "no.bob@example.org";
  offset = 727;
  dsn_original = codes "rfc822;bob@example.org";
  notify = 12;
}

abbrev said_report : DeliveryReport
said_report = record {
  status = codes "5.1.1";
  diagnostic_type = codes "smtp";
  diagnostic = codes "550 5.1.1 <no.bob>: no such user here";
  mta_type = codes "dns";
  mta = codes "127.0.0.1";
  action = codes "failed";
  reason = codes "host 127.0.0.1[127.0.0.1] said: 550 5.1.1 <no.bob>: no such user here (in reply to RCPT TO command)";
}

abbrev append_of : ReportedRecipient → DeliveryReport → AppendRequest
append_of recipient report = record { flags = 0; queue_id = codes "6BB87A7E6A1"; recipient = recipient; report = report }

-- the original recipient differs from the recipient, in a request as in a log
differing_is_read : postfix_request_at request_bytes ≡ Ok (Append (append_of said_recipient said_report))
unfolding digits number_in postfix_request_at own_request_at append_only_at append_request_at recipient_at report_at tested_at attribute_at value_number_at
differing_is_read = refl

differing_is_written : postfix_request_bytes (Append (append_of said_recipient said_report)) ≡ request_bytes
unfolding digits postfix_request_bytes attribute_bytes
differing_is_written = refl

differing_is_logged : logged_bytes (logged_as Bounce (append_of said_recipient said_report)) ≡ file_bytes
unfolding digits logged_of logged_bytes said_of_recipient said_of_delivery
differing_is_logged = refl

differing_is_sayable : unlogged_field Bounce (append_of said_recipient said_report) ≡ None
unfolding logged_of needs_no_quotes unlogged_of unsayable_field
differing_is_sayable = refl

-- What bounce(8) leaves out: an original recipient that equals the recipient without regard to case, an offset of -1,
-- and flags that are no sum of the known ones. Also a type without a text, and a name without a type. Spaces around a
-- text don't count, nor does a text of spaces alone.
abbrev scant_recipient : ReportedRecipient
scant_recipient = record {
  original = codes "Carl@Example.org";
  address = codes "carl@example.org";
  offset = 18446744073709551615;
  dsn_original = codes "";
  notify = 3;
}

abbrev scant_report : DeliveryReport
scant_report = record {
  status = codes " 4.4.1 ";
  diagnostic_type = codes "smtp";
  diagnostic = codes "";
  mta_type = codes "";
  mta = codes "127.0.0.1";
  action = codes "";
  reason = codes "  ";
}

scant_is_logged : logged_as Defer (append_of scant_recipient scant_report) ≡ record {
  recipient = codes "carl@example.org";
  original_recipient = [];
  offset = 0;
  dsn_original = [];
  notify_flags = 0;
  status = codes "4.4.1";
  action = codes "delayed";
  diagnostic_type = [];
  diagnostic_text = [];
  mta_type = [];
  mta_name = [];
  reason = codes "(description unavailable)";
}
unfolding logged_of
scant_is_logged = refl

-- the null recipient
abbrev null_recipient : ReportedRecipient
null_recipient = record { original = []; address = []; offset = 9; dsn_original = []; notify = 0 }

null_is_logged : (logged_as Trace (append_of null_recipient said_report)).recipient ≡ codes "<>"
unfolding logged_of
null_is_logged = refl

null_is_sayable : unlogged_field Trace (append_of null_recipient said_report) ≡ None
unfolding logged_of needs_no_quotes unlogged_of unsayable_field
null_is_sayable = refl

-- the first field that no line can express
abbrev to : List ℕ → List ℕ → ReportedRecipient
to original address = record { original = original; address = address; offset = 9; dsn_original = []; notify = 0 }

quoted_recipient : unlogged_field Bounce (append_of (to (codes "a b@example.org") (codes "b c@example.org")) said_report) ≡ Some Recipient
unfolding logged_of needs_no_quotes unlogged_of unsayable_field
quoted_recipient = refl

quoted_original : unlogged_field Bounce (append_of (to (codes "a b@example.org") (codes "b@example.org")) said_report) ≡ Some OriginalRecipient
unfolding logged_of needs_no_quotes unlogged_of unsayable_field
quoted_original = refl

-- the recipient's fault is reported first, whatever it is
line_feed_in_recipient : unlogged_field Bounce (append_of (to (codes "a b@example.org") (codes "b@example\n.org")) said_report) ≡ Some Recipient
unfolding logged_of needs_no_quotes unlogged_of unsayable_field
line_feed_in_recipient = refl

abbrev two_lines : DeliveryReport
two_lines = record { status = codes "5.1.1"; diagnostic_type = []; diagnostic = []; mta_type = []; mta = []; action = codes "failed"; reason = codes "no\nroom" }

line_feed_in_reason : unlogged_field Bounce (append_of said_recipient two_lines) ≡ Some Reason
unfolding logged_of needs_no_quotes unlogged_of unsayable_field
line_feed_in_reason = refl

-- ---- which addresses need no quotes: the local part ends at the last `@`, and is atoms with dots between them

plain : needs_no_quotes (codes "a.b+c@example.org") ≡ true
unfolding needs_no_quotes
plain = refl

without_domain : needs_no_quotes (codes "postmaster") ≡ true
unfolding needs_no_quotes
without_domain = refl

high_bytes : needs_no_quotes (codes "no." ++ (195 ∷ 188 ∷ codes "rs@example.org")) ≡ true
unfolding needs_no_quotes
high_bytes = refl

two_at : local_part (codes "a@b@example.org") ≡ codes "a@b"
two_at = refl

at_within : needs_no_quotes (codes "a@b@example.org") ≡ false
unfolding needs_no_quotes
at_within = refl

dot_first : needs_no_quotes (codes ".a@example.org") ≡ false
unfolding needs_no_quotes
dot_first = refl

dot_last : needs_no_quotes (codes "a.@example.org") ≡ false
unfolding needs_no_quotes
dot_last = refl

two_dots : needs_no_quotes (codes "a..b@example.org") ≡ false
unfolding needs_no_quotes
two_dots = refl

space_within : needs_no_quotes (codes "a b@example.org") ≡ false
unfolding needs_no_quotes
space_within = refl

delete_within : needs_no_quotes (127 ∷ codes "@example.org") ≡ false
unfolding needs_no_quotes
delete_within = refl

route : needs_no_quotes (codes "@relay.example:a@example.org") ≡ false
unfolding needs_no_quotes
route = refl

no_local_part : needs_no_quotes (codes "@example.org") ≡ false
unfolding needs_no_quotes
no_local_part = refl
