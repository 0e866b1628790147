-- Worked examples of requests: the bytes are those that programs of Postfix 3.7.11 sent (tests/postfix/), except for
-- one request that is made by hand.
use Rattle.std.proofs.Common.{◌≡◌, ℕ, false, List, [], ◌∷◌, ◌++◌, Result, Ok, Err, refl}
use Rattle.std.specs.Prelude.{codes}
use Rattle.std.specs.Fmt.{digits}
use Rattle.dsn_postfix.specs.Attribute.{attribute_bytes, number_in}
use Rattle.dsn_postfix.specs.PostfixRequest.{postfix_request_bytes}
use Rattle.dsn_postfix.specs.RequestReading.{append_only_at, append_request_at, is_sendopts_next, notice_at, notice_request_at, one_at, own_request_at, postfix_request_at, recipient_at, report_at, tested_at, attribute_at, value_number_at, verp_at}
use Rattle.dsn_postfix.specs.declared.postfix_request.DeliveryReport.{DeliveryReport}
use Rattle.dsn_postfix.specs.declared.postfix_request.NoticeRequest.{NoticeRequest}
use Rattle.dsn_postfix.specs.declared.postfix_request.PostfixRequest.{PostfixRequest}
use Rattle.dsn_postfix.specs.declared.postfix_request.PostfixRequest.TheVariants.{Append, Flush, Warn, Verp, One, Trace}
use Rattle.dsn_postfix.specs.declared.postfix_request.ReportedRecipient.{ReportedRecipient}
use Rattle.dsn_postfix.specs.declared.request_fault.RequestFault.{RequestFault}
use Rattle.dsn_postfix.specs.declared.request_fault.RequestFault.TheVariants.{Unended, Missing, Name, Number, Command, QueueName, QueueId, Delimiters, Extra, Trailing}

-- the request in some bytes
abbrev asked : List ℕ → Result PostfixRequest RequestFault
asked bytes = postfix_request_at bytes

-- smtp(8) after a 550: the log of failures
abbrev append_bytes : List ℕ
append_bytes =
    codes "nrequest" ++ (0 ∷ codes "0") ++ (0 ∷ codes "flags") ++ (0 ∷ codes "0") ++ (0 ∷ codes "queue_id")
    ++ (0 ∷ codes "6BB87A7E6A1") ++ (0 ∷ codes "original_recipient") ++ (0 ∷ codes "no.bob@example.org")
    ++ (0 ∷ codes "recipient") ++ (0 ∷ codes "no.bob@example.org") ++ (0 ∷ codes "offset") ++ (0 ∷ codes "727")
    ++ (0 ∷ codes "dsn_orig_rcpt") ++ (0 ∷ codes "rfc822;bob@example.org") ++ (0 ∷ codes "notify_flags")
    ++ (0 ∷ codes "12") ++ (0 ∷ codes "status") ++ (0 ∷ codes "5.1.1") ++ (0 ∷ codes "diag_type")
    ++ (0 ∷ codes "smtp") ++ (0 ∷ codes "diag_text") ++ (0 ∷ codes "550 5.1.1 <no.bob>: no such user here")
    ++ (0 ∷ codes "mta_type") ++ (0 ∷ codes "dns") ++ (0 ∷ codes "mta_mname") ++ (0 ∷ codes "127.0.0.1")
    ++ (0 ∷ codes "action") ++ (0 ∷ codes "failed") ++ (0 ∷ codes "reason")
    ++ (0 ∷ codes "host 127.0.0.1[127.0.0.1] said: 550 5.1.1 <no.bob>: no such user here (in reply to RCPT TO command)")
    ++ (0 ∷ []) ++ (0 ∷ [])

abbrev the_recipient : ReportedRecipient
the_recipient = record {
  original = codes "no.bob@example.org";
  address = codes "no.bob@example.org";
  offset = 727;
  dsn_original = codes "rfc822;bob@example.org";
  notify = 12;
}

abbrev the_report : DeliveryReport
the_report = record {
  status = codes "5.1.1";
  diagnostic_type = codes "smtp";
  diagnostic = codes "550 5.1.1 <no.bob>: no such user here";
  mta_type = codes "dns";
  mta = codes "127.0.0.1";
  action = codes "failed";
  reason = codes "host 127.0.0.1[127.0.0.1] said: 550 5.1.1 <no.bob>: no such user here (in reply to RCPT TO command)";
}

abbrev append_request : PostfixRequest
append_request = Append (record { flags = 0; queue_id = codes "6BB87A7E6A1"; recipient = the_recipient; report = the_report })

append_is_read : asked append_bytes ≡ Ok append_request
unfolding digits is_sendopts_next number_in postfix_request_at own_request_at append_only_at append_request_at notice_at notice_request_at one_at verp_at recipient_at report_at tested_at attribute_at value_number_at
append_is_read = refl

append_is_written : postfix_request_bytes append_request ≡ append_bytes
unfolding digits postfix_request_bytes attribute_bytes
append_is_written = refl

-- qmgr(8) once all recipients are done
abbrev flush_bytes : List ℕ
flush_bytes =
    codes "nrequest" ++ (0 ∷ codes "1") ++ (0 ∷ codes "flags") ++ (0 ∷ codes "0") ++ (0 ∷ codes "queue_name")
    ++ (0 ∷ codes "active") ++ (0 ∷ codes "queue_id") ++ (0 ∷ codes "6BB87A7E6A1") ++ (0 ∷ codes "encoding")
    ++ (0 ∷ []) ++ (0 ∷ codes "smtputf8") ++ (0 ∷ codes "0") ++ (0 ∷ codes "sender") ++ (0 ∷ codes "ann@example.com")
    ++ (0 ∷ codes "envelope_id") ++ (0 ∷ codes "QQ314159") ++ (0 ∷ codes "ret_flags") ++ (0 ∷ codes "2") ++ (0 ∷ [])
    ++ (0 ∷ [])

abbrev flush_notice : NoticeRequest
flush_notice = record {
  flags = 0;
  queue_name = codes "active";
  queue_id = codes "6BB87A7E6A1";
  encoding = [];
  names_sendopts = false;
  send_options = 0;
  sender = codes "ann@example.com";
  envelope_id = codes "QQ314159";
  returns = 2;
}

abbrev flush_request : PostfixRequest
flush_request = Flush flush_notice

flush_is_read : asked flush_bytes ≡ Ok flush_request
unfolding digits is_sendopts_next number_in postfix_request_at own_request_at append_only_at append_request_at notice_at notice_request_at one_at verp_at recipient_at report_at tested_at attribute_at value_number_at
flush_is_read = refl

flush_is_written : postfix_request_bytes flush_request ≡ flush_bytes
unfolding digits postfix_request_bytes attribute_bytes
flush_is_written = refl

-- qmgr(8) once a message has expired: recipients must be marked
abbrev expired_bytes : List ℕ
expired_bytes =
    codes "nrequest" ++ (0 ∷ codes "1") ++ (0 ∷ codes "flags") ++ (0 ∷ codes "2") ++ (0 ∷ codes "queue_name")
    ++ (0 ∷ codes "active") ++ (0 ∷ codes "queue_id") ++ (0 ∷ codes "6FF65A7E6C1") ++ (0 ∷ codes "encoding")
    ++ (0 ∷ []) ++ (0 ∷ codes "smtputf8") ++ (0 ∷ codes "0") ++ (0 ∷ codes "sender") ++ (0 ∷ codes "ann@example.com")
    ++ (0 ∷ codes "envelope_id") ++ (0 ∷ []) ++ (0 ∷ codes "ret_flags") ++ (0 ∷ codes "0") ++ (0 ∷ []) ++ (0 ∷ [])

abbrev expired_notice : NoticeRequest
expired_notice = record {
  flags = 2;
  queue_name = codes "active";
  queue_id = codes "6FF65A7E6C1";
  encoding = [];
  names_sendopts = false;
  send_options = 0;
  sender = codes "ann@example.com";
  envelope_id = [];
  returns = 0;
}

abbrev expired_request : PostfixRequest
expired_request = Flush expired_notice

expired_is_read : asked expired_bytes ≡ Ok expired_request
unfolding digits is_sendopts_next number_in postfix_request_at own_request_at append_only_at append_request_at notice_at notice_request_at one_at verp_at recipient_at report_at tested_at attribute_at value_number_at
expired_is_read = refl

expired_is_written : postfix_request_bytes expired_request ≡ expired_bytes
unfolding digits postfix_request_bytes attribute_bytes
expired_is_written = refl

-- cleanup(8), about a message with too many hops: the log must be removed if the answer isn't 0
abbrev refused_bytes : List ℕ
refused_bytes =
    codes "nrequest" ++ (0 ∷ codes "1") ++ (0 ∷ codes "flags") ++ (0 ∷ codes "1") ++ (0 ∷ codes "queue_name")
    ++ (0 ∷ codes "incoming") ++ (0 ∷ codes "queue_id") ++ (0 ∷ codes "6C7FDA7F585") ++ (0 ∷ codes "encoding")
    ++ (0 ∷ []) ++ (0 ∷ codes "smtputf8") ++ (0 ∷ codes "0") ++ (0 ∷ codes "sender") ++ (0 ∷ codes "ann@example.com")
    ++ (0 ∷ codes "envelope_id") ++ (0 ∷ []) ++ (0 ∷ codes "ret_flags") ++ (0 ∷ codes "0") ++ (0 ∷ []) ++ (0 ∷ [])

abbrev refused_notice : NoticeRequest
refused_notice = record {
  flags = 1;
  queue_name = codes "incoming";
  queue_id = codes "6C7FDA7F585";
  encoding = [];
  names_sendopts = false;
  send_options = 0;
  sender = codes "ann@example.com";
  envelope_id = [];
  returns = 0;
}

abbrev refused_request : PostfixRequest
refused_request = Flush refused_notice

refused_is_read : asked refused_bytes ≡ Ok refused_request
unfolding digits is_sendopts_next number_in postfix_request_at own_request_at append_only_at append_request_at notice_at notice_request_at one_at verp_at recipient_at report_at tested_at attribute_at value_number_at
refused_is_read = refl

refused_is_written : postfix_request_bytes refused_request ≡ refused_bytes
unfolding digits postfix_request_bytes attribute_bytes
refused_is_written = refl

-- a message with a null sender
abbrev null_bytes : List ℕ
null_bytes =
    codes "nrequest" ++ (0 ∷ codes "1") ++ (0 ∷ codes "flags") ++ (0 ∷ codes "0") ++ (0 ∷ codes "queue_name")
    ++ (0 ∷ codes "active") ++ (0 ∷ codes "queue_id") ++ (0 ∷ codes "717F3A7E6D1") ++ (0 ∷ codes "encoding")
    ++ (0 ∷ []) ++ (0 ∷ codes "smtputf8") ++ (0 ∷ codes "0") ++ (0 ∷ codes "sender") ++ (0 ∷ [])
    ++ (0 ∷ codes "envelope_id") ++ (0 ∷ []) ++ (0 ∷ codes "ret_flags") ++ (0 ∷ codes "0") ++ (0 ∷ []) ++ (0 ∷ [])

abbrev null_notice : NoticeRequest
null_notice = record {
  flags = 0;
  queue_name = codes "active";
  queue_id = codes "717F3A7E6D1";
  encoding = [];
  names_sendopts = false;
  send_options = 0;
  sender = [];
  envelope_id = [];
  returns = 0;
}

abbrev null_request : PostfixRequest
null_request = Flush null_notice

null_is_read : asked null_bytes ≡ Ok null_request
unfolding digits is_sendopts_next number_in postfix_request_at own_request_at append_only_at append_request_at notice_at notice_request_at one_at verp_at recipient_at report_at tested_at attribute_at value_number_at
null_is_read = refl

null_is_written : postfix_request_bytes null_request ≡ null_bytes
unfolding digits postfix_request_bytes attribute_bytes
null_is_written = refl

-- qmgr(8) after the delay of a warning
abbrev warn_bytes : List ℕ
warn_bytes =
    codes "nrequest" ++ (0 ∷ codes "2") ++ (0 ∷ codes "flags") ++ (0 ∷ codes "0") ++ (0 ∷ codes "queue_name")
    ++ (0 ∷ codes "active") ++ (0 ∷ codes "queue_id") ++ (0 ∷ codes "6FF65A7E6C1") ++ (0 ∷ codes "encoding")
    ++ (0 ∷ []) ++ (0 ∷ codes "smtputf8") ++ (0 ∷ codes "0") ++ (0 ∷ codes "sender") ++ (0 ∷ codes "ann@example.com")
    ++ (0 ∷ codes "envelope_id") ++ (0 ∷ []) ++ (0 ∷ codes "ret_flags") ++ (0 ∷ codes "0") ++ (0 ∷ []) ++ (0 ∷ [])

abbrev warn_notice : NoticeRequest
warn_notice = record {
  flags = 0;
  queue_name = codes "active";
  queue_id = codes "6FF65A7E6C1";
  encoding = [];
  names_sendopts = false;
  send_options = 0;
  sender = codes "ann@example.com";
  envelope_id = [];
  returns = 0;
}

abbrev warn_request : PostfixRequest
warn_request = Warn warn_notice

warn_is_read : asked warn_bytes ≡ Ok warn_request
unfolding digits is_sendopts_next number_in postfix_request_at own_request_at append_only_at append_request_at notice_at notice_request_at one_at verp_at recipient_at report_at tested_at attribute_at value_number_at
warn_is_read = refl

warn_is_written : postfix_request_bytes warn_request ≡ warn_bytes
unfolding digits postfix_request_bytes attribute_bytes
warn_is_written = refl

-- qmgr(8), about a message that was submitted with XVERP
abbrev verp_bytes : List ℕ
verp_bytes =
    codes "nrequest" ++ (0 ∷ codes "3") ++ (0 ∷ codes "flags") ++ (0 ∷ codes "0") ++ (0 ∷ codes "queue_name")
    ++ (0 ∷ codes "active") ++ (0 ∷ codes "queue_id") ++ (0 ∷ codes "6CE9CA7E022") ++ (0 ∷ codes "encoding")
    ++ (0 ∷ []) ++ (0 ∷ codes "smtputf8") ++ (0 ∷ codes "0") ++ (0 ∷ codes "sender")
    ++ (0 ∷ codes "list@example.com") ++ (0 ∷ codes "envelope_id") ++ (0 ∷ []) ++ (0 ∷ codes "ret_flags")
    ++ (0 ∷ codes "0") ++ (0 ∷ codes "verp_delimiters") ++ (0 ∷ codes "+=") ++ (0 ∷ []) ++ (0 ∷ [])

abbrev verp_notice : NoticeRequest
verp_notice = record {
  flags = 0;
  queue_name = codes "active";
  queue_id = codes "6CE9CA7E022";
  encoding = [];
  names_sendopts = false;
  send_options = 0;
  sender = codes "list@example.com";
  envelope_id = [];
  returns = 0;
}

abbrev verp_request : PostfixRequest
verp_request = Verp verp_notice (codes "+=")

verp_is_read : asked verp_bytes ≡ Ok verp_request
unfolding digits is_sendopts_next number_in postfix_request_at own_request_at append_only_at append_request_at notice_at notice_request_at one_at verp_at recipient_at report_at tested_at attribute_at value_number_at
verp_is_read = refl

verp_is_written : postfix_request_bytes verp_request ≡ verp_bytes
unfolding digits postfix_request_bytes attribute_bytes
verp_is_written = refl

-- qmgr(8), about a message that was submitted with NOTIFY=SUCCESS
abbrev trace_bytes : List ℕ
trace_bytes =
    codes "nrequest" ++ (0 ∷ codes "5") ++ (0 ∷ codes "flags") ++ (0 ∷ codes "0") ++ (0 ∷ codes "queue_name")
    ++ (0 ∷ codes "active") ++ (0 ∷ codes "queue_id") ++ (0 ∷ codes "6E0BEA7E6B1") ++ (0 ∷ codes "encoding")
    ++ (0 ∷ []) ++ (0 ∷ codes "smtputf8") ++ (0 ∷ codes "0") ++ (0 ∷ codes "sender") ++ (0 ∷ codes "ann@example.com")
    ++ (0 ∷ codes "envelope_id") ++ (0 ∷ []) ++ (0 ∷ codes "ret_flags") ++ (0 ∷ codes "1") ++ (0 ∷ []) ++ (0 ∷ [])

abbrev trace_notice : NoticeRequest
trace_notice = record {
  flags = 0;
  queue_name = codes "active";
  queue_id = codes "6E0BEA7E6B1";
  encoding = [];
  names_sendopts = false;
  send_options = 0;
  sender = codes "ann@example.com";
  envelope_id = [];
  returns = 1;
}

abbrev trace_request : PostfixRequest
trace_request = Trace trace_notice

trace_is_read : asked trace_bytes ≡ Ok trace_request
unfolding digits is_sendopts_next number_in postfix_request_at own_request_at append_only_at append_request_at notice_at notice_request_at one_at verp_at recipient_at report_at tested_at attribute_at value_number_at
trace_is_read = refl

trace_is_written : postfix_request_bytes trace_request ≡ trace_bytes
unfolding digits postfix_request_bytes attribute_bytes
trace_is_written = refl

-- local(8), about an alias that has an `owner-` alias and a command that failed
abbrev owner_bytes : List ℕ
owner_bytes =
    codes "nrequest" ++ (0 ∷ codes "4") ++ (0 ∷ codes "flags") ++ (0 ∷ codes "0") ++ (0 ∷ codes "queue_name")
    ++ (0 ∷ codes "active") ++ (0 ∷ codes "queue_id") ++ (0 ∷ codes "57785A96074") ++ (0 ∷ codes "encoding")
    ++ (0 ∷ []) ++ (0 ∷ codes "smtputf8") ++ (0 ∷ codes "0") ++ (0 ∷ codes "sender")
    ++ (0 ∷ codes "owner-list@home.example.net") ++ (0 ∷ codes "envelope_id") ++ (0 ∷ [])
    ++ (0 ∷ codes "ret_flags") ++ (0 ∷ codes "0") ++ (0 ∷ codes "original_recipient") ++ (0 ∷ [])
    ++ (0 ∷ codes "recipient") ++ (0 ∷ codes "list@home.example.net") ++ (0 ∷ codes "offset")
    ++ (0 ∷ codes "711") ++ (0 ∷ codes "dsn_orig_rcpt") ++ (0 ∷ []) ++ (0 ∷ codes "notify_flags")
    ++ (0 ∷ codes "4") ++ (0 ∷ codes "status") ++ (0 ∷ codes "5.3.0") ++ (0 ∷ codes "diag_type")
    ++ (0 ∷ codes "x-unix") ++ (0 ∷ codes "diag_text") ++ (0 ∷ codes "service unavailable")
    ++ (0 ∷ codes "mta_type") ++ (0 ∷ []) ++ (0 ∷ codes "mta_mname") ++ (0 ∷ []) ++ (0 ∷ codes "action")
    ++ (0 ∷ codes "failed") ++ (0 ∷ codes "reason") ++ (0 ∷ codes "service unavailable") ++ (0 ∷ []) ++ (0 ∷ [])

abbrev owner_notice : NoticeRequest
owner_notice = record {
  flags = 0;
  queue_name = codes "active";
  queue_id = codes "57785A96074";
  encoding = [];
  names_sendopts = false;
  send_options = 0;
  sender = codes "owner-list@home.example.net";
  envelope_id = [];
  returns = 0;
}

abbrev the_list : ReportedRecipient
the_list = record { original = []; address = codes "list@home.example.net"; offset = 711; dsn_original = []; notify = 4 }

abbrev the_command : DeliveryReport
the_command = record {
  status = codes "5.3.0";
  diagnostic_type = codes "x-unix";
  diagnostic = codes "service unavailable";
  mta_type = [];
  mta = [];
  action = codes "failed";
  reason = codes "service unavailable";
}

abbrev owner_request : PostfixRequest
owner_request = One owner_notice the_list the_command

owner_is_read : asked owner_bytes ≡ Ok owner_request
unfolding digits is_sendopts_next number_in postfix_request_at own_request_at append_only_at append_request_at notice_at notice_request_at one_at verp_at recipient_at report_at tested_at attribute_at value_number_at
owner_is_read = refl

owner_is_written : postfix_request_bytes owner_request ≡ owner_bytes
unfolding digits postfix_request_bytes attribute_bytes
owner_is_written = refl

-- the same request with all attributes, made by hand
abbrev one_bytes : List ℕ
one_bytes =
    codes "nrequest" ++ (0 ∷ codes "4") ++ (0 ∷ codes "flags") ++ (0 ∷ codes "0") ++ (0 ∷ codes "queue_name")
    ++ (0 ∷ codes "active") ++ (0 ∷ codes "queue_id") ++ (0 ∷ codes "6BB87A7E6A1") ++ (0 ∷ codes "encoding")
    ++ (0 ∷ []) ++ (0 ∷ codes "smtputf8") ++ (0 ∷ codes "0") ++ (0 ∷ codes "sender") ++ (0 ∷ codes "ann@example.com")
    ++ (0 ∷ codes "envelope_id") ++ (0 ∷ codes "QQ314159") ++ (0 ∷ codes "ret_flags") ++ (0 ∷ codes "2")
    ++ (0 ∷ codes "original_recipient") ++ (0 ∷ codes "no.bob@example.org") ++ (0 ∷ codes "recipient")
    ++ (0 ∷ codes "no.bob@example.org") ++ (0 ∷ codes "offset") ++ (0 ∷ codes "727") ++ (0 ∷ codes "dsn_orig_rcpt")
    ++ (0 ∷ codes "rfc822;bob@example.org") ++ (0 ∷ codes "notify_flags") ++ (0 ∷ codes "12") ++ (0 ∷ codes "status")
    ++ (0 ∷ codes "5.1.1") ++ (0 ∷ codes "diag_type") ++ (0 ∷ codes "smtp") ++ (0 ∷ codes "diag_text")
    ++ (0 ∷ codes "550 5.1.1 <no.bob>: no such user here") ++ (0 ∷ codes "mta_type") ++ (0 ∷ codes "dns")
    ++ (0 ∷ codes "mta_mname") ++ (0 ∷ codes "127.0.0.1") ++ (0 ∷ codes "action") ++ (0 ∷ codes "failed")
    ++ (0 ∷ codes "reason")
    ++ (0 ∷ codes "host 127.0.0.1[127.0.0.1] said: 550 5.1.1 <no.bob>: no such user here (in reply to RCPT TO command)")
    ++ (0 ∷ []) ++ (0 ∷ [])

abbrev one_request : PostfixRequest
one_request = One flush_notice the_recipient the_report

one_is_read : asked one_bytes ≡ Ok one_request
unfolding digits is_sendopts_next number_in postfix_request_at own_request_at append_only_at append_request_at notice_at notice_request_at one_at verp_at recipient_at report_at tested_at attribute_at value_number_at
one_is_read = refl

one_is_written : postfix_request_bytes one_request ≡ one_bytes
unfolding digits postfix_request_bytes attribute_bytes
one_is_written = refl

-- ---- bytes that are not a valid request

no_bytes : asked [] ≡ Err Unended
unfolding digits is_sendopts_next number_in postfix_request_at own_request_at append_only_at append_request_at notice_at notice_request_at one_at verp_at recipient_at report_at tested_at attribute_at value_number_at
no_bytes = refl

empty_list : asked (0 ∷ []) ≡ Err Missing
unfolding digits is_sendopts_next number_in postfix_request_at own_request_at append_only_at append_request_at notice_at notice_request_at one_at verp_at recipient_at report_at tested_at attribute_at value_number_at
empty_list = refl

-- the kind of request is unknown
unknown_command : asked (
    codes "nrequest" ++ (0 ∷ codes "6") ++ (0 ∷ []) ++ (0 ∷ []))
    ≡ Err Command
unfolding digits is_sendopts_next number_in postfix_request_at own_request_at append_only_at append_request_at notice_at notice_request_at one_at verp_at recipient_at report_at tested_at attribute_at value_number_at
unknown_command = refl

-- a number has no sign
command_with_a_sign : asked (
    codes "nrequest" ++ (0 ∷ codes "+2") ++ (0 ∷ []) ++ (0 ∷ []))
    ≡ Err Number
unfolding digits is_sendopts_next number_in postfix_request_at own_request_at append_only_at append_request_at notice_at notice_request_at one_at verp_at recipient_at report_at tested_at attribute_at value_number_at
command_with_a_sign = refl

-- a number has no leading zero
command_with_a_zero : asked (
    codes "nrequest" ++ (0 ∷ codes "02") ++ (0 ∷ []) ++ (0 ∷ []))
    ≡ Err Number
unfolding digits is_sendopts_next number_in postfix_request_at own_request_at append_only_at append_request_at notice_at notice_request_at one_at verp_at recipient_at report_at tested_at attribute_at value_number_at
command_with_a_zero = refl

-- a number has 32 bits
number_too_great : asked (
    codes "nrequest" ++ (0 ∷ codes "2") ++ (0 ∷ codes "flags") ++ (0 ∷ codes "4294967296") ++ (0 ∷ []) ++ (0 ∷ []))
    ≡ Err Number
unfolding digits is_sendopts_next number_in postfix_request_at own_request_at append_only_at append_request_at notice_at notice_request_at one_at verp_at recipient_at report_at tested_at attribute_at value_number_at
number_too_great = refl

-- the greatest number
greatest_number : asked (
    codes "nrequest" ++ (0 ∷ codes "2") ++ (0 ∷ codes "flags") ++ (0 ∷ codes "4294967295") ++ (0 ∷ []) ++ (0 ∷ []))
    ≡ Err Missing
unfolding digits is_sendopts_next number_in postfix_request_at own_request_at append_only_at append_request_at notice_at notice_request_at one_at verp_at recipient_at report_at tested_at attribute_at value_number_at
greatest_number = refl

-- an attribute with the name of the next one
name_for_another : asked (
    codes "nrequest" ++ (0 ∷ codes "2") ++ (0 ∷ codes "queue_name") ++ (0 ∷ codes "active") ++ (0 ∷ []) ++ (0 ∷ []))
    ≡ Err Name
unfolding digits is_sendopts_next number_in postfix_request_at own_request_at append_only_at append_request_at notice_at notice_request_at one_at verp_at recipient_at report_at tested_at attribute_at value_number_at
name_for_another = refl

-- a list that ends early
list_too_short : asked (
    codes "nrequest" ++ (0 ∷ codes "2") ++ (0 ∷ codes "flags") ++ (0 ∷ codes "0") ++ (0 ∷ codes "queue_name")
    ++ (0 ∷ codes "active") ++ (0 ∷ codes "queue_id") ++ (0 ∷ codes "6FF65A7E6C1") ++ (0 ∷ []) ++ (0 ∷ []))
    ≡ Err Missing
unfolding digits is_sendopts_next number_in postfix_request_at own_request_at append_only_at append_request_at notice_at notice_request_at one_at verp_at recipient_at report_at tested_at attribute_at value_number_at
list_too_short = refl

-- a queue id that is a path
traversal : asked (
    codes "nrequest" ++ (0 ∷ codes "2") ++ (0 ∷ codes "flags") ++ (0 ∷ codes "0") ++ (0 ∷ codes "queue_name")
    ++ (0 ∷ codes "active") ++ (0 ∷ codes "queue_id") ++ (0 ∷ codes "../../etc") ++ (0 ∷ []) ++ (0 ∷ []))
    ≡ Err QueueId
unfolding digits is_sendopts_next number_in postfix_request_at own_request_at append_only_at append_request_at notice_at notice_request_at one_at verp_at recipient_at report_at tested_at attribute_at value_number_at
traversal = refl

-- the name of a queue that is a path
queue_traversal : asked (
    codes "nrequest" ++ (0 ∷ codes "2") ++ (0 ∷ codes "flags") ++ (0 ∷ codes "0") ++ (0 ∷ codes "queue_name")
    ++ (0 ∷ codes "../active") ++ (0 ∷ codes "queue_id") ++ (0 ∷ codes "6FF65A7E6C1") ++ (0 ∷ []) ++ (0 ∷ []))
    ≡ Err QueueName
unfolding digits is_sendopts_next number_in postfix_request_at own_request_at append_only_at append_request_at notice_at notice_request_at one_at verp_at recipient_at report_at tested_at attribute_at value_number_at
queue_traversal = refl

-- a warning's attributes, and something after them
abbrev warn_attributes : List ℕ
warn_attributes =
    codes "nrequest" ++ (0 ∷ codes "2") ++ (0 ∷ codes "flags") ++ (0 ∷ codes "0") ++ (0 ∷ codes "queue_name")
    ++ (0 ∷ codes "active") ++ (0 ∷ codes "queue_id") ++ (0 ∷ codes "6FF65A7E6C1") ++ (0 ∷ codes "encoding")
    ++ (0 ∷ []) ++ (0 ∷ codes "smtputf8") ++ (0 ∷ codes "0") ++ (0 ∷ codes "sender") ++ (0 ∷ codes "ann@example.com")
    ++ (0 ∷ codes "envelope_id") ++ (0 ∷ []) ++ (0 ∷ codes "ret_flags") ++ (0 ∷ codes "0") ++ (0 ∷ [])

without_end : asked warn_attributes ≡ Err Unended
unfolding digits is_sendopts_next number_in postfix_request_at own_request_at append_only_at append_request_at notice_at notice_request_at one_at verp_at recipient_at report_at tested_at attribute_at value_number_at
without_end = refl

with_an_attribute_more : asked (warn_attributes ++ codes "x" ++ (0 ∷ 0 ∷ 0 ∷ [])) ≡ Err Extra
unfolding digits is_sendopts_next number_in postfix_request_at own_request_at append_only_at append_request_at notice_at notice_request_at one_at verp_at recipient_at report_at tested_at attribute_at value_number_at
with_an_attribute_more = refl

with_a_byte_more : asked (warn_attributes ++ (0 ∷ 0 ∷ [])) ≡ Err Trailing
unfolding digits is_sendopts_next number_in postfix_request_at own_request_at append_only_at append_request_at notice_at notice_request_at one_at verp_at recipient_at report_at tested_at attribute_at value_number_at
with_a_byte_more = refl

-- three delimiters
three_delimiters : asked (
    codes "nrequest" ++ (0 ∷ codes "3") ++ (0 ∷ codes "flags") ++ (0 ∷ codes "0") ++ (0 ∷ codes "queue_name")
    ++ (0 ∷ codes "active") ++ (0 ∷ codes "queue_id") ++ (0 ∷ codes "6CE9CA7E022") ++ (0 ∷ codes "encoding")
    ++ (0 ∷ []) ++ (0 ∷ codes "smtputf8") ++ (0 ∷ codes "0") ++ (0 ∷ codes "sender")
    ++ (0 ∷ codes "list@example.com") ++ (0 ∷ codes "envelope_id") ++ (0 ∷ []) ++ (0 ∷ codes "ret_flags")
    ++ (0 ∷ codes "0") ++ (0 ∷ codes "verp_delimiters") ++ (0 ∷ codes "+=-") ++ (0 ∷ []) ++ (0 ∷ []))
    ≡ Err Delimiters
unfolding digits is_sendopts_next number_in postfix_request_at own_request_at append_only_at append_request_at notice_at notice_request_at one_at verp_at recipient_at report_at tested_at attribute_at value_number_at
three_delimiters = refl
