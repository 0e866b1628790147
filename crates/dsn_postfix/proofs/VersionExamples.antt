-- Worked examples of requests whose send options have their newer name: the bytes are those that programs of Postfix
-- 3.10.13 sent (tests/postfix/3.10/), and the same with another name.
use Rattle.std.proofs.Common.{◌≡◌, ℕ, false, true, List, [], ◌∷◌, ◌++◌, Ok, Err, refl}
use Rattle.std.specs.Prelude.{codes}
use Rattle.std.specs.Fmt.{digits}
use Rattle.dsn_postfix.specs.Attribute.{attribute_bytes, number_in}
use Rattle.dsn_postfix.specs.PostfixRequest.{postfix_request_bytes}
use Rattle.dsn_postfix.specs.RequestReading.{append_only_at, append_request_at, is_sendopts_next, notice_at, notice_request_at, one_at, own_request_at, postfix_request_at, recipient_at, report_at, tested_at, attribute_at, value_number_at, verp_at}
use Rattle.dsn_postfix.specs.declared.postfix_request.NoticeRequest.{NoticeRequest}
use Rattle.dsn_postfix.specs.declared.postfix_request.PostfixRequest.{PostfixRequest}
use Rattle.dsn_postfix.specs.declared.postfix_request.PostfixRequest.TheVariants.{Flush, Verp}
use Rattle.dsn_postfix.specs.declared.request_fault.RequestFault.TheVariants.{Missing, Name}

-- qmgr(8) once all recipients are done
abbrev flush_bytes : List ℕ
flush_bytes =
    codes "nrequest" ++ (0 ∷ codes "1") ++ (0 ∷ codes "flags") ++ (0 ∷ codes "0") ++ (0 ∷ codes "queue_name")
    ++ (0 ∷ codes "active") ++ (0 ∷ codes "queue_id") ++ (0 ∷ codes "B4882A7C1BF") ++ (0 ∷ codes "encoding")
    ++ (0 ∷ []) ++ (0 ∷ codes "sendopts") ++ (0 ∷ codes "0") ++ (0 ∷ codes "sender")
    ++ (0 ∷ codes "ann@example.com") ++ (0 ∷ codes "envelope_id") ++ (0 ∷ codes "QQ310")
    ++ (0 ∷ codes "ret_flags") ++ (0 ∷ codes "2") ++ (0 ∷ []) ++ (0 ∷ [])

abbrev flush_notice : NoticeRequest
flush_notice = record {
  flags = 0;
  queue_name = codes "active";
  queue_id = codes "B4882A7C1BF";
  encoding = [];
  names_sendopts = true;
  send_options = 0;
  sender = codes "ann@example.com";
  envelope_id = codes "QQ310";
  returns = 2;
}

abbrev flush_request : PostfixRequest
flush_request = Flush flush_notice

flush_is_read : postfix_request_at flush_bytes ≡ Ok flush_request
unfolding digits is_sendopts_next number_in postfix_request_at own_request_at append_only_at append_request_at notice_at notice_request_at one_at verp_at recipient_at report_at tested_at attribute_at value_number_at
flush_is_read = refl

flush_is_written : postfix_request_bytes flush_request ≡ flush_bytes
unfolding digits postfix_request_bytes attribute_bytes
flush_is_written = refl

-- the same request about a message whose header has `TLS-Required: no`
abbrev required_bytes : List ℕ
required_bytes =
    codes "nrequest" ++ (0 ∷ codes "1") ++ (0 ∷ codes "flags") ++ (0 ∷ codes "0") ++ (0 ∷ codes "queue_name")
    ++ (0 ∷ codes "active") ++ (0 ∷ codes "queue_id") ++ (0 ∷ codes "B681CA7C1C2") ++ (0 ∷ codes "encoding")
    ++ (0 ∷ []) ++ (0 ∷ codes "sendopts") ++ (0 ∷ codes "16") ++ (0 ∷ codes "sender")
    ++ (0 ∷ codes "ann@example.com") ++ (0 ∷ codes "envelope_id") ++ (0 ∷ []) ++ (0 ∷ codes "ret_flags")
    ++ (0 ∷ codes "0") ++ (0 ∷ []) ++ (0 ∷ [])

abbrev required_notice : NoticeRequest
required_notice = record {
  flags = 0;
  queue_name = codes "active";
  queue_id = codes "B681CA7C1C2";
  encoding = [];
  names_sendopts = true;
  send_options = 16;
  sender = codes "ann@example.com";
  envelope_id = [];
  returns = 0;
}

abbrev required_request : PostfixRequest
required_request = Flush required_notice

required_is_read : postfix_request_at required_bytes ≡ Ok required_request
unfolding digits is_sendopts_next number_in postfix_request_at own_request_at append_only_at append_request_at notice_at notice_request_at one_at verp_at recipient_at report_at tested_at attribute_at value_number_at
required_is_read = refl

required_is_written : postfix_request_bytes required_request ≡ required_bytes
unfolding digits postfix_request_bytes attribute_bytes
required_is_written = refl

-- qmgr(8), about a message that was submitted with `XVERP=+=`
abbrev verp_bytes : List ℕ
verp_bytes =
    codes "nrequest" ++ (0 ∷ codes "3") ++ (0 ∷ codes "flags") ++ (0 ∷ codes "0") ++ (0 ∷ codes "queue_name")
    ++ (0 ∷ codes "active") ++ (0 ∷ codes "queue_id") ++ (0 ∷ codes "B71A4A7C1C3") ++ (0 ∷ codes "encoding")
    ++ (0 ∷ []) ++ (0 ∷ codes "sendopts") ++ (0 ∷ codes "0") ++ (0 ∷ codes "sender")
    ++ (0 ∷ codes "list@example.com") ++ (0 ∷ codes "envelope_id") ++ (0 ∷ []) ++ (0 ∷ codes "ret_flags")
    ++ (0 ∷ codes "0") ++ (0 ∷ codes "verp_delimiters") ++ (0 ∷ codes "+=") ++ (0 ∷ []) ++ (0 ∷ [])

abbrev verp_notice : NoticeRequest
verp_notice = record {
  flags = 0;
  queue_name = codes "active";
  queue_id = codes "B71A4A7C1C3";
  encoding = [];
  names_sendopts = true;
  send_options = 0;
  sender = codes "list@example.com";
  envelope_id = [];
  returns = 0;
}

abbrev verp_request : PostfixRequest
verp_request = Verp verp_notice (codes "+=")

verp_is_read : postfix_request_at verp_bytes ≡ Ok verp_request
unfolding digits is_sendopts_next number_in postfix_request_at own_request_at append_only_at append_request_at notice_at notice_request_at one_at verp_at recipient_at report_at tested_at attribute_at value_number_at
verp_is_read = refl

verp_is_written : postfix_request_bytes verp_request ≡ verp_bytes
unfolding digits postfix_request_bytes attribute_bytes
verp_is_written = refl

-- ---- other names

-- a notice's attributes, with a name of the send options
abbrev named_bytes : List ℕ → List ℕ
named_bytes name =
    codes "nrequest" ++ (0 ∷ codes "1") ++ (0 ∷ codes "flags") ++ (0 ∷ codes "0") ++ (0 ∷ codes "queue_name")
    ++ (0 ∷ codes "active") ++ (0 ∷ codes "queue_id") ++ (0 ∷ codes "B4882A7C1BF") ++ (0 ∷ codes "encoding")
    ++ (0 ∷ []) ++ (0 ∷ name) ++ (0 ∷ codes "0") ++ (0 ∷ codes "sender")
    ++ (0 ∷ codes "ann@example.com") ++ (0 ∷ codes "envelope_id") ++ (0 ∷ codes "QQ310")
    ++ (0 ∷ codes "ret_flags") ++ (0 ∷ codes "2") ++ (0 ∷ []) ++ (0 ∷ [])

newer_name : postfix_request_at (named_bytes (codes "sendopts")) ≡ Ok flush_request
unfolding digits is_sendopts_next number_in postfix_request_at own_request_at append_only_at append_request_at notice_at notice_request_at one_at verp_at recipient_at report_at tested_at attribute_at value_number_at
newer_name = refl

abbrev older_request : PostfixRequest
older_request = Flush (record flush_notice { names_sendopts = false })

older_name : postfix_request_at (named_bytes (codes "smtputf8")) ≡ Ok older_request
unfolding digits is_sendopts_next number_in postfix_request_at own_request_at append_only_at append_request_at notice_at notice_request_at one_at verp_at recipient_at report_at tested_at attribute_at value_number_at
older_name = refl

older_is_written : postfix_request_bytes older_request ≡ named_bytes (codes "smtputf8")
unfolding digits postfix_request_bytes attribute_bytes
older_is_written = refl

longer_name : postfix_request_at (named_bytes (codes "sendopts2")) ≡ Err Name
unfolding digits is_sendopts_next number_in postfix_request_at own_request_at append_only_at append_request_at notice_at notice_request_at one_at verp_at recipient_at report_at tested_at attribute_at value_number_at
longer_name = refl

shorter_name : postfix_request_at (named_bytes (codes "sendopt")) ≡ Err Name
unfolding digits is_sendopts_next number_in postfix_request_at own_request_at append_only_at append_request_at notice_at notice_request_at one_at verp_at recipient_at report_at tested_at attribute_at value_number_at
shorter_name = refl

no_name : postfix_request_at (named_bytes []) ≡ Err Missing
unfolding digits is_sendopts_next number_in postfix_request_at own_request_at append_only_at append_request_at notice_at notice_request_at one_at verp_at recipient_at report_at tested_at attribute_at value_number_at
no_name = refl
