-- Single bits of a request: of its flags, and of its message's send options.
use Rattle.std.specs.Prelude.{◌==◌, ◌/◌, ◌%◌, ℕ, Bool}
use Rattle.dsn_postfix.specs.declared.postfix_request.NoticeRequest.{NoticeRequest}
use Rattle.dsn_postfix.specs.declared.postfix_request.PostfixRequest.{PostfixRequest}
use Rattle.dsn_postfix.specs.declared.postfix_request.PostfixRequest.TheVariants.{Append, Flush, Warn, Verp, One, Trace}

abbrev pub has_flag : ℕ → ℕ → Bool
has_flag flag flags = (flags / flag) % 2 == 1

abbrev pub flags_of : PostfixRequest → ℕ
flags_of (Append append) = append.flags
flags_of (Flush notice) = notice.flags
flags_of (Warn notice) = notice.flags
flags_of (Verp notice delimiters) = notice.flags
flags_of (One notice recipient report) = notice.flags
flags_of (Trace notice) = notice.flags

-- CLEAN: the log is removed unless the answer is status 0
abbrev pub asks_clean : PostfixRequest → Bool
asks_clean request = has_flag 1 (flags_of request)

-- DELRCPT: recipients are marked as done once their sender is notified
abbrev pub marks_recipients : NoticeRequest → Bool
marks_recipients notice = has_flag 2 notice.flags

-- the message was submitted with SMTPUTF8 (RFC 6531)
abbrev pub needs_smtputf8 : NoticeRequest → Bool
needs_smtputf8 notice = has_flag 1 notice.send_options

-- the message's header has `TLS-Required: no` (RFC 8689 section 3)
abbrev pub is_tls_optional : NoticeRequest → Bool
is_tls_optional notice = has_flag 16 notice.send_options
