-- Reading a request from left to right: the request in some bytes, or the first fault.
use Rattle.std.specs.Prelude.{ℕ, zero, suc, ◌==◌, Bool, true, List, [], ◌∷◌, ◌++◌, codes, Option, Some, None, Result, Ok, Err, if◌then◌else◌}
use Rattle.std.specs.Cmp.Lexicographic.{pointwise}
use Rattle.std.specs.List.{starts_with}
use Rattle.dsn_text.specs.Text.{is_queue_id}
use Rattle.dsn_postfix.specs.Attribute.{number_in, number_limit, offset_limit, zero_ended_at}
use Rattle.dsn_postfix.specs.AttributeValues.{are_delimiters, is_queue_name}
use Rattle.dsn_postfix.specs.PostfixRequest.{send_options_name}
use Rattle.dsn_postfix.specs.declared.postfix_request.AppendRequest.{AppendRequest}
use Rattle.dsn_postfix.specs.declared.postfix_request.DeliveryReport.{DeliveryReport}
use Rattle.dsn_postfix.specs.declared.postfix_request.NoticeRequest.{NoticeRequest}
use Rattle.dsn_postfix.specs.declared.postfix_request.PostfixRequest.{PostfixRequest}
use Rattle.dsn_postfix.specs.declared.postfix_request.PostfixRequest.TheVariants.{Append, Flush, Warn, Verp, One, Trace}
use Rattle.dsn_postfix.specs.declared.postfix_request.ReportedRecipient.{ReportedRecipient}
use Rattle.dsn_postfix.specs.declared.request_fault.RequestFault.{RequestFault}
use Rattle.dsn_postfix.specs.declared.request_fault.RequestFault.TheVariants.{Unended, Missing, Name, Number, Command, QueueName, QueueId, Delimiters, Extra, Trailing}

-- the next reading, if the one before it had no fault
infixl 10 ◌>>>◌
abbrev pub ◌>>>◌ : {A B : Type 0} → Result A RequestFault → (A → Result B RequestFault) → Result B RequestFault
(Ok read) >>> next = next read
(Err fault) >>> next = Err fault

-- a value, or the fault if there is no value
abbrev pub or_fault : {A : Type 0} → RequestFault → Option A → Result A RequestFault
or_fault fault (Some value) = Ok value
or_fault fault None = Err fault

-- a value that passes a test, or the fault
abbrev pub tested : (List ℕ → Bool) → RequestFault → List ℕ → Result (List ℕ) RequestFault
tested test fault value = if test value then Ok value else Err fault

-- ---- one attribute, and what follows it

-- a name must be that of the layout; an empty name ends the list too early
abbrev pub named : List ℕ → List ℕ → Result Bool RequestFault
named name [] = Err Missing
named name (byte ∷ text) = if pointwise ◌==◌ (byte ∷ text) name then Ok true else Err Name

-- the value of the attribute with this name
unfoldable pub attribute_at : List ℕ → List ℕ → Result (List ℕ × List ℕ) RequestFault
attribute_at name bytes =
    or_fault Unended (zero_ended_at bytes) >>> λ found.
    named name found.0 >>> λ same.
    or_fault Unended (zero_ended_at found.1)

unfoldable pub value_number_at : ℕ → List ℕ → List ℕ → Result (ℕ × List ℕ) RequestFault
value_number_at limit name bytes =
    attribute_at name bytes >>> λ value.
    or_fault Number (number_in limit value.0) >>> λ number.
    Ok (number, value.1)

-- the value of the attribute with this name, which must pass a test
unfoldable pub tested_at : (List ℕ → Bool) → RequestFault → List ℕ → List ℕ → Result (List ℕ × List ℕ) RequestFault
tested_at test fault name bytes =
    attribute_at name bytes >>> λ value.
    tested test fault value.0 >>> λ text.
    Ok (text, value.1)

-- the end of the list, which must be the end of the bytes
abbrev pub end_at : List ℕ → Result Bool RequestFault
end_at [] = Err Unended
end_at (zero ∷ []) = Ok true
end_at (zero ∷ (byte ∷ rest)) = Err Trailing
end_at (suc byte ∷ rest) = Err Extra

-- ---- several attributes, and what follows them

unfoldable pub recipient_at : List ℕ → Result (ReportedRecipient × List ℕ) RequestFault
recipient_at bytes =
    attribute_at (codes "original_recipient") bytes >>> λ original.
    attribute_at (codes "recipient") original.1 >>> λ address.
    value_number_at offset_limit (codes "offset") address.1 >>> λ offset.
    attribute_at (codes "dsn_orig_rcpt") offset.1 >>> λ dsn_original.
    value_number_at number_limit (codes "notify_flags") dsn_original.1 >>> λ notify.
    Ok (record { original = original.0; address = address.0; offset = offset.0; dsn_original = dsn_original.0; notify = notify.0 }, notify.1)

unfoldable pub report_at : List ℕ → Result (DeliveryReport × List ℕ) RequestFault
report_at bytes =
    attribute_at (codes "status") bytes >>> λ status.
    attribute_at (codes "diag_type") status.1 >>> λ diagnostic_type.
    attribute_at (codes "diag_text") diagnostic_type.1 >>> λ diagnostic.
    attribute_at (codes "mta_type") diagnostic.1 >>> λ mta_type.
    attribute_at (codes "mta_mname") mta_type.1 >>> λ mta.
    attribute_at (codes "action") mta.1 >>> λ action.
    attribute_at (codes "reason") action.1 >>> λ reason.
    Ok (record { status = status.0; diagnostic_type = diagnostic_type.0; diagnostic = diagnostic.0; mta_type = mta_type.0; mta = mta.0; action = action.0; reason = reason.0 }, reason.1)

unfoldable pub append_request_at : List ℕ → Result (AppendRequest × List ℕ) RequestFault
append_request_at bytes =
    value_number_at number_limit (codes "flags") bytes >>> λ flags.
    tested_at is_queue_id QueueId (codes "queue_id") flags.1 >>> λ id.
    recipient_at id.1 >>> λ recipient.
    report_at recipient.1 >>> λ report.
    Ok (record { flags = flags.0; queue_id = id.0; recipient = recipient.0; report = report.0 }, report.1)

-- whether the send options have their newer name here; otherwise they must have the older one
unfoldable pub is_sendopts_next : List ℕ → Bool
is_sendopts_next bytes = starts_with ◌==◌ bytes (codes "sendopts" ++ 0 ∷ [])

unfoldable pub notice_request_at : List ℕ → Result (NoticeRequest × List ℕ) RequestFault
notice_request_at bytes =
    value_number_at number_limit (codes "flags") bytes >>> λ flags.
    tested_at is_queue_name QueueName (codes "queue_name") flags.1 >>> λ queue.
    tested_at is_queue_id QueueId (codes "queue_id") queue.1 >>> λ id.
    attribute_at (codes "encoding") id.1 >>> λ encoding.
    value_number_at number_limit (send_options_name (is_sendopts_next encoding.1)) encoding.1 >>> λ send_options.
    attribute_at (codes "sender") send_options.1 >>> λ sender.
    attribute_at (codes "envelope_id") sender.1 >>> λ envelope_id.
    value_number_at number_limit (codes "ret_flags") envelope_id.1 >>> λ returns.
    Ok (record { flags = flags.0; queue_name = queue.0; queue_id = id.0; encoding = encoding.0; names_sendopts = is_sendopts_next encoding.1; send_options = send_options.0; sender = sender.0; envelope_id = envelope_id.0; returns = returns.0 }, returns.1)

-- ---- a whole request

unfoldable pub append_only_at : List ℕ → Result (PostfixRequest × List ℕ) RequestFault
append_only_at bytes =
    append_request_at bytes >>> λ request.
    Ok (Append request.0, request.1)

unfoldable pub verp_at : List ℕ → Result (PostfixRequest × List ℕ) RequestFault
verp_at bytes =
    notice_request_at bytes >>> λ request.
    tested_at are_delimiters Delimiters (codes "verp_delimiters") request.1 >>> λ delimiters.
    Ok (Verp request.0 delimiters.0, delimiters.1)

unfoldable pub one_at : List ℕ → Result (PostfixRequest × List ℕ) RequestFault
one_at bytes =
    notice_request_at bytes >>> λ request.
    recipient_at request.1 >>> λ recipient.
    report_at recipient.1 >>> λ report.
    Ok (One request.0 recipient.0 report.0, report.1)

-- a request that has only the attributes of a notice
unfoldable pub notice_at : (NoticeRequest → PostfixRequest) → List ℕ → Result (PostfixRequest × List ℕ) RequestFault
notice_at request_with bytes =
    notice_request_at bytes >>> λ request.
    Ok (request_with request.0, request.1)

-- the request after its number
unfoldable pub own_request_at : ℕ → List ℕ → Result (PostfixRequest × List ℕ) RequestFault
own_request_at zero bytes = append_only_at bytes
own_request_at (suc zero) bytes = notice_at Flush bytes
own_request_at (suc (suc zero)) bytes = notice_at Warn bytes
own_request_at (suc (suc (suc zero))) bytes = verp_at bytes
own_request_at (suc (suc (suc (suc zero)))) bytes = one_at bytes
own_request_at (suc (suc (suc (suc (suc zero))))) bytes = notice_at Trace bytes
own_request_at (suc (suc (suc (suc (suc (suc command)))))) bytes = Err Command

-- the request that takes up these bytes, or the first fault
unfoldable pub postfix_request_at : List ℕ → Result PostfixRequest RequestFault
postfix_request_at bytes =
    value_number_at number_limit (codes "nrequest") bytes >>> λ command.
    own_request_at command.0 command.1 >>> λ request.
    end_at request.1 >>> λ ended.
    Ok request.0
