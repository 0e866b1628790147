-- The requests of programs of Postfix 3.6 to 3.10 to bounce(8), and their attributes.
use Rattle.std.specs.Prelude.{◌≡◌, ℕ, ◌<◌, Bool, true, false, List, [], ◌∷◌, ◌++◌, codes}
use Rattle.dsn_text.specs.Text.{IsQueueId}
use Rattle.dsn_postfix.specs.Attribute.{Attribute, list_bytes, number_attribute, number_limit, offset_limit, text_attribute}
use Rattle.dsn_postfix_files.specs.ZeroFree.{IsZeroFree}
use Rattle.dsn_postfix.specs.AttributeValues.{AreDelimiters, IsQueueName}
use Rattle.dsn_postfix.specs.declared.postfix_request.AppendRequest.{AppendRequest}
use Rattle.dsn_postfix.specs.declared.postfix_request.DeliveryReport.{DeliveryReport}
use Rattle.dsn_postfix.specs.declared.postfix_request.NoticeRequest.{NoticeRequest}
use Rattle.dsn_postfix.specs.declared.postfix_request.PostfixRequest.{PostfixRequest}
use Rattle.dsn_postfix.specs.declared.postfix_request.PostfixRequest.TheVariants.{Append, Flush, Warn, Verp, One, Trace}
use Rattle.dsn_postfix.specs.declared.postfix_request.ReportedRecipient.{ReportedRecipient}

-- ---- the table of layouts

-- The name of the attribute that has the send options: the older one up to Postfix 3.9, the newer one since 3.10. All
-- else is the same in each version.
abbrev pub send_options_name : Bool → List ℕ
send_options_name false = codes "smtputf8"
send_options_name true = codes "sendopts"

abbrev pub recipient_attributes : ReportedRecipient → List Attribute
recipient_attributes recipient =
    text_attribute (codes "original_recipient") recipient.original
    ∷ text_attribute (codes "recipient") recipient.address
    ∷ number_attribute (codes "offset") recipient.offset
    ∷ text_attribute (codes "dsn_orig_rcpt") recipient.dsn_original
    ∷ number_attribute (codes "notify_flags") recipient.notify
    ∷ []

abbrev pub report_attributes : DeliveryReport → List Attribute
report_attributes report =
    text_attribute (codes "status") report.status
    ∷ text_attribute (codes "diag_type") report.diagnostic_type
    ∷ text_attribute (codes "diag_text") report.diagnostic
    ∷ text_attribute (codes "mta_type") report.mta_type
    ∷ text_attribute (codes "mta_mname") report.mta
    ∷ text_attribute (codes "action") report.action
    ∷ text_attribute (codes "reason") report.reason
    ∷ []

abbrev pub append_attributes : AppendRequest → List Attribute
append_attributes request =
    number_attribute (codes "flags") request.flags
    ∷ text_attribute (codes "queue_id") request.queue_id
    ∷ (recipient_attributes request.recipient ++ report_attributes request.report)

abbrev pub notice_attributes : NoticeRequest → List Attribute
notice_attributes request =
    number_attribute (codes "flags") request.flags
    ∷ text_attribute (codes "queue_name") request.queue_name
    ∷ text_attribute (codes "queue_id") request.queue_id
    ∷ text_attribute (codes "encoding") request.encoding
    ∷ number_attribute (send_options_name request.names_sendopts) request.send_options
    ∷ text_attribute (codes "sender") request.sender
    ∷ text_attribute (codes "envelope_id") request.envelope_id
    ∷ number_attribute (codes "ret_flags") request.returns
    ∷ []

-- the number of a kind of request
abbrev pub command_number : PostfixRequest → ℕ
command_number (Append request) = 0
command_number (Flush request) = 1
command_number (Warn request) = 2
command_number (Verp request delimiters) = 3
command_number (One request recipient report) = 4
command_number (Trace request) = 5

-- the attributes after that number
abbrev pub own_attributes : PostfixRequest → List Attribute
own_attributes (Append request) = append_attributes request
own_attributes (Flush request) = notice_attributes request
own_attributes (Warn request) = notice_attributes request
own_attributes (Verp request delimiters) =
    notice_attributes request ++ text_attribute (codes "verp_delimiters") delimiters ∷ []
own_attributes (One request recipient report) =
    notice_attributes request ++ (recipient_attributes recipient ++ report_attributes report)
own_attributes (Trace request) = notice_attributes request

abbrev pub request_attributes : PostfixRequest → List Attribute
request_attributes request =
    number_attribute (codes "nrequest") (command_number request) ∷ own_attributes request

-- the bytes of a request
unfoldable pub postfix_request_bytes : PostfixRequest → List ℕ
postfix_request_bytes request = list_bytes (request_attributes request)

-- ---- which requests can be written

pub record FitsRecipient (recipient : ReportedRecipient) : Type 0 where
  pub original : IsZeroFree recipient.original
  pub address : IsZeroFree recipient.address
  pub offset : recipient.offset < offset_limit
  pub dsn_original : IsZeroFree recipient.dsn_original
  pub notify : recipient.notify < number_limit

pub record FitsReport (report : DeliveryReport) : Type 0 where
  pub status : IsZeroFree report.status
  pub diagnostic_type : IsZeroFree report.diagnostic_type
  pub diagnostic : IsZeroFree report.diagnostic
  pub mta_type : IsZeroFree report.mta_type
  pub mta : IsZeroFree report.mta
  pub action : IsZeroFree report.action
  pub reason : IsZeroFree report.reason

pub record FitsAppendRequest (request : AppendRequest) : Type 0 where
  pub flags : request.flags < number_limit
  pub queue_id : IsQueueId request.queue_id
  pub recipient : FitsRecipient request.recipient
  pub report : FitsReport request.report

pub record FitsNotice (request : NoticeRequest) : Type 0 where
  pub flags : request.flags < number_limit
  pub queue_name : IsQueueName request.queue_name
  pub queue_id : IsQueueId request.queue_id
  pub encoding : IsZeroFree request.encoding
  pub send_options : request.send_options < number_limit
  pub sender : IsZeroFree request.sender
  pub envelope_id : IsZeroFree request.envelope_id
  pub returns : request.returns < number_limit

-- what holds for every request
unfoldable pub IsPostfixRequest : PostfixRequest → Type 0
IsPostfixRequest (Append request) = FitsAppendRequest request
IsPostfixRequest (Flush request) = FitsNotice request
IsPostfixRequest (Warn request) = FitsNotice request
IsPostfixRequest (Verp request delimiters) = FitsNotice request × AreDelimiters delimiters
IsPostfixRequest (One request recipient report) =
    FitsNotice request × (FitsRecipient recipient × FitsReport report)
IsPostfixRequest (Trace request) = FitsNotice request

-- bytes that are those of a request, which can be written
pub record IsRequestIn (bytes : List ℕ) (request : PostfixRequest) : Type 0 where
  pub bytes_are : bytes ≡ postfix_request_bytes request
  pub fits : IsPostfixRequest request
