-- The notices that a request has of a log: each outcome that the recipient's NOTIFY value wants is in one of them,
-- once, in the log's order.
use Rattle.std.specs.Prelude.{◌≡◌, ◌==◌, ◌<◌, ◌≤◌, ◌&&◌, ◌||◌, not, nat_lt, Bool, true, false, ℕ, zero, suc, List, [], ◌∷◌, take, drop, length, map, codes, Option, Some, None, Result, Ok, Err, if◌then◌else◌}
use Rattle.std.specs.List.{AllByRecursion, Any, Contains, count_by, filter, flat_map, list_all, list_any}
use Rattle.std.specs.Str.{bytes_eq}
use Rattle.dsn_text.specs.declared.service.Service.{Service}
use Rattle.dsn_text.specs.declared.service.Service.TheVariants.{Bounce, Defer, Trace as TraceLog}
use Rattle.dsn_postfix_files.specs.LogFile.{DamagedLog, LoggedEntry, SaidLog, log_entries}
use Rattle.dsn_postfix_files.specs.LogRecord.{LoggedFields}
use Rattle.dsn_postfix.specs.LoggedAppend.{logged_of, unlogged_of}
use Rattle.dsn_postfix.specs.PlannedNotice.{NoticeFacts}
use Rattle.dsn_postfix_files.specs.QueueRecipients.{RecipientFacts}
use Rattle.dsn_postfix.specs.RequestFlags.{needs_smtputf8}
use Rattle.dsn_postfix.specs.Wanted.{is_no_sender, wants}
use Rattle.dsn_postfix.specs.declared.cant_say.CantSay.{CantSay}
use Rattle.dsn_postfix.specs.declared.cant_say.CantSay.TheVariants.{NoLog, DamagedPart, NeedsSmtputf8, SendOptions, Unlogged, UnknownAction}
use Rattle.dsn_postfix_files.specs.declared.log_field.LogField.{LogField}
use Rattle.dsn_postfix.specs.declared.plan_fault.PlanFault.{PlanFault}
use Rattle.dsn_postfix.specs.declared.plan_fault.PlanFault.TheVariants.{NoMemory, Unsaid}
use Rattle.dsn_postfix.specs.declared.postfix_request.NoticeRequest.{NoticeRequest}
use Rattle.dsn_postfix.specs.declared.postfix_request.PostfixRequest.{PostfixRequest}
use Rattle.dsn_postfix.specs.declared.postfix_request.PostfixRequest.TheVariants.{Append, Flush, Warn, Verp, One, Trace}
use Rattle.dsn_postfix_files.specs.declared.recipient_state.RecipientState.{RecipientState}
use Rattle.dsn_postfix_files.specs.declared.recipient_state.RecipientState.TheVariants.{Waiting, Done, Removed}
use Rattle.dsn_postfix.specs.declared.returned_part.ReturnedPart.{ReturnedPart}
use Rattle.dsn_postfix.specs.declared.returned_part.ReturnedPart.TheVariants.{Whole, Header}

-- ---- the records of a request

abbrev pub onto_records : LoggedFields → Result (List LoggedFields) CantSay → Result (List LoggedFields) CantSay
onto_records fields (Ok records) = Ok (fields ∷ records)
onto_records fields (Err reason) = Err reason

-- the records of an undamaged log, or the place of the first damage
abbrev pub whole_records : List LoggedEntry → Result (List LoggedFields) CantSay
whole_records [] = Ok []
whole_records (SaidLog fields ∷ entries) = onto_records fields (whole_records entries)
whole_records (DamagedLog part ∷ entries) = Err (DamagedPart part.place)

-- Without a notice of failure, a message would be lost in silence: if the log is missing, Postfix 3.7 says in the
-- notice that no report is available. A warning or a notice of deliveries without a log reports nobody.
abbrev pub needed_records : Service → Option (List ℕ) → Result (List LoggedFields) CantSay
needed_records service None = Err NoLog
needed_records service (Some file) = whole_records (log_entries service file)

abbrev pub records_if_any : Service → Option (List ℕ) → Result (List LoggedFields) CantSay
records_if_any service None = Ok []
records_if_any service (Some file) = whole_records (log_entries service file)

abbrev pub record_alone : Option LogField → LoggedFields → Result (List LoggedFields) CantSay
record_alone None fields = Ok (fields ∷ [])
record_alone (Some field) fields = Err (Unlogged field)

-- a request about one recipient has no log: its record is the recipient's own
abbrev pub records_asked : Service → PostfixRequest → Option (List ℕ) → Result (List LoggedFields) CantSay
records_asked service (Append append) log = Ok []
records_asked service (Flush notice) log = needed_records service log
records_asked service (Warn notice) log = records_if_any service log
records_asked service (Verp notice delimiters) log = needed_records service log
records_asked service (One notice recipient report) log =
    record_alone (unlogged_of recipient.address (logged_of service recipient report)) (logged_of service recipient report)
records_asked service (Trace notice) log = records_if_any service log

-- ---- the outcomes that notices report

-- two records say the same: they have the same place, address, status, action and reason
abbrev pub says_same : LoggedFields → LoggedFields → Bool
says_same one other =
    one.offset == other.offset
    && (bytes_eq one.recipient other.recipient
    && (bytes_eq one.status other.status
    && (bytes_eq one.action other.action && bytes_eq one.reason other.reason)))

-- Two records are of one outcome if they say the same of a known place. The place alone doesn't decide: the addresses
-- of an alias may have its place, and the outcomes of its commands have its address too.
abbrev pub is_same_outcome : LoggedFields → LoggedFields → Bool
is_same_outcome one other = nat_lt 0 one.offset && says_same one other

abbrev pub is_over : RecipientState → Bool
is_over Waiting = false
is_over Done = true
is_over Removed = true

-- the queue file says that the recipient whose record is at a place is done
abbrev pub is_done_at : ℕ → RecipientFacts → Bool
is_done_at place recipient = recipient.place == place && is_over recipient.state

abbrev pub is_done_in : List RecipientFacts → ℕ → Bool
is_done_in queued offset = nat_lt 0 offset && list_any (is_done_at offset) queued

-- A log of recipients that are tried again reports nothing of one that is done: it was delivered, removed or reported.
-- The recipients of the other logs are done because they are logged.
abbrev pub is_past : Service → List RecipientFacts → ℕ → Bool
is_past Bounce queued offset = false
is_past Defer queued offset = is_done_in queued offset
is_past TraceLog queued offset = false

-- an outcome that is wanted: by the sender, and of a recipient that the log still reports
abbrev pub is_wanted : Service → PostfixRequest → List RecipientFacts → LoggedFields → Bool
is_wanted service request queued fields = wants request fields.notify_flags && not (is_past service queued fields.offset)

abbrev pub with_action : List ℕ → LoggedFields → LoggedFields
with_action action fields = record {
  recipient = fields.recipient;
  original_recipient = fields.original_recipient;
  offset = fields.offset;
  dsn_original = fields.dsn_original;
  notify_flags = fields.notify_flags;
  status = fields.status;
  action = action;
  diagnostic_type = fields.diagnostic_type;
  diagnostic_text = fields.diagnostic_text;
  mta_type = fields.mta_type;
  mta_name = fields.mta_name;
  reason = fields.reason;
}

-- a notice of failure says of each recipient that it failed, even if a message expired and its log has delays
abbrev pub told_as : PostfixRequest → LoggedFields → LoggedFields
told_as (Append append) fields = fields
told_as (Flush notice) fields = with_action (codes "failed") fields
told_as (Warn notice) fields = fields
told_as (Verp notice delimiters) fields = with_action (codes "failed") fields
told_as (One notice recipient report) fields = with_action (codes "failed") fields
told_as (Trace notice) fields = fields

-- the last of the records of each outcome, in their order
abbrev pub last_of_each : List LoggedFields → List LoggedFields
last_of_each [] = []
last_of_each (fields ∷ later) =
    if list_any (is_same_outcome fields) later then last_of_each later else fields ∷ last_of_each later

-- the wanted records, as they are reported
abbrev pub wanted_of : Service → PostfixRequest → List RecipientFacts → List LoggedFields → List LoggedFields
wanted_of service request queued records = filter (is_wanted service request queued) (map (told_as request) records)

-- the outcomes that the notices report of some records, in their order
abbrev pub told_of : Service → PostfixRequest → List RecipientFacts → List LoggedFields → List LoggedFields
told_of service request queued records = last_of_each (wanted_of service request queued records)

-- ---- notices

-- The actions of RFC 3464 section 2.3.3. A report of what would be done has other actions.
abbrev pub is_known_action : List ℕ → Bool
is_known_action action =
    bytes_eq action (codes "failed")
    || (bytes_eq action (codes "delayed")
    || (bytes_eq action (codes "delivered")
    || (bytes_eq action (codes "relayed") || bytes_eq action (codes "expanded"))))

abbrev pub has_known_action : LoggedFields → Bool
has_known_action fields = is_known_action fields.action

-- portions of `most` elements, with fewer in the last; there are at most `count`
abbrev pub portions_within : {X : Type 0} → ℕ → ℕ → List X → List (List X)
portions_within zero most xs = []
portions_within (suc count) most [] = []
portions_within (suc count) most (x ∷ xs) = take most (x ∷ xs) ∷ portions_within count most (drop most (x ∷ xs))

abbrev pub portions : {X : Type 0} → ℕ → List X → List (List X)
portions most xs = portions_within (length xs) most xs

-- a notice reports at most 1,000 outcomes, and only one if it has a return path of its own
abbrev pub most_told : PostfixRequest → ℕ
most_told (Append append) = 1000
most_told (Flush notice) = 1000
most_told (Warn notice) = 1000
most_told (Verp notice delimiters) = 1
most_told (One notice recipient report) = 1000
most_told (Trace notice) = 1000

-- the kind of a notice: of failure, of delay, or of deliveries
abbrev pub kind_of_notice : PostfixRequest → Service
kind_of_notice (Append append) = Bounce
kind_of_notice (Flush notice) = Bounce
kind_of_notice (Warn notice) = Defer
kind_of_notice (Verp notice delimiters) = Bounce
kind_of_notice (One notice recipient report) = Bounce
kind_of_notice (Trace notice) = TraceLog

-- A notice of failure returns what the sender asked for, and the whole message if that is unspecified (RFC 3461 section
-- 4.3). The other notices return the header.
abbrev pub returned_if_failed : Service → ℕ → ReturnedPart
returned_if_failed Bounce returns = if returns == 2 then Header else Whole
returned_if_failed Defer returns = Header
returned_if_failed TraceLog returns = Header

abbrev pub delimiters_of : PostfixRequest → Option (List ℕ)
delimiters_of (Append append) = None
delimiters_of (Flush notice) = None
delimiters_of (Warn notice) = None
delimiters_of (Verp notice delimiters) = Some delimiters
delimiters_of (One notice recipient report) = None
delimiters_of (Trace notice) = None

abbrev pub notice_about : PostfixRequest → NoticeRequest → List LoggedFields → NoticeFacts
notice_about request notice outcomes = record {
  to = notice.sender;
  delimiters = delimiters_of request;
  service = kind_of_notice request;
  returned = returned_if_failed (kind_of_notice request) notice.returns;
  outcomes = outcomes;
}

abbrev pub notices_telling : PostfixRequest → NoticeRequest → List LoggedFields → Result (List NoticeFacts) CantSay
notices_telling request notice told =
    if list_all has_known_action told
    then Ok (map (notice_about request notice) (portions (most_told request) told))
    else Err UnknownAction

abbrev pub notices_with : Service → PostfixRequest → NoticeRequest → List RecipientFacts → Result (List LoggedFields) CantSay → Result (List NoticeFacts) CantSay
notices_with service request notice queued (Err reason) = Err reason
notices_with service request notice queued (Ok records) =
    notices_telling request notice (told_of service request queued records)

-- The send options that no notice keeps. 1: the message was submitted with SMTPUTF8 (RFC 6531), and 32: with REQUIRETLS
-- (RFC 8689); the notice would need these too. Greater ones are unknown. 2, 4 and 8 only say where the message has UTF-8,
-- which messages without SMTPUTF8 may have too. A notice keeps 16 (`TLS-Required: no`).
abbrev pub option_lost : NoticeRequest → Option CantSay
option_lost notice =
    if needs_smtputf8 notice then Some NeedsSmtputf8
    else (if nat_lt notice.send_options 32 then None else Some (SendOptions notice.send_options))

abbrev pub notices_unless : Option CantSay → Result (List NoticeFacts) CantSay → Result (List NoticeFacts) CantSay
notices_unless None notices = notices
notices_unless (Some reason) notices = Err reason

abbrev pub notices_asked : List ℕ → Service → PostfixRequest → List RecipientFacts → Option (List ℕ) → Option NoticeRequest → Result (List NoticeFacts) CantSay
notices_asked double_bounce service request queued log None = Ok []
notices_asked double_bounce service request queued log (Some notice) =
    if is_no_sender double_bounce notice.sender then Ok []
    else notices_unless (option_lost notice) (notices_with service request notice queued (records_asked service request log))

-- the part of a request that describes its notices, if it has notices
abbrev pub notice_asked : PostfixRequest → Option NoticeRequest
notice_asked (Append append) = None
notice_asked (Flush notice) = Some notice
notice_asked (Warn notice) = Some notice
notice_asked (Verp notice delimiters) = Some notice
notice_asked (One notice recipient report) = Some notice
notice_asked (Trace notice) = Some notice

-- the notices of a request to a service, from its log's file and the queue file's recipients, or why they can't be
-- expressed
unfoldable pub notices_of : List ℕ → Service → PostfixRequest → List RecipientFacts → Option (List ℕ) → Result (List NoticeFacts) CantSay
notices_of double_bounce service request queued log =
    notices_asked double_bounce service request queued log (notice_asked request)

-- ---- the program's answer

-- the fault is that of the plan, or memory was refused
abbrev pub IsPlanFault : {X : Type 0} → Result X CantSay → PlanFault → Type 0
IsPlanFault planned NoMemory = Unit {0}
IsPlanFault planned (Unsaid reason) = planned ≡ Err reason

-- ---- laws of notices

-- the outcomes that notices report, one after another
abbrev pub outcomes_of : List NoticeFacts → List LoggedFields
outcomes_of notices = flat_map (λ (notice : NoticeFacts). notice.outcomes) notices

-- a notice reports at least one outcome, and at most `most`
abbrev pub TellsOfSome : ℕ → NoticeFacts → Type 0
TellsOfSome most notice = (0 < length notice.outcomes) × (length notice.outcomes ≤ most)

-- a record is wanted, and a notice reports it with what an outcome says
abbrev pub is_reported_as : Service → PostfixRequest → List RecipientFacts → LoggedFields → LoggedFields → Bool
is_reported_as service request queued outcome fields =
    is_wanted service request queued fields && says_same outcome (told_as request fields)

-- an outcome is that of a wanted record
abbrev pub IsOfWanted : Service → PostfixRequest → List RecipientFacts → List LoggedFields → LoggedFields → Type 0
IsOfWanted service request queued records outcome =
    Any (λ (fields : LoggedFields). (is_wanted service request queued fields ≡ true) × (told_as request fields ≡ outcome)) records

-- What notices report of the records of a log. The last record of each wanted outcome, in the log's order (`told`). So
-- each wanted record of a known place exactly once, in one notice (`each`); of an unknown place each wanted record, which
-- is an outcome of its own (`unplaced`); and nothing else (`own`). No notice is empty or too long (`some`).
pub record TellEachOnce (service : Service) (request : PostfixRequest) (queued : List RecipientFacts) (records : List LoggedFields) (notices : List NoticeFacts) : Type 0 where
  pub told : outcomes_of notices ≡ told_of service request queued records
  pub each : (fields : LoggedFields) → Contains records fields → is_wanted service request queued fields ≡ true
      → 0 < fields.offset → count_by (says_same (told_as request fields)) (outcomes_of notices) ≡ 1
  pub unplaced : (fields : LoggedFields) → fields.offset ≡ 0
      → count_by (says_same (told_as request fields)) (outcomes_of notices)
      ≡ count_by (is_reported_as service request queued (told_as request fields)) records
  pub own : AllByRecursion (IsOfWanted service request queued records) (outcomes_of notices)
  pub some : AllByRecursion (TellsOfSome (most_told request)) notices
