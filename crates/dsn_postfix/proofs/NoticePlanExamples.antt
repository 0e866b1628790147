-- Worked examples of the notices that requests have, each computed.
use Rattle.std.proofs.Common.{◌≡◌, ℕ, false, List, [], ◌∷◌, codes, refl, Ok, Err, Some, None}
use Rattle.std.specs.List.{count_by}
use Rattle.dsn_text.specs.declared.service.Service.{Service}
use Rattle.dsn_text.specs.declared.service.Service.TheVariants.{Bounce, Defer, Trace as TraceLog}
use Rattle.dsn_postfix_files.specs.LogFile.{DamagedLog, SaidLog, are_whole, entry_at, is_said_line}
use Rattle.dsn_postfix_files.specs.LogRecord.{LoggedFields, fields_of_lines, unsayable_field}
use Rattle.dsn_postfix.specs.LoggedAppend.{logged_of, unlogged_of}
use Rattle.dsn_postfix.specs.NoticePlan.{notices_of, notices_telling, notices_with, outcomes_of, portions, says_same, told_of, whole_records, with_action}
use Rattle.dsn_postfix.specs.PlannedNotice.{NoticeFacts}
use Rattle.dsn_postfix_files.specs.QueueRecipients.{RecipientFacts}
use Rattle.dsn_postfix.specs.QuotedAddress.{needs_no_quotes}
use Rattle.dsn_postfix.specs.declared.cant_say.CantSay.TheVariants.{DamagedPart, NeedsSmtputf8, NoLog, SendOptions, UnknownAction, Unlogged}
use Rattle.dsn_postfix_files.specs.declared.log_field.LogField.TheVariants.{Recipient}
use Rattle.dsn_postfix.specs.declared.postfix_request.DeliveryReport.{DeliveryReport}
use Rattle.dsn_postfix.specs.declared.postfix_request.NoticeRequest.{NoticeRequest}
use Rattle.dsn_postfix.specs.declared.postfix_request.PostfixRequest.TheVariants.{Flush, One, Trace, Verp, Warn}
use Rattle.dsn_postfix.specs.declared.postfix_request.ReportedRecipient.{ReportedRecipient}
use Rattle.dsn_postfix_files.specs.declared.recipient_state.RecipientState.{RecipientState}
use Rattle.dsn_postfix_files.specs.declared.recipient_state.RecipientState.TheVariants.{Done, Removed, Waiting}
use Rattle.dsn_postfix.specs.declared.returned_part.ReturnedPart.{ReturnedPart}
use Rattle.dsn_postfix.specs.declared.returned_part.ReturnedPart.TheVariants.{Header, Whole}

abbrev notice_with : List ℕ → ℕ → ℕ → NoticeRequest
notice_with sender send_options returns = record {
  flags = 0;
  queue_name = codes "deferred";
  queue_id = codes "334A2A7C7AF";
  encoding = codes "7bit";
  names_sendopts = false;
  send_options = send_options;
  sender = sender;
  envelope_id = codes "QQ314159";
  returns = returns;
}

abbrev sender : List ℕ
sender = codes "ann@example.com"

abbrev asked : NoticeRequest
asked = notice_with sender 0 2

abbrev became : List ℕ → List ℕ → ℕ → ℕ → LoggedFields
became action recipient offset flags = record {
  recipient = recipient;
  original_recipient = [];
  offset = offset;
  dsn_original = [];
  notify_flags = flags;
  status = codes "5.1.1";
  action = action;
  diagnostic_type = [];
  diagnostic_text = [];
  mta_type = [];
  mta_name = [];
  reason = codes "no";
}

abbrev failed : List ℕ → ℕ → LoggedFields
failed recipient flags = became (codes "failed") recipient 0 flags

-- NOTIFY unspecified, NEVER, SUCCESS, FAILURE, SUCCESS and FAILURE, DELAY
abbrev unasked : LoggedFields
unasked = failed (codes "a@example.org") 0

abbrev never : LoggedFields
never = failed (codes "b@example.org") 1

abbrev success : LoggedFields
success = failed (codes "c@example.org") 2

abbrev failure : LoggedFields
failure = failed (codes "d@example.org") 4

abbrev both : LoggedFields
both = failed (codes "e@example.org") 6

abbrev delay : LoggedFields
delay = failed (codes "f@example.org") 8

abbrev logged : List LoggedFields
logged = unasked ∷ never ∷ success ∷ failure ∷ both ∷ delay ∷ []

abbrev double_bounce : List ℕ
double_bounce = codes "double-bounce@mx.example.net"

-- ---- the outcomes that they report

of_failure : told_of Bounce (Flush asked) [] logged ≡ unasked ∷ failure ∷ both ∷ []
of_failure = refl

of_delay : told_of Defer (Warn asked) [] logged ≡ unasked ∷ delay ∷ []
of_delay = refl

of_deliveries : told_of TraceLog (Trace asked) [] logged ≡ logged
of_deliveries = refl

-- if a message expired, its delays are failures
abbrev delayed : ℕ → LoggedFields
delayed offset = became (codes "delayed") (codes "g@example.org") offset 0

expired : told_of Defer (Flush asked) [] (delayed 727 ∷ []) ≡ with_action (codes "failed") (delayed 727) ∷ []
expired = refl

still_delayed : told_of Defer (Warn asked) [] (delayed 727 ∷ []) ≡ delayed 727 ∷ []
still_delayed = refl

-- An outcome that a log has twice is reported once, at its last record. Two addresses of one alias are two recipients,
-- and so are two whose records in the queue file aren't known.
logged_twice : told_of Defer (Warn asked) [] (delayed 727 ∷ delayed 3 ∷ delayed 727 ∷ []) ≡ delayed 3 ∷ delayed 727 ∷ []
logged_twice = refl

of_one_alias : told_of Defer (Warn asked) [] (became (codes "delayed") (codes "h@example.org") 727 0 ∷ delayed 727 ∷ []) ≡ became (codes "delayed") (codes "h@example.org") 727 0 ∷ delayed 727 ∷ []
of_one_alias = refl

without_places : told_of Defer (Warn asked) [] (delayed 0 ∷ delayed 0 ∷ []) ≡ delayed 0 ∷ delayed 0 ∷ []
without_places = refl

-- the commands of one alias have its place and its address: both are reported, even if one failed and the other didn't
abbrev command : List ℕ → List ℕ → List ℕ → LoggedFields
command status action reason = record (became action (codes "staff@example.org") 727 0) { status = status; reason = reason }

abbrev commands : List LoggedFields
commands =
    command (codes "5.3.0") (codes "failed") (codes "Command died with status 69: one")
    ∷ command (codes "5.3.0") (codes "failed") (codes "Command died with status 69: two")
    ∷ command (codes "5.2.0") (codes "failed") (codes "Command died with status 69: two")
    ∷ []

of_commands : told_of Bounce (Flush asked) [] commands ≡ commands
of_commands = refl

abbrev tried : List LoggedFields
tried =
    command (codes "5.3.0") (codes "failed") (codes "Command died with status 69: one")
    ∷ command (codes "2.0.0") (codes "delivered") (codes "delivered to command: two")
    ∷ command (codes "2.0.0") (codes "expanded") (codes "delivered to command: two")
    ∷ []

of_tried_commands : told_of TraceLog (Trace asked) [] tried ≡ tried
of_tried_commands = refl

-- a notice of failure has one action, so two records that differ in the action alone are reported once
of_one_failure : told_of Defer (Flush asked) [] (delayed 727 ∷ became (codes "failed") (codes "g@example.org") 727 0 ∷ []) ≡ became (codes "failed") (codes "g@example.org") 727 0 ∷ []
of_one_failure = refl

-- if only the earlier of two records of one outcome is wanted, it is reported
abbrev wanting : ℕ → LoggedFields
wanting flags = became (codes "failed") (codes "g@example.org") 727 flags

unwanted_later : told_of Bounce (Flush asked) [] (wanting 4 ∷ wanting 1 ∷ []) ≡ wanting 4 ∷ []
unwanted_later = refl

-- a log of recipients that are tried again reports nothing of one that is done; a log of failures does
abbrev queued_as : ℕ → RecipientState → RecipientFacts
queued_as place state = record { place = place; address = codes "g@example.org"; original = []; dsn_original = []; notify_flags = 0; state = state }

abbrev queued : List RecipientFacts
queued = queued_as 3 Waiting ∷ queued_as 727 Done ∷ queued_as 800 Removed ∷ []

done_since : told_of Defer (Warn asked) queued (delayed 727 ∷ delayed 3 ∷ delayed 800 ∷ []) ≡ delayed 3 ∷ []
done_since = refl

done_by_failing : told_of Bounce (Flush asked) queued (became (codes "failed") (codes "g@example.org") 727 0 ∷ []) ≡ became (codes "failed") (codes "g@example.org") 727 0 ∷ []
done_by_failing = refl

-- ---- notices

abbrev telling : ReturnedPart → Service → List LoggedFields → NoticeFacts
telling returned service outcomes = record { to = sender; delimiters = None; service = service; returned = returned; outcomes = outcomes }

one_notice : notices_with Bounce (Flush asked) asked [] (Ok logged) ≡ Ok (telling Header Bounce (unasked ∷ failure ∷ both ∷ []) ∷ [])
one_notice = refl

-- the whole message is returned if the sender didn't specify what, and never with a warning
abbrev whole_asked : NoticeRequest
whole_asked = notice_with sender 0 0

whole_notice : notices_with Bounce (Flush whole_asked) whole_asked [] (Ok logged) ≡ Ok (telling Whole Bounce (unasked ∷ failure ∷ both ∷ []) ∷ [])
whole_notice = refl

warning : notices_with Defer (Warn whole_asked) whole_asked [] (Ok logged) ≡ Ok (telling Header Defer (unasked ∷ delay ∷ []) ∷ [])
warning = refl

-- with a return path for each there are three notices
abbrev to_each : LoggedFields → NoticeFacts
to_each fields = record { to = sender; delimiters = Some (codes "+="); service = Bounce; returned = Header; outcomes = fields ∷ [] }

three_notices : notices_with Bounce (Verp asked (codes "+=")) asked [] (Ok logged) ≡ Ok (to_each unasked ∷ to_each failure ∷ to_each both ∷ [])
three_notices = refl

nobody_wanted : notices_with Bounce (Flush asked) asked [] (Ok (never ∷ delay ∷ [])) ≡ Ok []
nobody_wanted = refl

-- one outcome of one notice reports what three records of it say
once_in_two_notices : notices_with Bounce (Verp asked (codes "+=")) asked [] (Ok (wanting 4 ∷ wanting 4 ∷ both ∷ wanting 1 ∷ [])) ≡ Ok (to_each (wanting 4) ∷ to_each both ∷ [])
once_in_two_notices = refl

counted_once : count_by (says_same (wanting 1)) (outcomes_of (to_each (wanting 4) ∷ to_each both ∷ [])) ≡ 1
counted_once = refl

-- a report of what would be done
abbrev deliverable : LoggedFields
deliverable = became (codes "deliverable") (codes "a@example.org") 0 0

no_action : notices_telling (Trace asked) asked (unasked ∷ deliverable ∷ []) ≡ Err UnknownAction
no_action = refl

in_portions : portions {X = ℕ} 2 (1 ∷ 2 ∷ 3 ∷ 4 ∷ 5 ∷ []) ≡ (1 ∷ 2 ∷ []) ∷ (3 ∷ 4 ∷ []) ∷ (5 ∷ []) ∷ []
in_portions = refl

in_one_portion : portions {X = ℕ} 2 (1 ∷ 2 ∷ []) ≡ (1 ∷ 2 ∷ []) ∷ []
in_one_portion = refl

-- ---- requests

of_damage : whole_records (SaidLog unasked ∷ DamagedLog (record { place = 109; bytes = []; said = None }) ∷ SaidLog both ∷ []) ≡ Err (DamagedPart 109)
of_damage = refl

-- a log's file, and no file
of_a_file : notices_of double_bounce Bounce (Flush asked) [] (Some (codes "<a@example.org>: no\n\n")) ≡ Ok (telling Header Bounce (record {
  recipient = codes "a@example.org";
  original_recipient = [];
  offset = 0;
  dsn_original = [];
  notify_flags = 0;
  status = codes "5.0.0";
  action = codes "failed";
  diagnostic_type = [];
  diagnostic_text = [];
  mta_type = [];
  mta_name = [];
  reason = codes "no";
} ∷ []) ∷ [])
unfolding are_whole entry_at fields_of_lines is_said_line notices_of
of_a_file = refl

of_a_file_without_bytes : notices_of double_bounce Bounce (Flush asked) [] (Some []) ≡ Ok []
unfolding entry_at notices_of
of_a_file_without_bytes = refl

of_no_file : notices_of double_bounce Bounce (Flush asked) [] None ≡ Err NoLog
unfolding notices_of
of_no_file = refl

of_no_file_for_each : notices_of double_bounce Bounce (Verp asked (codes "+=")) [] None ≡ Err NoLog
unfolding notices_of
of_no_file_for_each = refl

no_warning : notices_of double_bounce Defer (Warn asked) [] None ≡ Ok []
unfolding notices_of
no_warning = refl

no_report : notices_of double_bounce TraceLog (Trace asked) [] None ≡ Ok []
unfolding notices_of
no_report = refl

-- a notice, and one about a notice, have no notice of their own, whether there is a log or not
of_nobody : notices_of double_bounce Bounce (Flush (notice_with [] 0 0)) [] None ≡ Ok []
unfolding notices_of
of_nobody = refl

of_a_double_bounce : notices_of double_bounce Bounce (Flush (notice_with (codes "Double-Bounce@mx.example.net") 0 0)) [] None ≡ Ok []
unfolding notices_of
of_a_double_bounce = refl

-- UTF-8 in the header, the sender and a recipient requires nothing: a warning without a log reports nobody
of_utf8_text : notices_of double_bounce Defer (Warn (notice_with sender 14 0)) [] None ≡ Ok []
unfolding notices_of
of_utf8_text = refl

of_smtputf8 : notices_of double_bounce Bounce (Flush (notice_with sender 1 0)) [] None ≡ Err NeedsSmtputf8
unfolding notices_of
of_smtputf8 = refl

-- a notice keeps `TLS-Required: no`, with UTF-8 in the header or without
of_tls_optional : notices_of double_bounce Defer (Warn (notice_with sender 16 0)) [] None ≡ Ok []
unfolding notices_of
of_tls_optional = refl

of_tls_optional_and_utf8 : notices_of double_bounce Defer (Warn (notice_with sender 30 0)) [] None ≡ Ok []
unfolding notices_of
of_tls_optional_and_utf8 = refl

of_tls_optional_and_smtputf8 : notices_of double_bounce Bounce (Flush (notice_with sender 17 0)) [] None ≡ Err NeedsSmtputf8
unfolding notices_of
of_tls_optional_and_smtputf8 = refl

-- REQUIRETLS, and an unknown option; a message from the null sender requires nothing
of_require_tls_and_tls_optional : notices_of double_bounce Defer (Warn (notice_with sender 48 0)) [] None ≡ Err (SendOptions 48)
unfolding notices_of
of_require_tls_and_tls_optional = refl

of_require_tls : notices_of double_bounce Defer (Warn (notice_with sender 34 0)) [] None ≡ Err (SendOptions 34)
unfolding notices_of
of_require_tls = refl

of_unknown_option : notices_of double_bounce TraceLog (Trace (notice_with sender 64 0)) [] None ≡ Err (SendOptions 64)
unfolding notices_of
of_unknown_option = refl

of_nobody_with_options : notices_of double_bounce Bounce (Flush (notice_with [] 48 0)) [] None ≡ Ok []
unfolding notices_of
of_nobody_with_options = refl

-- a request about one recipient reports it, whatever the log
abbrev reported_as : List ℕ → ReportedRecipient
reported_as address = record { original = []; address = address; offset = 0; dsn_original = []; notify = 0 }

abbrev report : DeliveryReport
report = record { status = codes "5.1.1"; diagnostic_type = []; diagnostic = []; mta_type = []; mta = []; action = codes "failed"; reason = codes "no" }

of_one : notices_of double_bounce Bounce (One asked (reported_as (codes "a@example.org")) report) [] None ≡ Ok (telling Header Bounce (unasked ∷ []) ∷ [])
unfolding logged_of needs_no_quotes notices_of unlogged_of unsayable_field
of_one = refl

of_one_to_be_quoted : notices_of double_bounce Bounce (One asked (reported_as (codes "a b@example.org")) report) [] None ≡ Err (Unlogged Recipient)
unfolding logged_of needs_no_quotes notices_of unlogged_of
of_one_to_be_quoted = refl
