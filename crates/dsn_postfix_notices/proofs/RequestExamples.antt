-- Worked examples of requests that are carried out, each computed.
use Rattle.std.proofs.Common.{◌≡◌, ℕ, true, false, List, [], ◌∷◌, ◌++◌, codes, refl, Ok, Err, Result, Some, None, ap, subst, ◌∙◌}
use Rattle.std.specs.Fmt.{digits}
use Rattle.dsn_text.specs.declared.no_memory.NoMemory.{NoMemory}
use Rattle.dsn_text.specs.declared.service.Service.{Service}
use Rattle.dsn_text.specs.declared.service.Service.TheVariants.{Bounce, Defer}
use Rattle.dsn_postfix.specs.Attribute.{attribute_bytes}
use Rattle.dsn_postfix.specs.LoggedAppend.{logged_of, unlogged_field, unlogged_of}
use Rattle.dsn_postfix.specs.PostfixRequest.{IsRequestIn, postfix_request_bytes}
use Rattle.dsn_postfix.specs.QuotedAddress.{needs_no_quotes}
use Rattle.dsn_postfix.specs.declared.postfix_request.AppendRequest.{AppendRequest}
use Rattle.dsn_postfix.specs.declared.postfix_request.DeliveryReport.{DeliveryReport}
use Rattle.dsn_postfix.specs.declared.postfix_request.NoticeRequest.{NoticeRequest}
use Rattle.dsn_postfix.specs.declared.postfix_request.PostfixRequest.TheVariants.{Append, Flush, One, Trace, Verp, Warn}
use Rattle.dsn_postfix.specs.declared.postfix_request.ReportedRecipient.{ReportedRecipient}
use Rattle.dsn_postfix_files.specs.LogRecord.{unsayable_field}
use Rattle.dsn_postfix_files.specs.QueueRecord.{PlacedBytes}
use Rattle.dsn_postfix_notices.specs.declared.requests.deed_fault.DeedFault.TheVariants as fault
use Rattle.dsn_smtp.specs.declared.hand_in_fault.HandInFault.TheVariants.{Refused}
use Rattle.dsn_smtp.specs.declared.hand_in_step.HandInStep.TheVariants.{Recipient}
use Rattle.dsn_postfix_notices.specs.declared.requests.pass_reason.PassReason.{PassReason}
use Rattle.dsn_postfix_notices.specs.declared.requests.pass_reason.PassReason.TheVariants as reason
use Rattle.dsn_postfix_notices.specs.declared.requests.postmaster_copies.PostmasterCopies.{PostmasterCopies}
use Rattle.dsn_postfix_notices.specs.declared.requests.untold.Untold.{Untold}
use Rattle.dsn_postfix_notices.specs.declared.requests.untold.Untold.TheVariants as untold
use Rattle.dsn_postfix_notices.specs.requests.AnsweredRequest.{IsAnswered, first_flush, without_flags}
use Rattle.dsn_postfix_notices.specs.requests.AnsweredRequest as answered
use Rattle.dsn_postfix_notices.specs.requests.AppendDeeds.{IsAppended, record_bytes, tried, unsayable}
use Rattle.dsn_postfix_notices.specs.requests.CarriedOut.{IsCarriedOut, must_clean, task_of}
use Rattle.dsn_postfix_notices.specs.requests.Deed.{Answer, Appended, Deed, HandedIn, LogRead, LogReleased, LogRemoved, LogSought, MessageRead, PassedOn}
use Rattle.dsn_postfix_notices.specs.requests.Finishing.{is_removal_due}
use Rattle.dsn_postfix_notices.specs.requests.HandingIn.{refusal_of}
use Rattle.dsn_postfix_notices.specs.requests.MailFound.{log_unread, readings}
use Rattle.dsn_postfix_notices.specs.requests.NoticeDeeds.{EndsTelling, IsNotified, unread}
use Rattle.dsn_postfix_notices.specs.requests.PostmasterCopies.{is_copied}
use Rattle.dsn_postfix_notices.specs.requests.RequestLaws.{hand_ins}
use Rattle.dsn_postfix_notices.specs.requests.RequestLetters.{first_serial, message_said, next_serial, places_done}
use Rattle.dsn_postfix_notices.specs.requests.RequestStatus.{RequestAnswer, not_carried_out}
use Rattle.dsn_postfix_notices.specs.requests.Task.{SettingsSaid, Task, Terms}
use Rattle.dsn_report.specs.Site.{plain_site}

abbrev id : List ℕ
id = codes "6BB87A7E6A1"

abbrev asked : ℕ → NoticeRequest
asked flags = record {
  flags = flags;
  queue_name = codes "active";
  queue_id = id;
  encoding = [];
  names_sendopts = false;
  send_options = 0;
  sender = codes "ann@example.com";
  envelope_id = [];
  returns = 0;
}

abbrev bob : ReportedRecipient
bob = record {
  original = [];
  address = codes "bob@example.org";
  offset = 727;
  dsn_original = [];
  notify = 0;
}

abbrev refused : DeliveryReport
refused = record {
  status = codes "5.1.1";
  diagnostic_type = [];
  diagnostic = [];
  mta_type = [];
  mta = [];
  action = codes "failed";
  reason = codes "no";
}

abbrev append_with : ℕ → AppendRequest
append_with flags = record {
  flags = flags;
  queue_id = id;
  recipient = bob;
  report = refused;
}

-- ---- whole requests

abbrev settings_with : PostmasterCopies → SettingsSaid
settings_with copies = record {
  site = plain_site (codes "mx.example.net");
  double_bounce = codes "double-bounce@mx.example.net";
  lifetime = 432000;
  size_limit = 50000;
  copies = copies;
  threaded = false;
}

abbrev no_copies : PostmasterCopies
no_copies = record { bounce = false; double_bounce = false; delay = false }

abbrev terms_at : Service → ℕ → Terms
terms_at service serial = record {
  settings = settings_with no_copies;
  service = service;
  moment = 0;
  serial = serial;
}

abbrev task_of_one : ℕ → Task
task_of_one flags = task_of (terms_at Bounce 0) (One (asked flags) bob refused) (asked flags)

abbrev append_of_bob : Answer → Deed
append_of_bob answer = Appended Bounce id (record_bytes Bounce (append_with 1)) answer

sayable : unlogged_field Bounce (append_with 1) ≡ None
unfolding logged_of unlogged_of needs_no_quotes unsayable_field
sayable = refl

no_deed : (deed : Deed) → [] ≡ deed ∷ [] → ⊥
no_deed deed e = cc

-- an append that succeeded, of a request with CLEAN: one deed, and 0
append_done : IsCarriedOut (terms_at Bounce 0) (Append (append_with 1)) [] (Ok 0) (append_of_bob (Ok tt) ∷ [])
append_done = record {
  done = append_of_bob (Ok tt) ∷ [];
  cleaned = [];
  gained_are = refl;
  is_done = tried sayable (Ok tt) refl refl;
  clean = refl;
}

-- an append that failed: its log is removed after it
append_failed : IsCarriedOut (terms_at Bounce 0) (Append (append_with 1)) [] (Ok not_carried_out) (append_of_bob (Err fault.Failed) ∷ LogRemoved Bounce id (Ok tt) ∷ [])
append_failed = record {
  done = append_of_bob (Err fault.Failed) ∷ [];
  cleaned = LogRemoved Bounce id (Ok tt) ∷ [];
  gained_are = refl;
  is_done = tried sayable (Err fault.Failed) refl refl;
  clean = record { given = Ok tt; removed = refl };
}

-- an append without memory for its record: CLEAN is the only deed
append_without_memory : (refused : NoMemory) → IsCarriedOut (terms_at Bounce 0) (Append (append_with 1)) [] (Err refused) (LogRemoved Bounce id (Ok tt) ∷ [])
append_without_memory why = record {
  done = [];
  cleaned = LogRemoved Bounce id (Ok tt) ∷ [];
  gained_are = refl;
  is_done = (sayable, refl);
  clean = record { given = Ok tt; removed = refl };
}

-- no append is answered with a status before any deed
status_needs_a_deed : (status : ℕ) → IsAppended Bounce (append_with 1) [] (Ok status) [] → ⊥
status_needs_a_deed status (tried none given is comes) = absurd (no_deed (append_of_bob given) is)
status_needs_a_deed status (unsayable field some passes) = absurd (no_deed (PassedOn Bounce [] passes.given) passes.passed)

-- no request for notices that is left to Postfix's own service is answered before any deed
passing_needs_a_deed : (why : PassReason) (answer : RequestAnswer) → EndsTelling Bounce [] (Err (untold.PassedOn why)) answer [] → ⊥
passing_needs_a_deed why answer passes = no_deed (PassedOn Bounce [] passes.given) passes.passed

-- ---- copies for the postmaster

abbrev of_bounces : PostmasterCopies
of_bounces = record { bounce = true; double_bounce = false; delay = false }

abbrev of_double_bounces : PostmasterCopies
of_double_bounces = record { bounce = false; double_bounce = true; delay = false }

abbrev of_delays : PostmasterCopies
of_delays = record { bounce = false; double_bounce = false; delay = true }

abbrev asked_by : List ℕ → NoticeRequest
asked_by sender = record {
  flags = 0;
  queue_name = codes "active";
  queue_id = id;
  encoding = [];
  names_sendopts = false;
  send_options = 0;
  sender = sender;
  envelope_id = [];
  returns = 0;
}

failure_copied : is_copied (settings_with of_bounces) (Flush (asked_by (codes "ann@example.com"))) ≡ true
failure_copied = refl

failure_of_one_copied : is_copied (settings_with of_bounces) (One (asked_by (codes "ann@example.com")) bob refused) ≡ true
failure_of_one_copied = refl

failed_notice_copied : is_copied (settings_with of_double_bounces) (Flush (asked_by [])) ≡ true
failed_notice_copied = refl

-- `bounce` implies `2bounce`, and not the other way round
failed_notice_implied : is_copied (settings_with of_bounces) (Flush (asked_by [])) ≡ true
failed_notice_implied = refl

failure_not_implied : is_copied (settings_with of_double_bounces) (Flush (asked_by (codes "ann@example.com"))) ≡ false
failure_not_implied = refl

own_failure_dropped : is_copied (settings_with of_bounces) (Flush (asked_by (codes "Double-Bounce@mx.example.net"))) ≡ false
own_failure_dropped = refl

delay_copied : is_copied (settings_with of_delays) (Warn (asked_by (codes "ann@example.com"))) ≡ true
delay_copied = refl

delay_of_notice_copied : is_copied (settings_with of_delays) (Warn (asked_by [])) ≡ true
delay_of_notice_copied = refl

failure_is_no_delay : is_copied (settings_with of_delays) (Flush (asked_by (codes "ann@example.com"))) ≡ false
failure_is_no_delay = refl

delay_is_no_failure : is_copied (settings_with of_bounces) (Warn (asked_by (codes "ann@example.com"))) ≡ false
delay_is_no_failure = refl

report_copied : is_copied (settings_with of_double_bounces) (Trace (asked_by [])) ≡ true
report_copied = refl

-- of a report, `bounce` doesn't imply `2bounce`
report_not_implied : is_copied (settings_with of_bounces) (Trace (asked_by [])) ≡ false
report_not_implied = refl

success_not_copied : is_copied (settings_with of_bounces) (Trace (asked_by (codes "ann@example.com"))) ≡ false
success_not_copied = refl

abbrev copied_task : Task
copied_task = record {
  terms = record { settings = settings_with of_bounces; service = Bounce; moment = 0; serial = 0 };
  request = Flush (asked 0);
  notice = asked 0;
}

-- a flush with a copy is passed on with its own bytes: nothing is read, and no notice is submitted
copied_is_passed_on : IsNotified copied_task (codes "request") (Ok 0) (LogReleased ∷ PassedOn Bounce (codes "request") (Ok 0) ∷ [])
copied_is_passed_on = record {
  telling = Err (untold.PassedOn reason.Postmaster);
  told = [];
  last = PassedOn Bounce (codes "request") (Ok 0) ∷ [];
  gained_are = refl;
  tells = (refl, refl);
  ends = record { given = Ok 0; passed = refl; answer_is = refl };
}

-- and no notice of it can be submitted
copied_submits_none : (answer : RequestAnswer) (gained : List Deed) → IsNotified copied_task (codes "request") answer gained → hand_ins gained ≡ []
copied_submits_none answer gained is =
    let ends = subst (λ (telling : Result (Unit {0}) Untold). EndsTelling Bounce (codes "request") telling answer is.last) is.tells.0 is.ends in
    ap hand_ins (is.gained_are ∙ (λ i. is.tells.1 i ++ LogReleased ∷ ends.passed i))

-- ---- letters that are refused

first_refused_for_good : refusal_of true (Refused Recipient (codes "550")) ≡ untold.PassedOn reason.Refused
first_refused_for_good = refl

later_refused_for_good : refusal_of false (Refused Recipient (codes "550")) ≡ untold.Failed
later_refused_for_good = refl

first_refused_for_now : refusal_of true (Refused Recipient (codes "450")) ≡ untold.Failed
first_refused_for_now = refl

-- ---- the bounce log first

flush_of_deferred_has_a_first : first_flush Defer (Flush (asked 0)) ≡ Some (Flush (asked 0))
flush_of_deferred_has_a_first = refl

verp_of_deferred_has_a_first : first_flush Defer (Verp (asked 0) (codes "+=")) ≡ Some (Verp (asked 0) (codes "+="))
verp_of_deferred_has_a_first = refl

flush_of_bounced_has_no_first : first_flush Bounce (Flush (asked 3)) ≡ None
flush_of_bounced_has_no_first = refl

warning_has_no_first : first_flush Defer (Warn (asked 0)) ≡ None
warning_has_no_first = refl

-- CLEAN and DELRCPT stay with the defer log, and other flags are copied
first_without_flags : first_flush Defer (Flush (asked 3)) ≡ Some (Flush (asked 0))
first_without_flags = refl

first_with_others : first_flush Defer (Flush (asked 1026)) ≡ Some (Flush (asked 1024))
first_with_others = refl

-- the bytes of the flush, which are passed on: those of tests/postfix/flush-defer.bin except the flags and the texts
first_as_bytes : postfix_request_bytes (Flush (without_flags (asked 2)))
    ≡ codes "nrequest" ++ 0 ∷ codes "1" ++ 0 ∷ codes "flags" ++ 0 ∷ codes "0" ++ 0 ∷ codes "queue_name" ++ 0 ∷ codes "active" ++ 0
    ∷ codes "queue_id" ++ 0 ∷ codes "6BB87A7E6A1" ++ 0 ∷ codes "encoding" ++ 0 ∷ 0 ∷ codes "smtputf8" ++ 0 ∷ codes "0" ++ 0
    ∷ codes "sender" ++ 0 ∷ codes "ann@example.com" ++ 0 ∷ codes "envelope_id" ++ 0 ∷ 0 ∷ codes "ret_flags" ++ 0 ∷ codes "0" ++ 0 ∷ 0 ∷ []
unfolding digits postfix_request_bytes attribute_bytes
first_as_bytes = refl

-- a flush of a log that can't be read
unread_at : (service : Service) (bytes : List ℕ) (serial : ℕ) → IsCarriedOut (terms_at service serial) (Flush (asked 0)) bytes (Ok not_carried_out) (LogRead service id (Err fault.Failed) ∷ LogReleased ∷ [])
unread_at service bytes serial = record {
  done = LogRead service id (Err fault.Failed) ∷ LogReleased ∷ [];
  cleaned = [];
  gained_are = refl;
  is_done = record {
    telling = Err untold.Failed;
    told = LogRead service id (Err fault.Failed) ∷ [];
    last = [];
    gained_are = refl;
    tells = unread refl (log_unread fault.Failed refl refl);
    ends = (refl, refl);
  };
  clean = refl;
}

-- it can't be known whether there is a bounce log: nothing else is done, even with CLEAN
bounce_log_unknown : IsAnswered (terms_at Defer 0) (Flush (asked 1)) [] (Ok not_carried_out) (LogSought Bounce id (Err fault.Failed) ∷ [])
bounce_log_unknown = answered.put_off refl (answered.unsought fault.Failed refl refl)

-- the bounce log can't be read: neither log is changed, even with CLEAN
bounce_log_unread : (bytes : List ℕ) → IsRequestIn bytes (Flush (asked 0)) → IsAnswered (terms_at Defer 0) (Flush (asked 3)) [] (Ok not_carried_out) (LogSought Bounce id (Ok true) ∷ LogRead Bounce id (Err fault.Failed) ∷ LogReleased ∷ [])
bounce_log_unread bytes are =
    answered.put_off refl (answered.told (LogRead Bounce id (Err fault.Failed) ∷ LogReleased ∷ []) refl (answered.flushed bytes are (unread_at Bounce bytes 0)))

-- there is a bounce log, and no memory for the bytes of its flush
bounce_log_without_memory : (refused : NoMemory) → IsAnswered (terms_at Defer 0) (Flush (asked 3)) [] (Err refused) (LogSought Bounce id (Ok true) ∷ [])
bounce_log_without_memory why = answered.put_off refl (answered.told [] refl (answered.no_memory refl refl))

-- there is no bounce log: the defer log is read
defer_log_unread : IsAnswered (terms_at Defer 0) (Flush (asked 0)) [] (Ok not_carried_out) (LogSought Bounce id (Ok false) ∷ LogRead Defer id (Err fault.Failed) ∷ LogReleased ∷ [])
defer_log_unread = answered.in_turn (LogSought Bounce id (Ok false) ∷ []) (LogRead Defer id (Err fault.Failed) ∷ LogReleased ∷ []) refl (answered.no_log refl refl) (unread_at Defer [] 0)

-- a flush of the bounce log is preceded by no other
bounce_log_alone : IsAnswered (terms_at Bounce 0) (Flush (asked 0)) [] (Ok not_carried_out) (LogRead Bounce id (Err fault.Failed) ∷ LogReleased ∷ [])
bounce_log_alone = unread_at Bounce [] 0

-- ---- parts

clean_after_failure : must_clean (Flush (asked 3)) (Ok not_carried_out) ≡ true
clean_after_failure = refl

clean_without_memory : (refused : NoMemory) → must_clean (Flush (asked 3)) (Err refused) ≡ true
clean_without_memory why = refl

clean_not_after_0 : must_clean (Flush (asked 3)) (Ok 0) ≡ false
clean_not_after_0 = refl

no_clean : must_clean (Flush (asked 2)) (Ok not_carried_out) ≡ false
no_clean = refl

flush_removes : is_removal_due (Flush (asked 0)) (Some []) ≡ true
flush_removes = refl

verp_removes : is_removal_due (Verp (asked 0) (codes "+=")) (Some []) ≡ true
verp_removes = refl

trace_removes : is_removal_due (Trace (asked 0)) (Some []) ≡ true
trace_removes = refl

warning_keeps : is_removal_due (Warn (asked 0)) (Some []) ≡ false
warning_keeps = refl

no_log_to_remove : is_removal_due (Trace (asked 0)) None ≡ false
no_log_to_remove = refl

-- the sender is that of the queue file: if a request names the owner of a list, the file names who wrote to the list
abbrev from_ann : List PlacedBytes
from_ann = record { place = 0; kind = 83; bytes = codes "ann@example.com" } ∷ []

abbrev for_owner : NoticeRequest
for_owner = record {
  flags = 0;
  queue_name = codes "active";
  queue_id = id;
  encoding = [];
  names_sendopts = false;
  send_options = 0;
  sender = codes "owner-list@example.com";
  envelope_id = [];
  returns = 0;
}

sender_of_file : (message_said (task_of (terms_at Bounce 0) (Flush for_owner) for_owner) from_ann).sender ≡ codes "ann@example.com"
sender_of_file = refl

sender_of_request : (message_said (task_of (terms_at Bounce 0) (Flush for_owner) for_owner) []).sender ≡ codes "owner-list@example.com"
sender_of_request = refl

-- DELRCPT, of a request about one recipient
one_marked : places_done (task_of_one 2) None ≡ 727 ∷ []
one_marked = refl

one_unmarked : places_done (task_of_one 1) None ≡ []
one_unmarked = refl

log_read_first : readings (task_of (terms_at Defer 0) (Warn (asked 0)) (asked 0)) (record { log = None; file = codes "E" })
    ≡ LogRead Defer id (Ok None) ∷ MessageRead (codes "active") id (Ok (codes "E")) ∷ []
log_read_first = refl

no_log_read : readings (task_of_one 0) (record { log = None; file = codes "E" })
    ≡ MessageRead (codes "active") id (Ok (codes "E")) ∷ []
no_log_read = refl

only_hand_ins : hand_ins (LogRead Bounce id (Ok None) ∷ HandedIn (codes "a@b") [] (Ok []) ∷ LogReleased ∷ []) ≡ HandedIn (codes "a@b") [] (Ok []) ∷ []
only_hand_ins = refl

serials_begin_again : next_serial 18446744073709551615 ≡ 0
serials_begin_again = refl

serials_follow : next_serial 7 ≡ 8
serials_follow = refl

-- the serials of a log, and of the same log after it has grown by a byte
abbrev task_at : Service → Task
task_at service = task_of (terms_at service 7) (Flush (asked 0)) (asked 0)

serial_of_bounce_log : first_serial (task_at Bounce) (Some (codes "abc")) ≡ 3000000
serial_of_bounce_log = refl

serial_of_grown_log : first_serial (task_at Bounce) (Some (codes "abcd")) ≡ 4000000
serial_of_grown_log = refl

serial_of_defer_log : first_serial (task_at Defer) (Some (codes "abc")) ≡ 3500000
serial_of_defer_log = refl

serial_without_log : first_serial (task_of_one 0) None ≡ 0
serial_without_log = refl
