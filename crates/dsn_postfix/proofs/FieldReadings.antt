-- The parts of requests: what was read is what was written, and what was written is read again.
use Rattle.std.proofs.Common.{◌≡◌, ℕ, zero, suc, ◌<◌, ◌≤◌, ◌^◌, Bool, true, false, ◌&&◌, List, [], ◌∷◌, ◌++◌, drop, Result, Ok, Err, refl, ap, subst, ◌∙◌, sym, append_assoc, arith}
use Rattle.std.specs.Prelude.{codes}
use Rattle.std.specs.List.{flat_map, list_all}
use Rattle.std.proofs.Math.Dec.{eqb-suc-zero}
use Rattle.dsn_text.specs.Text.{is_letter_or_digit, is_queue_id, is_text}
use Rattle.dsn_postfix.specs.Attribute.{Attribute, attribute_bytes, number_attribute, number_limit, offset_limit, text_attribute}
use Rattle.dsn_postfix_files.specs.ZeroFree.{IsZeroFree}
use Rattle.dsn_postfix.specs.AttributeValues.{is_queue_name}
use Rattle.dsn_postfix.specs.PostfixRequest.{FitsNotice, FitsRecipient, FitsReport, notice_attributes, recipient_attributes, report_attributes, send_options_name}
use Rattle.dsn_postfix.specs.RequestReading.{◌>>>◌, is_sendopts_next, notice_request_at, recipient_at, report_at, tested_at, attribute_at, value_number_at}
use Rattle.dsn_postfix.specs.declared.postfix_request.DeliveryReport.{DeliveryReport}
use Rattle.dsn_postfix.specs.declared.postfix_request.NoticeRequest.{NoticeRequest}
use Rattle.dsn_postfix.specs.declared.postfix_request.ReportedRecipient.{ReportedRecipient}
use Rattle.dsn_postfix.specs.declared.request_fault.RequestFault.{RequestFault}
use Rattle.dsn_postfix.specs.declared.request_fault.RequestFault.TheVariants.{QueueName, QueueId}
use Rattle.dsn_postfix.proofs.AttributeLaws.{IsName, bind_ok, number_again_attribute, number_takes_attribute, ok_is, tested_again, tested_takes, value_again, value_takes}

-- ---- attributes, and what follows them

abbrev pub listed : List Attribute → List ℕ → List ℕ
listed attributes rest = flat_map attribute_bytes attributes ++ rest

pub listed_more : (a : Attribute) (attributes : List Attribute) (bytes between rest : List ℕ) → bytes ≡ attribute_bytes a ++ between → between ≡ listed attributes rest → bytes ≡ listed (a ∷ attributes) rest
listed_more a attributes bytes between rest first others =
    first ∙ ap (λ (w : List ℕ). attribute_bytes a ++ w) others ∙ sym (append_assoc (attribute_bytes a) (flat_map attribute_bytes attributes) rest)

pub listed_both : (front back : List Attribute) (rest : List ℕ) → listed (front ++ back) rest ≡ listed front (listed back rest)
listed_both [] back rest = refl
listed_both (a ∷ front) back rest =
    append_assoc (attribute_bytes a) (flat_map attribute_bytes (front ++ back)) rest ∙ ap (λ (w : List ℕ). attribute_bytes a ++ w) (listed_both front back rest)
    ∙ sym (append_assoc (attribute_bytes a) (flat_map attribute_bytes front) (listed back rest))

pub value_listed : (name value : List ℕ) (attributes : List Attribute) (rest : List ℕ) → IsName name → IsZeroFree value → attribute_at name (listed (text_attribute name value ∷ attributes) rest) ≡ Ok (value, listed attributes rest)
value_listed name value attributes rest is free =
    ap (attribute_at name) (append_assoc (attribute_bytes (text_attribute name value)) (flat_map attribute_bytes attributes) rest) ∙ value_again name value (listed attributes rest) is free

pub number_listed : (limit : ℕ) (name : List ℕ) (n : ℕ) (attributes : List Attribute) (rest : List ℕ) → IsName name → n < limit → limit ≤ 2 ^ 64 → value_number_at limit name (listed (number_attribute name n ∷ attributes) rest) ≡ Ok (n, listed attributes rest)
number_listed limit name n attributes rest is low few =
    ap (value_number_at limit name) (append_assoc (attribute_bytes (number_attribute name n)) (flat_map attribute_bytes attributes) rest) ∙ number_again_attribute limit name n (listed attributes rest) is low few

pub tested_listed : (test : List ℕ → Bool) (fault : RequestFault) (name text : List ℕ) (attributes : List Attribute) (rest : List ℕ) → IsName name → IsZeroFree text → test text ≡ true → tested_at test fault name (listed (text_attribute name text ∷ attributes) rest) ≡ Ok (text, listed attributes rest)
tested_listed test fault name text attributes rest is free passes =
    ap (tested_at test fault name) (append_assoc (attribute_bytes (text_attribute name text)) (flat_map attribute_bytes attributes) rest) ∙ tested_again test fault name text (listed attributes rest) is free passes

-- ---- texts with a form

pub second : (a b : Bool) → a && b ≡ true → b ≡ true
second true b e = e
second false b e = absurd cc

all_letters_free : (text : List ℕ) → list_all is_letter_or_digit text ≡ true → IsZeroFree text
all_letters_free [] letters = refl
all_letters_free (zero ∷ text) letters = absurd cc
all_letters_free (suc byte ∷ text) letters = rw (eqb-suc-zero byte) (all_letters_free text (second (is_letter_or_digit (suc byte)) (list_all is_letter_or_digit text) letters))

pub letters_free : (least most : ℕ) (text : List ℕ) → is_text is_letter_or_digit least most text ≡ true → IsZeroFree text
letters_free least most text e = all_letters_free text (second _ (list_all is_letter_or_digit text) e)

pub send_options_is_name : (newer : Bool) → IsName (send_options_name newer)
send_options_is_name false = record { some = omega arith; free = refl }
send_options_is_name true = record { some = omega arith; free = refl }

-- the name of the send options is the one that is looked for
sendopts_listed : (newer : Bool) (n : ℕ) (attributes : List Attribute) (rest : List ℕ) → is_sendopts_next (listed (number_attribute (send_options_name newer) n ∷ attributes) rest) ≡ newer
unfolding is_sendopts_next attribute_bytes
sendopts_listed false n attributes rest = refl
sendopts_listed true n attributes rest = refl

-- ---- recipients, reports and notices

pub recipient_takes : (bytes : List ℕ) (recipient : ReportedRecipient) (rest : List ℕ) → recipient_at bytes ≡ Ok (recipient, rest) → (bytes ≡ listed (recipient_attributes recipient) rest) × FitsRecipient recipient
unfolding recipient_at
recipient_takes bytes recipient rest e =
    let original = bind_ok (attribute_at (codes "original_recipient") bytes) _ (recipient, rest) e in
    let original_part = value_takes (codes "original_recipient") bytes original.0.0 original.0.1 original.1 in
    let address = bind_ok (attribute_at (codes "recipient") original.0.1) _ (recipient, rest) original.2 in
    let address_part = value_takes (codes "recipient") original.0.1 address.0.0 address.0.1 address.1 in
    let offset = bind_ok (value_number_at offset_limit (codes "offset") address.0.1) _ (recipient, rest) address.2 in
    let offset_part = number_takes_attribute offset_limit (codes "offset") address.0.1 offset.0.0 offset.0.1 offset.1 in
    let dsn_original = bind_ok (attribute_at (codes "dsn_orig_rcpt") offset.0.1) _ (recipient, rest) offset.2 in
    let dsn_original_part = value_takes (codes "dsn_orig_rcpt") offset.0.1 dsn_original.0.0 dsn_original.0.1 dsn_original.1 in
    let notify = bind_ok (value_number_at number_limit (codes "notify_flags") dsn_original.0.1) _ (recipient, rest) dsn_original.2 in
    let notify_part = number_takes_attribute number_limit (codes "notify_flags") dsn_original.0.1 notify.0.0 notify.0.1 notify.1 in
    let read : ReportedRecipient = record { original = original.0.0; address = address.0.0; offset = offset.0.0; dsn_original = dsn_original.0.0; notify = notify.0.0 } in
    let fits : FitsRecipient read = record { original = original_part.1; address = address_part.1; offset = offset_part.1; dsn_original = dsn_original_part.1; notify = notify_part.1 } in
    let parts : bytes ≡ listed (recipient_attributes read) notify.0.1 = listed_more (text_attribute (codes "original_recipient") original.0.0) (drop 1 (recipient_attributes read)) bytes original.0.1 notify.0.1 original_part.0 (listed_more (text_attribute (codes "recipient") address.0.0) (drop 2 (recipient_attributes read)) original.0.1 address.0.1 notify.0.1 address_part.0 (listed_more (number_attribute (codes "offset") offset.0.0) (drop 3 (recipient_attributes read)) address.0.1 offset.0.1 notify.0.1 offset_part.0 (listed_more (text_attribute (codes "dsn_orig_rcpt") dsn_original.0.0) (drop 4 (recipient_attributes read)) offset.0.1 dsn_original.0.1 notify.0.1 dsn_original_part.0 (listed_more (number_attribute (codes "notify_flags") notify.0.0) (drop 5 (recipient_attributes read)) dsn_original.0.1 notify.0.1 notify.0.1 notify_part.0 (refl))))) in
    subst (λ (p : ReportedRecipient × List ℕ). (bytes ≡ listed (recipient_attributes p.0) p.1) × FitsRecipient p.0) (ok_is (read, notify.0.1) (recipient, rest) notify.2) (parts, fits)

pub recipient_again : (recipient : ReportedRecipient) (rest : List ℕ) → FitsRecipient recipient → recipient_at (listed (recipient_attributes recipient) rest) ≡ Ok (recipient, rest)
unfolding recipient_at
recipient_again recipient rest fits =
    rw (
      value_listed (codes "original_recipient") recipient.original (drop 1 (recipient_attributes recipient)) rest (record { some = omega arith; free = refl }) fits.original,
      value_listed (codes "recipient") recipient.address (drop 2 (recipient_attributes recipient)) rest (record { some = omega arith; free = refl }) fits.address,
      number_listed offset_limit (codes "offset") recipient.offset (drop 3 (recipient_attributes recipient)) rest (record { some = omega arith; free = refl }) fits.offset (omega arith),
      value_listed (codes "dsn_orig_rcpt") recipient.dsn_original (drop 4 (recipient_attributes recipient)) rest (record { some = omega arith; free = refl }) fits.dsn_original,
      number_listed number_limit (codes "notify_flags") recipient.notify (drop 5 (recipient_attributes recipient)) rest (record { some = omega arith; free = refl }) fits.notify (omega arith),
    ) refl

pub report_takes : (bytes : List ℕ) (report : DeliveryReport) (rest : List ℕ) → report_at bytes ≡ Ok (report, rest) → (bytes ≡ listed (report_attributes report) rest) × FitsReport report
unfolding report_at
report_takes bytes report rest e =
    let status = bind_ok (attribute_at (codes "status") bytes) _ (report, rest) e in
    let status_part = value_takes (codes "status") bytes status.0.0 status.0.1 status.1 in
    let diagnostic_type = bind_ok (attribute_at (codes "diag_type") status.0.1) _ (report, rest) status.2 in
    let diagnostic_type_part = value_takes (codes "diag_type") status.0.1 diagnostic_type.0.0 diagnostic_type.0.1 diagnostic_type.1 in
    let diagnostic = bind_ok (attribute_at (codes "diag_text") diagnostic_type.0.1) _ (report, rest) diagnostic_type.2 in
    let diagnostic_part = value_takes (codes "diag_text") diagnostic_type.0.1 diagnostic.0.0 diagnostic.0.1 diagnostic.1 in
    let mta_type = bind_ok (attribute_at (codes "mta_type") diagnostic.0.1) _ (report, rest) diagnostic.2 in
    let mta_type_part = value_takes (codes "mta_type") diagnostic.0.1 mta_type.0.0 mta_type.0.1 mta_type.1 in
    let mta = bind_ok (attribute_at (codes "mta_mname") mta_type.0.1) _ (report, rest) mta_type.2 in
    let mta_part = value_takes (codes "mta_mname") mta_type.0.1 mta.0.0 mta.0.1 mta.1 in
    let action = bind_ok (attribute_at (codes "action") mta.0.1) _ (report, rest) mta.2 in
    let action_part = value_takes (codes "action") mta.0.1 action.0.0 action.0.1 action.1 in
    let reason = bind_ok (attribute_at (codes "reason") action.0.1) _ (report, rest) action.2 in
    let reason_part = value_takes (codes "reason") action.0.1 reason.0.0 reason.0.1 reason.1 in
    let read : DeliveryReport = record { status = status.0.0; diagnostic_type = diagnostic_type.0.0; diagnostic = diagnostic.0.0; mta_type = mta_type.0.0; mta = mta.0.0; action = action.0.0; reason = reason.0.0 } in
    let fits : FitsReport read = record { status = status_part.1; diagnostic_type = diagnostic_type_part.1; diagnostic = diagnostic_part.1; mta_type = mta_type_part.1; mta = mta_part.1; action = action_part.1; reason = reason_part.1 } in
    let parts : bytes ≡ listed (report_attributes read) reason.0.1 = listed_more (text_attribute (codes "status") status.0.0) (drop 1 (report_attributes read)) bytes status.0.1 reason.0.1 status_part.0 (listed_more (text_attribute (codes "diag_type") diagnostic_type.0.0) (drop 2 (report_attributes read)) status.0.1 diagnostic_type.0.1 reason.0.1 diagnostic_type_part.0 (listed_more (text_attribute (codes "diag_text") diagnostic.0.0) (drop 3 (report_attributes read)) diagnostic_type.0.1 diagnostic.0.1 reason.0.1 diagnostic_part.0 (listed_more (text_attribute (codes "mta_type") mta_type.0.0) (drop 4 (report_attributes read)) diagnostic.0.1 mta_type.0.1 reason.0.1 mta_type_part.0 (listed_more (text_attribute (codes "mta_mname") mta.0.0) (drop 5 (report_attributes read)) mta_type.0.1 mta.0.1 reason.0.1 mta_part.0 (listed_more (text_attribute (codes "action") action.0.0) (drop 6 (report_attributes read)) mta.0.1 action.0.1 reason.0.1 action_part.0 (listed_more (text_attribute (codes "reason") reason.0.0) (drop 7 (report_attributes read)) action.0.1 reason.0.1 reason.0.1 reason_part.0 (refl))))))) in
    subst (λ (p : DeliveryReport × List ℕ). (bytes ≡ listed (report_attributes p.0) p.1) × FitsReport p.0) (ok_is (read, reason.0.1) (report, rest) reason.2) (parts, fits)

pub report_again : (report : DeliveryReport) (rest : List ℕ) → FitsReport report → report_at (listed (report_attributes report) rest) ≡ Ok (report, rest)
unfolding report_at
report_again report rest fits =
    rw (
      value_listed (codes "status") report.status (drop 1 (report_attributes report)) rest (record { some = omega arith; free = refl }) fits.status,
      value_listed (codes "diag_type") report.diagnostic_type (drop 2 (report_attributes report)) rest (record { some = omega arith; free = refl }) fits.diagnostic_type,
      value_listed (codes "diag_text") report.diagnostic (drop 3 (report_attributes report)) rest (record { some = omega arith; free = refl }) fits.diagnostic,
      value_listed (codes "mta_type") report.mta_type (drop 4 (report_attributes report)) rest (record { some = omega arith; free = refl }) fits.mta_type,
      value_listed (codes "mta_mname") report.mta (drop 5 (report_attributes report)) rest (record { some = omega arith; free = refl }) fits.mta,
      value_listed (codes "action") report.action (drop 6 (report_attributes report)) rest (record { some = omega arith; free = refl }) fits.action,
      value_listed (codes "reason") report.reason (drop 7 (report_attributes report)) rest (record { some = omega arith; free = refl }) fits.reason,
    ) refl

pub with_read : {A B P : Type 0} (r : Result A RequestFault) (f : A → Result B RequestFault) (y : B) → (r >>> f) ≡ Ok y → ((x : A) → r ≡ Ok x → f x ≡ Ok y → P) → P
with_read (Ok x) f y e next = next x refl e
with_read (Err d) f y e next = absurd cc

notice_listed : (notice : NoticeRequest) (bytes after_flags after_queue_name after_queue_id after_encoding after_send_options after_sender after_envelope_id after_returns : List ℕ)
    → bytes ≡ attribute_bytes (number_attribute (codes "flags") notice.flags) ++ after_flags
    → after_flags ≡ attribute_bytes (text_attribute (codes "queue_name") notice.queue_name) ++ after_queue_name
    → after_queue_name ≡ attribute_bytes (text_attribute (codes "queue_id") notice.queue_id) ++ after_queue_id
    → after_queue_id ≡ attribute_bytes (text_attribute (codes "encoding") notice.encoding) ++ after_encoding
    → after_encoding ≡ attribute_bytes (number_attribute (send_options_name notice.names_sendopts) notice.send_options) ++ after_send_options
    → after_send_options ≡ attribute_bytes (text_attribute (codes "sender") notice.sender) ++ after_sender
    → after_sender ≡ attribute_bytes (text_attribute (codes "envelope_id") notice.envelope_id) ++ after_envelope_id
    → after_envelope_id ≡ attribute_bytes (number_attribute (codes "ret_flags") notice.returns) ++ after_returns
    → bytes ≡ listed (notice_attributes notice) after_returns
notice_listed notice bytes after_flags after_queue_name after_queue_id after_encoding after_send_options after_sender after_envelope_id after_returns flags_part queue_name_part queue_id_part encoding_part send_options_part sender_part envelope_id_part returns_part =
    listed_more (number_attribute (codes "flags") notice.flags) (drop 1 (notice_attributes notice)) bytes after_flags after_returns flags_part
    (listed_more (text_attribute (codes "queue_name") notice.queue_name) (drop 2 (notice_attributes notice)) after_flags after_queue_name after_returns queue_name_part
    (listed_more (text_attribute (codes "queue_id") notice.queue_id) (drop 3 (notice_attributes notice)) after_queue_name after_queue_id after_returns queue_id_part
    (listed_more (text_attribute (codes "encoding") notice.encoding) (drop 4 (notice_attributes notice)) after_queue_id after_encoding after_returns encoding_part
    (listed_more (number_attribute (send_options_name notice.names_sendopts) notice.send_options) (drop 5 (notice_attributes notice)) after_encoding after_send_options after_returns send_options_part
    (listed_more (text_attribute (codes "sender") notice.sender) (drop 6 (notice_attributes notice)) after_send_options after_sender after_returns sender_part
    (listed_more (text_attribute (codes "envelope_id") notice.envelope_id) (drop 7 (notice_attributes notice)) after_sender after_envelope_id after_returns envelope_id_part
    (listed_more (number_attribute (codes "ret_flags") notice.returns) (drop 8 (notice_attributes notice)) after_envelope_id after_returns after_returns returns_part
    (refl))))))))

same_notice : (bytes : List ℕ) (read notice : NoticeRequest) (after rest : List ℕ) → ◌≡◌ {A = NoticeRequest × List ℕ} (read, after) (notice, rest) → bytes ≡ listed (notice_attributes read) after → FitsNotice read → (bytes ≡ listed (notice_attributes notice) rest) × FitsNotice notice
same_notice bytes read notice after rest same parts fits =
    subst (λ (p : NoticeRequest × List ℕ). (bytes ≡ listed (notice_attributes p.0) p.1) × FitsNotice p.0) same (parts, fits)

pub notice_takes : (bytes : List ℕ) (notice : NoticeRequest) (rest : List ℕ) → notice_request_at bytes ≡ Ok (notice, rest) → (bytes ≡ listed (notice_attributes notice) rest) × FitsNotice notice
unfolding notice_request_at
notice_takes bytes notice rest e =
    with_read (value_number_at number_limit (codes "flags") bytes) _ (notice, rest) e (λ flags flags_is after_flags.
    with_read (tested_at is_queue_name QueueName (codes "queue_name") flags.1) _ (notice, rest) after_flags (λ queue_name queue_name_is after_queue_name.
    with_read (tested_at is_queue_id QueueId (codes "queue_id") queue_name.1) _ (notice, rest) after_queue_name (λ queue_id queue_id_is after_queue_id.
    with_read (attribute_at (codes "encoding") queue_id.1) _ (notice, rest) after_queue_id (λ encoding encoding_is after_encoding.
    with_read (value_number_at number_limit (send_options_name (is_sendopts_next encoding.1)) encoding.1) _ (notice, rest) after_encoding (λ send_options send_options_is after_send_options.
    with_read (attribute_at (codes "sender") send_options.1) _ (notice, rest) after_send_options (λ sender sender_is after_sender.
    with_read (attribute_at (codes "envelope_id") sender.1) _ (notice, rest) after_sender (λ envelope_id envelope_id_is after_envelope_id.
    with_read (value_number_at number_limit (codes "ret_flags") envelope_id.1) _ (notice, rest) after_envelope_id (λ returns returns_is after_returns.
    same_notice bytes (record { flags = flags.0; queue_name = queue_name.0; queue_id = queue_id.0; encoding = encoding.0; names_sendopts = is_sendopts_next encoding.1; send_options = send_options.0; sender = sender.0; envelope_id = envelope_id.0; returns = returns.0 }) notice returns.1 rest (ok_is _ _ after_returns)
    (notice_listed _ bytes flags.1 queue_name.1 queue_id.1 encoding.1 send_options.1 sender.1 envelope_id.1 returns.1
    (number_takes_attribute number_limit (codes "flags") bytes flags.0 flags.1 flags_is).0
    (tested_takes is_queue_name QueueName (codes "queue_name") flags.1 queue_name.0 queue_name.1 queue_name_is).0
    (tested_takes is_queue_id QueueId (codes "queue_id") queue_name.1 queue_id.0 queue_id.1 queue_id_is).0
    (value_takes (codes "encoding") queue_id.1 encoding.0 encoding.1 encoding_is).0
    (number_takes_attribute number_limit (send_options_name (is_sendopts_next encoding.1)) encoding.1 send_options.0 send_options.1 send_options_is).0
    (value_takes (codes "sender") send_options.1 sender.0 sender.1 sender_is).0
    (value_takes (codes "envelope_id") sender.1 envelope_id.0 envelope_id.1 envelope_id_is).0
    (number_takes_attribute number_limit (codes "ret_flags") envelope_id.1 returns.0 returns.1 returns_is).0
    )
    (record {
      flags = (number_takes_attribute number_limit (codes "flags") bytes flags.0 flags.1 flags_is).1;
      queue_name = (tested_takes is_queue_name QueueName (codes "queue_name") flags.1 queue_name.0 queue_name.1 queue_name_is).1;
      queue_id = (tested_takes is_queue_id QueueId (codes "queue_id") queue_name.1 queue_id.0 queue_id.1 queue_id_is).1;
      encoding = (value_takes (codes "encoding") queue_id.1 encoding.0 encoding.1 encoding_is).1;
      send_options = (number_takes_attribute number_limit (send_options_name (is_sendopts_next encoding.1)) encoding.1 send_options.0 send_options.1 send_options_is).1;
      sender = (value_takes (codes "sender") send_options.1 sender.0 sender.1 sender_is).1;
      envelope_id = (value_takes (codes "envelope_id") sender.1 envelope_id.0 envelope_id.1 envelope_id_is).1;
      returns = (number_takes_attribute number_limit (codes "ret_flags") envelope_id.1 returns.0 returns.1 returns_is).1;
    })))))))))

pub notice_again : (notice : NoticeRequest) (rest : List ℕ) → FitsNotice notice → notice_request_at (listed (notice_attributes notice) rest) ≡ Ok (notice, rest)
unfolding notice_request_at
notice_again notice rest fits =
    rw (
      number_listed number_limit (codes "flags") notice.flags (drop 1 (notice_attributes notice)) rest (record { some = omega arith; free = refl }) fits.flags (omega arith),
      tested_listed is_queue_name QueueName (codes "queue_name") notice.queue_name (drop 2 (notice_attributes notice)) rest (record { some = omega arith; free = refl }) (letters_free 1 100 notice.queue_name fits.queue_name) fits.queue_name,
      tested_listed is_queue_id QueueId (codes "queue_id") notice.queue_id (drop 3 (notice_attributes notice)) rest (record { some = omega arith; free = refl }) (letters_free 1 32 notice.queue_id fits.queue_id) fits.queue_id,
      value_listed (codes "encoding") notice.encoding (drop 4 (notice_attributes notice)) rest (record { some = omega arith; free = refl }) fits.encoding,
      sendopts_listed notice.names_sendopts notice.send_options (drop 5 (notice_attributes notice)) rest,
      number_listed number_limit (send_options_name notice.names_sendopts) notice.send_options (drop 5 (notice_attributes notice)) rest (send_options_is_name notice.names_sendopts) fits.send_options (omega arith),
      value_listed (codes "sender") notice.sender (drop 6 (notice_attributes notice)) rest (record { some = omega arith; free = refl }) fits.sender,
      value_listed (codes "envelope_id") notice.envelope_id (drop 7 (notice_attributes notice)) rest (record { some = omega arith; free = refl }) fits.envelope_id,
      number_listed number_limit (codes "ret_flags") notice.returns (drop 8 (notice_attributes notice)) rest (record { some = omega arith; free = refl }) fits.returns (omega arith),
    ) refl
