-- Requests in bytes: the bytes that a legal body is written as encode it, and fit a frame.
use Rattle.std.proofs.Common.{◌≡◌, ℕ, ◌+◌, ◌^◌, ◌<◌, ◌≤◌, Bool, true, false, List, [], ◌∷◌, ◌++◌, length, Option, Some, None, refl, sym, ap, subst, ◌∙◌, arith}
use Rattle.std.specs.Prelude.{◌≢◌, nat_le, is_none, IsSome, ◌==◌, ◌&&◌, if◌then◌else◌, unwrap_or, is_some}
use Rattle.std.specs.Int.{w16, w32, w64, to_be_bytes}
use Rattle.std.specs.List.{list_all}
use Rattle.std.proofs.lemmas.Bool.Decides.{nat_tests}
use Rattle.std.proofs.lemmas.Bool.{and_parts, eqb-true, false≢true, leb-true, le-leb, ltb-true}
use Rattle.std.proofs.lemmas.List.{length-append, nil_from_length}
use Rattle.dsn_text.specs.Action.{action_byte, action_of_byte}
use Rattle.dsn_outcome.specs.Draft.{Draft, first_draft_fault, is_count}
use Rattle.dsn_outcome.specs.inner.Draft.{IsLegalDraft}
use Rattle.dsn_outcome.specs.declared.draft_fault.DraftFault.TheVariants as drafts
use Rattle.dsn_frame.specs.bodies.BodyFault.{draft_refusal}
use Rattle.dsn_frame.specs.declared.bodies.body_fault.BodyFault.TheVariants as faults
use Rattle.dsn_outcome.specs.Returned.{returned_byte, returned_of_byte}
use Rattle.dsn_outcome.specs.Wording.{wording_byte, wording_of_byte}
use Rattle.dsn_outcome.specs.declared.returned.Returned.{Returned}
use Rattle.dsn_outcome.specs.declared.returned.Returned.TheVariants.{Header, Message, EightBitMessage}
use Rattle.dsn_outcome.specs.declared.wording.Wording.{Wording}
use Rattle.dsn_outcome.specs.declared.wording.Wording.TheVariants.{ByService, ByOutcome}
use Rattle.dsn_outcome.specs.Outcome.{Outcome, Fields, IsLegalOutcome, IsOutcomeOf, first_failed, first_outcome_fault, is_type_of}
use Rattle.dsn_text.specs.Optional.{is_none_or, unless_empty}
use Rattle.dsn_outcome.specs.Request.{Body, Append, Flush, Discard, Forget}
use Rattle.dsn_text.specs.Service.{service_byte, service_of_byte}
use Rattle.dsn_text.specs.Stamp.{is_moment, last_moment}
use Rattle.dsn_text.specs.Status.{is_status_code}
use Rattle.dsn_text.specs.inner.Kept.{longest_status}
use Rattle.dsn_text.specs.Text.{is_text, is_printable, is_queue_id, is_address, is_mta_name, is_type_name, is_envelope_id, is_remark, clean_text, is_letter_or_digit, is_address_byte, is_atom_byte, is_visible, longest_queue_id, longest_address, longest_mta_name, longest_type_name, longest_envelope_id, longest_header, longest_clean}
use Rattle.dsn_text.specs.declared.action.Action.{Action}
use Rattle.dsn_text.specs.declared.action.Action.TheVariants.{Failed, Delayed, Delivered, Relayed, Expanded}
use Rattle.dsn_text.specs.declared.key.Key.{Key}
use Rattle.dsn_text.specs.declared.service.Service.{Service}
use Rattle.dsn_text.specs.declared.service.Service.TheVariants.{Bounce, Defer, Trace}
use Rattle.dsn_text.specs.Extension.{is_extension_text, longest_extension_text}
use Rattle.dsn_text.proofs.ExtensionLemmas.{extension_text_read}
use Rattle.dsn_text.proofs.StatusLemmas.{IsStatusCode-test, length-IsStatusCode}
use Rattle.dsn_frame.specs.bodies.FrameBody.{IsFrameBody}
use Rattle.dsn_frame.specs.bodies.Request.{text_or_empty, head_for, fields_for, no_moment, moment_if_any, moment_or_none, outcome_fields, usual_types, undated_fields, dated_fields, typed_fields, retry_fields_for, type_fields_for, has_usual_types, append_written_as, any_count, count_if_any, count_or_any, flush_fields_for, flush_written_as, are_usual, usual_wishes, wish_fields_for, draft_of, flush_checks, first_own_fault, StandsFor, Encodes}
use Rattle.dsn_frame.specs.inner.BodyParts.{IsWritten}
use Rattle.dsn_frame.specs.bodies.Wire.{Head, RecipientFields, RetryFields, TypeFields, FlushFields, WishFields, WireBody, AppendFields, DatedAppendFields, TypedAppendFields, FlushFieldsOf, CountedFlushFields, DiscardFields, ForgetFields, head_of, own_bytes, body_bytes, number_bytes, text_bytes, head_bytes, append_bytes, retry_bytes, type_bytes, flush_bytes, wish_bytes, counted_flush_bytes, FitsAppend, FitsTypes, FitsFlush, FitsWishes, FitsOwn}

-- ---- texts

-- the bound that a text's form sets on its length
text-short : (test : ℕ → Bool) (least most : ℕ) (text : List ℕ) → is_text test least most text ≡ true → length text ≤ most
text-short test least most text legal = leb-true _ _ (and_parts _ _ (and_parts _ _ legal).0).1

queue-id-short : (id : List ℕ) → is_queue_id id ≡ true → length id ≤ longest_queue_id
queue-id-short = text-short is_letter_or_digit 1 longest_queue_id

address-short : (address : List ℕ) → is_address address ≡ true → length address ≤ longest_address
address-short = text-short is_address_byte 1 longest_address

type-name-short : (name : List ℕ) → is_type_name name ≡ true → length name ≤ longest_type_name
type-name-short = text-short is_atom_byte 1 longest_type_name

mta-name-short : (name : List ℕ) → is_mta_name name ≡ true → length name ≤ longest_mta_name
mta-name-short = text-short is_visible 1 longest_mta_name

envelope-id-short : (id : List ℕ) → is_envelope_id id ≡ true → length id ≤ longest_envelope_id
envelope-id-short = text-short is_printable 1 longest_envelope_id

remark-short : (remark : List ℕ) → is_remark remark ≡ true → length remark ≤ longest_clean
remark-short = text-short is_printable 1 longest_clean

status-short : (text : List ℕ) → is_status_code text ≡ true → length text ≤ longest_status
status-short text legal = length-IsStatusCode text (IsStatusCode-test text legal)

optional-short : (test : List ℕ → Bool) (most : ℕ) → ((text : List ℕ) → test text ≡ true → length text ≤ most) → (text : Option (List ℕ)) → is_none_or test text ≡ true → length (text_or_empty text) ≤ most
optional-short test most short None legal = omega arith
optional-short test most short (Some text) legal = short text legal

-- a text passes a test that the empty one fails, so it isn't empty
said : (test : List ℕ → Bool) → test [] ≡ false → (text : Option (List ℕ)) → is_none_or test text ≡ true → text ≢ Some []
said test never None legal is = cc
said test never (Some []) legal is = let both : false ≡ true = sym never ∙ legal in cc
said test never (Some (byte ∷ rest)) legal is = cc

-- a text that isn't empty is read as it was written
back : (text : Option (List ℕ)) → text ≢ Some [] → unless_empty (text_or_empty text) ≡ text
back None there = refl
back (Some []) there = absurd (there refl)
back (Some (byte ∷ rest)) there = refl

-- a clean text stays as it is
clean-kept : (text : List ℕ) → list_all is_printable text ≡ true → clean_text text ≡ text
clean-kept [] all = refl
clean-kept (byte ∷ rest) all =
    let parts = and_parts (is_printable byte) (list_all is_printable rest) all in
    rw (parts.0, clean-kept rest parts.1) refl

clean-optional : (text : Option (List ℕ)) → is_none_or is_remark text ≡ true → clean_text (text_or_empty text) ≡ text_or_empty text
clean-optional None legal = refl
clean-optional (Some text) legal = clean-kept text (and_parts _ _ legal).1

-- ---- bytes

service-back : (service : Service) → service_of_byte (service_byte service) ≡ Some service
service-back Bounce = refl
service-back Defer = refl
service-back Trace = refl

action-back : (action : Action) → action_of_byte (action_byte action) ≡ Some action
action-back Failed = refl
action-back Delayed = refl
action-back Delivered = refl
action-back Relayed = refl
action-back Expanded = refl

-- ---- moments

-- no moment is the number of all ones
moment-said : (moment : ℕ) → is_moment moment ≡ true → (moment == no_moment) ≡ false
moment-said moment dated = let early = leb-true moment last_moment dated in grind (arith, nat_tests, early)

moment-back : (moment : Option ℕ) → is_none_or is_moment moment ≡ true → moment_if_any (moment_or_none moment) ≡ moment
moment-back None dated = refl
moment-back (Some moment) dated = rw (moment-said moment dated) refl

moment-fits : (moment : Option ℕ) → is_none_or is_moment moment ≡ true → moment_or_none moment < 2 ^ 64
moment-fits None dated = omega arith
moment-fits (Some moment) dated = let early = leb-true moment last_moment dated in omega (arith, early)

-- ---- counts

-- no number of outcomes that can be expected is the number of all ones
count-said : (count : ℕ) → is_count count ≡ true → (count == any_count) ≡ false
count-said count counted = let few = ltb-true count any_count counted in grind (arith, nat_tests, few)

count-back : (count : Option ℕ) → is_none_or is_count count ≡ true → count_if_any (count_or_any count) ≡ count
count-back None counted = refl
count-back (Some count) counted = rw (count-said count counted) refl

count-fits : (count : Option ℕ) → is_none_or is_count count ≡ true → count_or_any count < 2 ^ 32
count-fits None counted = omega arith
count-fits (Some count) counted = let few = ltb-true count any_count counted in omega (arith, few)

none-is : {A : Type 0} (value : Option A) → is_none value ≡ true → value ≡ None
none-is None e = refl
none-is (Some value) e = absurd (false≢true e)

-- ---- an outcome's fields

-- all fields of an outcome, as it is written
abbrev all_fields_for : Outcome → Fields
all_fields_for outcome = outcome_fields (fields_for outcome) (type_fields_for outcome) outcome.last_attempt outcome.retry_until

-- a valid type of a text is still one once both are written
type-of-text : (text name : Option (List ℕ)) → text ≢ Some [] → is_none_or is_type_name name ≡ true → (IsSome name → IsSome text) → is_type_of (text_or_empty text) (text_or_empty name) ≡ true
type-of-text text None there legal typed = refl
type-of-text text (Some []) there legal typed = refl
type-of-text None (Some (byte ∷ rest)) there legal typed = absurd (false≢true (typed refl))
type-of-text (Some []) (Some (byte ∷ rest)) there legal typed = absurd (there refl)
type-of-text (Some (first ∷ more)) (Some (byte ∷ rest)) there legal typed = rw legal refl

outcome-accepted : (outcome : Outcome) → IsLegalOutcome outcome → first_outcome_fault outcome.service (all_fields_for outcome) ≡ None
unfolding first_outcome_fault
outcome-accepted outcome legal =
    let diagnostic : nat_le (length (text_or_empty outcome.diagnostic)) longest_clean ≡ true = le-leb _ _ (optional-short is_remark longest_clean remark-short outcome.diagnostic legal.diagnostic_clean) in
    let reason : nat_le (length (text_or_empty outcome.reason)) longest_clean ≡ true = le-leb _ _ (optional-short is_remark longest_clean remark-short outcome.reason legal.reason_clean) in
    let original = back outcome.original (said is_address refl outcome.original legal.original_legal) in
    let mta = back outcome.mta (said is_mta_name refl outcome.mta legal.mta_legal) in
    let recipient_type = back outcome.recipient_type (said is_type_name refl outcome.recipient_type legal.recipient_type_legal) in
    let original_type = type-of-text outcome.original outcome.original_type (said is_address refl outcome.original legal.original_legal) legal.original_type_legal legal.original_typed in
    let diagnostic_type = type-of-text outcome.diagnostic outcome.diagnostic_type (said is_remark refl outcome.diagnostic legal.diagnostic_clean) legal.diagnostic_type_legal legal.diagnostic_typed in
    rw (legal.recipient_legal, original, legal.original_legal, action-back outcome.action, legal.action_taken, legal.status_legal, legal.class_fits, mta, legal.mta_legal, diagnostic, reason, legal.retry_fits, recipient_type, legal.recipient_type_legal, original_type, diagnostic_type, legal.extensions_legal) refl

outcome-back : (outcome : Outcome) → IsLegalOutcome outcome → IsOutcomeOf outcome.service (all_fields_for outcome) outcome
outcome-back outcome legal = record {
  service_is = refl;
  recipient_is = refl;
  recipient_type_is = sym (back outcome.recipient_type (said is_type_name refl outcome.recipient_type legal.recipient_type_legal));
  original_type_is = sym (back outcome.original_type (said is_type_name refl outcome.original_type legal.original_type_legal));
  diagnostic_type_is = sym (back outcome.diagnostic_type (said is_type_name refl outcome.diagnostic_type legal.diagnostic_type_legal));
  original_is = sym (back outcome.original (said is_address refl outcome.original legal.original_legal));
  action_is = action-back outcome.action;
  status_is = refl;
  mta_is = sym (back outcome.mta (said is_mta_name refl outcome.mta legal.mta_legal));
  diagnostic_is = sym (rw (clean-optional outcome.diagnostic legal.diagnostic_clean) (back outcome.diagnostic (said is_remark refl outcome.diagnostic legal.diagnostic_clean)));
  reason_is = sym (rw (clean-optional outcome.reason legal.reason_clean) (back outcome.reason (said is_remark refl outcome.reason legal.reason_clean)));
  last_attempt_is = refl;
  retry_until_is = refl;
  extensions_is = refl;
}

-- the bounds of their lengths
record AreShort (outcome : Outcome) : Type 0 where
  recipient : length outcome.recipient ≤ longest_address
  original : length (text_or_empty outcome.original) ≤ longest_address
  status : length outcome.status ≤ longest_status
  mta : length (text_or_empty outcome.mta) ≤ longest_mta_name
  diagnostic : length (text_or_empty outcome.diagnostic) ≤ longest_clean
  reason : length (text_or_empty outcome.reason) ≤ longest_clean
  recipient_type : length (text_or_empty outcome.recipient_type) ≤ longest_type_name
  original_type : length (text_or_empty outcome.original_type) ≤ longest_type_name
  diagnostic_type : length (text_or_empty outcome.diagnostic_type) ≤ longest_type_name
  extensions : length outcome.extensions ≤ longest_extension_text

outcome-short : (outcome : Outcome) → IsLegalOutcome outcome → AreShort outcome
outcome-short outcome legal = record {
  recipient = address-short outcome.recipient legal.recipient_legal;
  original = optional-short is_address longest_address address-short outcome.original legal.original_legal;
  status = status-short outcome.status legal.status_legal;
  mta = optional-short is_mta_name longest_mta_name mta-name-short outcome.mta legal.mta_legal;
  diagnostic = optional-short is_remark longest_clean remark-short outcome.diagnostic legal.diagnostic_clean;
  reason = optional-short is_remark longest_clean remark-short outcome.reason legal.reason_clean;
  recipient_type = optional-short is_type_name longest_type_name type-name-short outcome.recipient_type legal.recipient_type_legal;
  original_type = optional-short is_type_name longest_type_name type-name-short outcome.original_type legal.original_type_legal;
  diagnostic_type = optional-short is_type_name longest_type_name type-name-short outcome.diagnostic_type legal.diagnostic_type_legal;
  extensions = (extension_text_read outcome.extensions legal.extensions_legal).short;
}

-- ---- lengths

pub text_length : (text : List ℕ) → length (text_bytes text) ≡ 2 + length text
unfolding text_bytes number_bytes
text_length text = length-append (to_be_bytes w16 (length text)) text

pub head_length : (head : Head) → length (head_bytes head) ≡ 7 + length head.id
unfolding head_bytes number_bytes
head_length head = omega (arith, length-append (to_be_bytes w32 head.number) (head.service ∷ text_bytes head.id), text_length head.id)

pub append_length : (fields : RecipientFields) → length (append_bytes fields) ≡ 13 + (length fields.original + (length fields.recipient + (length fields.status + (length fields.mta + (length fields.diagnostic + length fields.reason)))))
unfolding append_bytes
append_length fields =
    omega (
      arith,
      length-append (text_bytes fields.original) (text_bytes fields.recipient ++ (fields.action ∷ (text_bytes fields.status ++ (text_bytes fields.mta ++ (text_bytes fields.diagnostic ++ text_bytes fields.reason))))),
      length-append (text_bytes fields.recipient) (fields.action ∷ (text_bytes fields.status ++ (text_bytes fields.mta ++ (text_bytes fields.diagnostic ++ text_bytes fields.reason)))),
      length-append (text_bytes fields.status) (text_bytes fields.mta ++ (text_bytes fields.diagnostic ++ text_bytes fields.reason)),
      length-append (text_bytes fields.mta) (text_bytes fields.diagnostic ++ text_bytes fields.reason),
      length-append (text_bytes fields.diagnostic) (text_bytes fields.reason),
      text_length fields.original,
      text_length fields.recipient,
      text_length fields.status,
      text_length fields.mta,
      text_length fields.diagnostic,
      text_length fields.reason,
    )

pub retry_length : (dates : RetryFields) → length (retry_bytes dates) ≡ 16
unfolding retry_bytes number_bytes
retry_length dates = length-append (to_be_bytes w64 dates.last_attempt) (to_be_bytes w64 dates.retry_until)

pub dated_length : (fields : RecipientFields) (dates : RetryFields) → length (append_bytes fields ++ retry_bytes dates) ≡ length (append_bytes fields) + 16
dated_length fields dates = omega (arith, length-append (append_bytes fields) (retry_bytes dates), retry_length dates)

pub types_length : (types : TypeFields) → length (type_bytes types) ≡ 8 + (length types.recipient + (length types.original + (length types.diagnostic + length types.extensions)))
unfolding type_bytes
types_length types =
    omega (
      arith,
      length-append (text_bytes types.recipient) (text_bytes types.original ++ (text_bytes types.diagnostic ++ text_bytes types.extensions)),
      length-append (text_bytes types.original) (text_bytes types.diagnostic ++ text_bytes types.extensions),
      length-append (text_bytes types.diagnostic) (text_bytes types.extensions),
      text_length types.recipient,
      text_length types.original,
      text_length types.diagnostic,
      text_length types.extensions,
    )

pub typed_length : (fields : RecipientFields) (dates : RetryFields) (types : TypeFields) → length (append_bytes fields ++ (retry_bytes dates ++ type_bytes types)) ≡ length (append_bytes fields) + 16 + length (type_bytes types)
typed_length fields dates types =
    omega (arith, length-append (append_bytes fields) (retry_bytes dates ++ type_bytes types), length-append (retry_bytes dates) (type_bytes types), retry_length dates)

pub flush_length : (fields : FlushFields) → length (flush_bytes fields) ≡ 22 + (length fields.return_path + (length fields.envelope_id + length fields.header))
unfolding flush_bytes number_bytes
flush_length fields =
    omega (
      arith,
      length-append (to_be_bytes w64 fields.moment) (to_be_bytes w64 fields.arrival ++ (text_bytes fields.return_path ++ (text_bytes fields.envelope_id ++ text_bytes fields.header))),
      length-append (to_be_bytes w64 fields.arrival) (text_bytes fields.return_path ++ (text_bytes fields.envelope_id ++ text_bytes fields.header)),
      length-append (text_bytes fields.return_path) (text_bytes fields.envelope_id ++ text_bytes fields.header),
      length-append (text_bytes fields.envelope_id) (text_bytes fields.header),
      text_length fields.return_path,
      text_length fields.envelope_id,
      text_length fields.header,
    )

pub wishes_length : (wishes : WishFields) → length (wish_bytes wishes) ≡ 8 + length wishes.extensions
unfolding wish_bytes number_bytes
wishes_length wishes =
    omega (arith, length-append (to_be_bytes w32 wishes.expected) (wishes.returned ∷ wishes.wording ∷ text_bytes wishes.extensions), text_length wishes.extensions)

pub counted_length : (fields : FlushFields) (wishes : WishFields) → length (counted_flush_bytes fields wishes) ≡ length (flush_bytes fields) + length (wish_bytes wishes)
unfolding counted_flush_bytes
counted_length fields wishes = length-append (flush_bytes fields) (wish_bytes wishes)

pub body_length : (wire : WireBody) → length (body_bytes wire) ≡ 9 + (length (head_of wire).id + length (own_bytes wire))
unfolding body_bytes
body_length wire = omega (arith, length-append (head_bytes (head_of wire)) (own_bytes wire), head_length (head_of wire))

-- ---- bodies

fields-fit : (outcome : Outcome) → AreShort outcome → FitsAppend (fields_for outcome)
fields-fit outcome short = record {
  original = omega (arith, short.original);
  recipient = omega (arith, short.recipient);
  status = omega (arith, short.status);
  mta = omega (arith, short.mta);
  diagnostic = omega (arith, short.diagnostic);
  reason = omega (arith, short.reason);
}

types-fit : (outcome : Outcome) → AreShort outcome → FitsTypes (type_fields_for outcome)
types-fit outcome short = record {
  recipient = omega (arith, short.recipient_type);
  original = omega (arith, short.original_type);
  diagnostic = omega (arith, short.diagnostic_type);
  extensions = omega (arith, short.extensions);
}

types-few : (outcome : Outcome) → AreShort outcome → length (type_bytes (type_fields_for outcome)) ≤ 8 + (longest_type_name + (longest_type_name + (longest_type_name + longest_extension_text)))
types-few outcome short =
    omega (arith, types_length (type_fields_for outcome), short.recipient_type, short.original_type, short.diagnostic_type, short.extensions)

-- an action, six lengths of two bytes, and the texts
abbrev longest_append : ℕ
longest_append = 13 + (longest_address + (longest_address + (longest_status + (longest_mta_name + (longest_clean + longest_clean)))))

fields-few : (outcome : Outcome) → AreShort outcome → length (append_bytes (fields_for outcome)) ≤ longest_append
fields-few outcome short =
    omega (arith, append_length (fields_for outcome), short.original, short.recipient, short.status, short.mta, short.diagnostic, short.reason)

-- no text has a type, and there is no extension field
record HasUsualTypes (outcome : Outcome) : Type 0 where
  recipient : outcome.recipient_type ≡ None
  original : outcome.original_type ≡ None
  diagnostic : outcome.diagnostic_type ≡ None
  extensions : outcome.extensions ≡ []

usual-types : (outcome : Outcome) → has_usual_types outcome ≡ true → HasUsualTypes outcome
usual-types outcome usual =
    let recipient = and_parts (is_none outcome.recipient_type) _ usual in
    let original = and_parts (is_none outcome.original_type) _ recipient.1 in
    let others = and_parts (is_none outcome.diagnostic_type) (length outcome.extensions == 0) original.1 in
    record {
      recipient = none-is outcome.recipient_type recipient.0;
      original = none-is outcome.original_type original.0;
      diagnostic = none-is outcome.diagnostic_type others.0;
      extensions = nil_from_length outcome.extensions (eqb-true (length outcome.extensions) 0 others.1);
    }

types-usual : (outcome : Outcome) → HasUsualTypes outcome → type_fields_for outcome ≡ usual_types
types-usual outcome usual = rw (usual.recipient, usual.original, usual.diagnostic, usual.extensions) refl

-- without moments, nothing is lost by leaving them out
undated-back : (outcome : Outcome) → HasUsualTypes outcome → IsOutcomeOf outcome.service (all_fields_for outcome) outcome → outcome.last_attempt ≡ None → outcome.retry_until ≡ None
    → IsOutcomeOf outcome.service (undated_fields (fields_for outcome)) outcome
undated-back outcome usual of no_attempt no_retry = record {
  service_is = of.service_is;
  recipient_type_is = usual.recipient;
  original_type_is = usual.original;
  diagnostic_type_is = usual.diagnostic;
  recipient_is = of.recipient_is;
  original_is = of.original_is;
  action_is = of.action_is;
  status_is = of.status_is;
  mta_is = of.mta_is;
  diagnostic_is = of.diagnostic_is;
  reason_is = of.reason_is;
  last_attempt_is = no_attempt;
  retry_until_is = no_retry;
  extensions_is = usual.extensions;
}

-- an append without moments
undated_written : (number : ℕ) (id : List ℕ) (outcome : Outcome) → number < 2 ^ 32 → is_queue_id id ≡ true → IsLegalOutcome outcome → HasUsualTypes outcome → outcome.last_attempt ≡ None → outcome.retry_until ≡ None
    → IsWritten number (Append id outcome) (AppendFields (head_for 1 number outcome.service id) (fields_for outcome))
unfolding own_bytes FitsOwn first_own_fault StandsFor
undated_written number id outcome few legal_id legal usual no_attempt no_retry =
    let short = outcome-short outcome legal in
    let id_short = queue-id-short id legal_id in
    let same : all_fields_for outcome ≡ undated_fields (fields_for outcome) =
    ap (λ (types : TypeFields). outcome_fields (fields_for outcome) types outcome.last_attempt outcome.retry_until) (types-usual outcome usual) ∙ rw (no_attempt, no_retry) refl in
    let accepted : first_outcome_fault outcome.service (undated_fields (fields_for outcome)) ≡ None = subst (λ (fields : Fields). first_outcome_fault outcome.service fields ≡ None) same (outcome-accepted outcome legal) in
    let back_again : IsOutcomeOf outcome.service (undated_fields (fields_for outcome)) outcome = undated-back outcome usual (outcome-back outcome legal) no_attempt no_retry in record {
      number_is = refl;
      known = refl;
      fits = (record { number = few; id = omega (arith, id_short) }, (refl, fields-fit outcome short));
      own_short = omega (arith, fields-few outcome short);
      id_short = id_short;
      accepted = rw (service-back outcome.service, legal_id, accepted) refl;
      stands_for = record { service_is = service-back outcome.service; id_is = refl; outcome_is = back_again };
    }

-- an append with its moments, also if it has none
dated_written : (number : ℕ) (id : List ℕ) (outcome : Outcome) → number < 2 ^ 32 → is_queue_id id ≡ true → IsLegalOutcome outcome → HasUsualTypes outcome
    → IsWritten number (Append id outcome) (DatedAppendFields (head_for 2 number outcome.service id) (fields_for outcome) (retry_fields_for outcome))
unfolding own_bytes FitsOwn first_own_fault StandsFor
dated_written number id outcome few legal_id legal usual =
    let short = outcome-short outcome legal in
    let id_short = queue-id-short id legal_id in
    let attempt = moment-back outcome.last_attempt legal.last_attempt_dated in
    let retry = moment-back outcome.retry_until legal.retry_until_dated in
    let same : all_fields_for outcome ≡ dated_fields (fields_for outcome) (retry_fields_for outcome) =
    ap (λ (types : TypeFields). outcome_fields (fields_for outcome) types outcome.last_attempt outcome.retry_until) (types-usual outcome usual) ∙ rw (attempt, retry) refl in
    let accepted = subst (λ (fields : Fields). first_outcome_fault outcome.service fields ≡ None) same (outcome-accepted outcome legal) in
    let back_again = subst (λ (fields : Fields). IsOutcomeOf outcome.service fields outcome) same (outcome-back outcome legal) in record {
      number_is = refl;
      known = refl;
      fits = (
        record { number = few; id = omega (arith, id_short) },
        (refl, (refl, (fields-fit outcome short, record { last_attempt = moment-fits outcome.last_attempt legal.last_attempt_dated; retry_until = moment-fits outcome.retry_until legal.retry_until_dated }))),
      );
      own_short = omega (arith, fields-few outcome short, dated_length (fields_for outcome) (retry_fields_for outcome));
      id_short = id_short;
      accepted = rw (service-back outcome.service, legal_id, accepted, attempt, retry, legal.last_attempt_dated, legal.retry_until_dated) refl;
      stands_for = record { service_is = service-back outcome.service; id_is = refl; outcome_is = back_again };
    }

-- an append with its moments and types, also if it has none
typed_written : (number : ℕ) (id : List ℕ) (outcome : Outcome) → number < 2 ^ 32 → is_queue_id id ≡ true → IsLegalOutcome outcome
    → IsWritten number (Append id outcome) (TypedAppendFields (head_for 3 number outcome.service id) (fields_for outcome) (retry_fields_for outcome) (type_fields_for outcome))
unfolding own_bytes FitsOwn first_own_fault StandsFor
typed_written number id outcome few legal_id legal =
    let short = outcome-short outcome legal in
    let id_short = queue-id-short id legal_id in
    let attempt = moment-back outcome.last_attempt legal.last_attempt_dated in
    let retry = moment-back outcome.retry_until legal.retry_until_dated in
    let same : all_fields_for outcome ≡ typed_fields (fields_for outcome) (retry_fields_for outcome) (type_fields_for outcome) = rw (attempt, retry) refl in
    let accepted = subst (λ (fields : Fields). first_outcome_fault outcome.service fields ≡ None) same (outcome-accepted outcome legal) in
    let back_again = subst (λ (fields : Fields). IsOutcomeOf outcome.service fields outcome) same (outcome-back outcome legal) in record {
      number_is = refl;
      known = refl;
      fits = (
        record { number = few; id = omega (arith, id_short) },
        (refl, (refl, (fields-fit outcome short, (record { last_attempt = moment-fits outcome.last_attempt legal.last_attempt_dated; retry_until = moment-fits outcome.retry_until legal.retry_until_dated }, types-fit outcome short)))),
      );
      own_short = omega (arith, fields-few outcome short, types-few outcome short, typed_length (fields_for outcome) (retry_fields_for outcome) (type_fields_for outcome));
      id_short = id_short;
      accepted = rw (service-back outcome.service, legal_id, accepted, attempt, retry, legal.last_attempt_dated, legal.retry_until_dated) refl;
      stands_for = record { service_is = service-back outcome.service; id_is = refl; outcome_is = back_again };
    }

one-written : (number : ℕ) (body : Body) (first second : WireBody) (undated : Bool) → (undated ≡ true → IsWritten number body first) → IsWritten number body second
    → IsWritten number body (if undated then first else second)
one-written number body first second true p q = p refl
one-written number body first second false p q = q

-- an append without types, and with moments if it has one
usual_written : (number : ℕ) (id : List ℕ) (outcome : Outcome) → number < 2 ^ 32 → is_queue_id id ≡ true → IsLegalOutcome outcome → HasUsualTypes outcome
    → IsWritten number (Append id outcome) (if is_none outcome.last_attempt && is_none outcome.retry_until then AppendFields (head_for 1 number outcome.service id) (fields_for outcome) else DatedAppendFields (head_for 2 number outcome.service id) (fields_for outcome) (retry_fields_for outcome))
usual_written number id outcome few legal_id legal usual =
    one-written number (Append id outcome) _ _ (is_none outcome.last_attempt && is_none outcome.retry_until)
    (λ e.
    let both = and_parts (is_none outcome.last_attempt) (is_none outcome.retry_until) e in
    undated_written number id outcome few legal_id legal usual (none-is outcome.last_attempt both.0) (none-is outcome.retry_until both.1))
    (dated_written number id outcome few legal_id legal usual)

pub append_written : (number : ℕ) (id : List ℕ) (outcome : Outcome) → number < 2 ^ 32 → is_queue_id id ≡ true → IsLegalOutcome outcome → IsWritten number (Append id outcome) (append_written_as number id outcome)
unfolding append_written_as
append_written number id outcome few legal_id legal =
    one-written number (Append id outcome) _ _ (has_usual_types outcome)
    (λ usual. usual_written number id outcome few legal_id legal (usual-types outcome usual))
    (typed_written number id outcome few legal_id legal)

-- a byte is read as it was written
returned-back : (returned : Returned) → returned_of_byte (returned_byte returned) ≡ Some returned
returned-back Header = refl
returned-back Message = refl
returned-back EightBitMessage = refl

wording-back : (wording : Wording) → wording_of_byte (wording_byte wording) ≡ Some wording
wording-back ByService = refl
wording-back ByOutcome = refl

flush-accepted : (draft : Draft) → IsLegalDraft draft → first_failed (flush_checks (flush_fields_for draft) (wish_fields_for draft)) ≡ None
flush-accepted draft legal =
    let moment = le-leb _ _ legal.moment_dated in
    let arrival = le-leb _ _ legal.arrival_dated in
    let header = le-leb _ _ legal.header_short in
    let path = back draft.return_path (said is_address refl draft.return_path legal.return_path_legal) in
    let id = back draft.envelope_id (said is_envelope_id refl draft.envelope_id legal.envelope_id_legal) in
    rw (moment, arrival, header, path, legal.return_path_legal, id, legal.envelope_id_legal, returned-back draft.returned, wording-back draft.wording, legal.extensions_legal) refl

flush-back : (draft : Draft) → IsLegalDraft draft → draft ≡ draft_of (flush_fields_for draft) (wish_fields_for draft)
flush-back draft legal =
    let path = back draft.return_path (said is_address refl draft.return_path legal.return_path_legal) in
    let id = back draft.envelope_id (said is_envelope_id refl draft.envelope_id legal.envelope_id_legal) in
    rw (path, id, count-back draft.expected legal.expected_counted, returned-back draft.returned, wording-back draft.wording) refl

-- there is one set of usual terms
usual-is : (wishes : WishFields) → are_usual wishes ≡ true → wishes ≡ usual_wishes
usual-is wishes e =
    let count = and_parts (wishes.expected == any_count) _ e in
    let bytes = and_parts (wishes.returned == 0) _ count.1 in
    let others = and_parts (wishes.wording == 0) (length wishes.extensions == 0) bytes.1 in
    let expected : wishes.expected ≡ any_count = eqb-true _ _ count.0 in
    let returned : wishes.returned ≡ 0 = eqb-true _ _ bytes.0 in
    let wording : wishes.wording ≡ 0 = eqb-true _ _ others.0 in
    let extensions : wishes.extensions ≡ [] = nil_from_length wishes.extensions (eqb-true (length wishes.extensions) 0 others.1) in
    rw (expected, returned, wording, extensions) refl

path-short : (draft : Draft) → IsLegalDraft draft → length (text_or_empty draft.return_path) ≤ longest_address
path-short draft legal = optional-short is_address longest_address address-short draft.return_path legal.return_path_legal

id-short : (draft : Draft) → IsLegalDraft draft → length (text_or_empty draft.envelope_id) ≤ longest_envelope_id
id-short draft legal = optional-short is_envelope_id longest_envelope_id envelope-id-short draft.envelope_id legal.envelope_id_legal

flush-fits : (draft : Draft) → IsLegalDraft draft → FitsFlush (flush_fields_for draft)
flush-fits draft legal = record {
  moment = omega (arith, legal.moment_dated);
  arrival = omega (arith, legal.arrival_dated);
  return_path = omega (arith, path-short draft legal);
  envelope_id = omega (arith, id-short draft legal);
  header = omega (arith, legal.header_short);
}

extensions-short : (draft : Draft) → IsLegalDraft draft → length draft.extensions ≤ longest_extension_text
extensions-short draft legal = (extension_text_read draft.extensions legal.extensions_legal).short

wishes-fit : (draft : Draft) → IsLegalDraft draft → FitsWishes (wish_fields_for draft)
wishes-fit draft legal = record {
  expected = count-fits draft.expected legal.expected_counted;
  extensions = omega (arith, extensions-short draft legal);
}

flush-few : (draft : Draft) → IsLegalDraft draft → length (flush_bytes (flush_fields_for draft)) ≤ 22 + (longest_address + (longest_envelope_id + longest_header))
flush-few draft legal = omega (arith, flush_length (flush_fields_for draft), path-short draft legal, id-short draft legal, legal.header_short)

-- a flush whose further terms are the usual ones
usual_flush_written : (number : ℕ) (key : Key) (draft : Draft) → number < 2 ^ 32 → is_queue_id key.id ≡ true → IsLegalDraft draft → wish_fields_for draft ≡ usual_wishes
    → IsWritten number (Flush key draft) (FlushFieldsOf (head_for 1 number key.service key.id) (flush_fields_for draft))
unfolding own_bytes FitsOwn first_own_fault StandsFor
usual_flush_written number key draft few legal_id legal usual =
    let id_short = queue-id-short key.id legal_id in
    let accepted : first_failed (flush_checks (flush_fields_for draft) usual_wishes) ≡ None =
    ap (λ wishes. first_failed (flush_checks (flush_fields_for draft) wishes)) (sym usual) ∙ flush-accepted draft legal in
    let back_again : draft ≡ draft_of (flush_fields_for draft) usual_wishes = flush-back draft legal ∙ ap (draft_of (flush_fields_for draft)) usual in record {
      number_is = refl;
      known = refl;
      fits = (record { number = few; id = omega (arith, id_short) }, (refl, flush-fits draft legal));
      own_short = omega (arith, flush-few draft legal);
      id_short = id_short;
      accepted = rw (service-back key.service, legal_id, accepted) refl;
      stands_for = (record { service_is = service-back key.service; id_is = refl }, back_again);
    }

-- a flush that states its further terms, whatever they are
counted_written : (number : ℕ) (key : Key) (draft : Draft) → number < 2 ^ 32 → is_queue_id key.id ≡ true → IsLegalDraft draft
    → IsWritten number (Flush key draft) (CountedFlushFields (head_for 3 number key.service key.id) (flush_fields_for draft) (wish_fields_for draft))
unfolding own_bytes FitsOwn first_own_fault StandsFor
counted_written number key draft few legal_id legal =
    let id_short = queue-id-short key.id legal_id in record {
      number_is = refl;
      known = refl;
      fits = (record { number = few; id = omega (arith, id_short) }, (refl, (flush-fits draft legal, wishes-fit draft legal)));
      own_short = omega (arith, flush-few draft legal, extensions-short draft legal, wishes_length (wish_fields_for draft), counted_length (flush_fields_for draft) (wish_fields_for draft));
      id_short = id_short;
      accepted = rw (service-back key.service, legal_id, flush-accepted draft legal) refl;
      stands_for = (record { service_is = service-back key.service; id_is = refl }, flush-back draft legal);
    }

pub flush_written : (number : ℕ) (key : Key) (draft : Draft) → number < 2 ^ 32 → is_queue_id key.id ≡ true → IsLegalDraft draft → IsWritten number (Flush key draft) (flush_written_as number key draft)
unfolding flush_written_as
flush_written number key draft few legal_id legal =
    one-written number (Flush key draft) _ _ (are_usual (wish_fields_for draft))
    (λ usual. usual_flush_written number key draft few legal_id legal (usual-is (wish_fields_for draft) usual))
    (counted_written number key draft few legal_id legal)

pub discard_written : (number : ℕ) (key : Key) → number < 2 ^ 32 → is_queue_id key.id ≡ true → IsWritten number (Discard key) (DiscardFields (head_for 1 number key.service key.id))
unfolding own_bytes FitsOwn first_own_fault StandsFor
discard_written number key few legal_id =
    let id_short = queue-id-short key.id legal_id in record {
      number_is = refl;
      known = refl;
      fits = (record { number = few; id = omega (arith, id_short) }, tt);
      own_short = omega arith;
      id_short = id_short;
      accepted = rw (service-back key.service, legal_id) refl;
      stands_for = record { service_is = service-back key.service; id_is = refl };
    }

pub forget_written : (number : ℕ) (key : Key) → number < 2 ^ 32 → is_queue_id key.id ≡ true → IsWritten number (Forget key) (ForgetFields (head_for 2 number key.service key.id))
unfolding own_bytes FitsOwn first_own_fault StandsFor
forget_written number key few legal_id =
    let id_short = queue-id-short key.id legal_id in record {
      number_is = refl;
      known = refl;
      fits = (record { number = few; id = omega (arith, id_short) }, tt);
      own_short = omega arith;
      id_short = id_short;
      accepted = rw (service-back key.service, legal_id) refl;
      stands_for = record { service_is = service-back key.service; id_is = refl };
    }

-- ---- frames

-- the bytes that a body is written as are a frame's body, and encode it
pub written_encodes : (number : ℕ) (body : Body) (wire : WireBody) → IsWritten number body wire → Encodes (body_bytes wire) number body
written_encodes number body wire written = record {
  wire = wire;
  laid_out = refl;
  known = written.known;
  fits = written.fits;
  number_is = sym written.number_is;
  accepted = written.accepted;
  stands_for = written.stands_for;
}

pub written_fits : (number : ℕ) (body : Body) (wire : WireBody) → IsWritten number body wire → IsFrameBody (body_bytes wire)
written_fits number body wire written =
    let long = body_length wire in
    (omega (arith, long), omega (arith, long, written.own_short, written.id_short))

-- ---- refusals

-- a draft is refused as its flush is, if the moments of the flush have no fault
refused-as : (dated header path id returned wording extensions : Bool) → dated ≡ true
    → draft_refusal (unwrap_or (first_failed ((header, drafts.Header) ∷ (path, drafts.ReturnPath) ∷ (id, drafts.EnvelopeId) ∷ (returned, drafts.Returned) ∷ (wording, drafts.Wording) ∷ (extensions, drafts.Extensions) ∷ [])) drafts.NoMemory)
    ≡ unwrap_or (first_failed ((dated, faults.Moment) ∷ (header, faults.Header) ∷ (path, faults.ReturnPath) ∷ (id, faults.EnvelopeId) ∷ (returned, faults.Returned) ∷ (wording, faults.Wording) ∷ (extensions, faults.Extensions) ∷ [])) faults.NoMemory
refused-as false header path id returned wording extensions is = cc
refused-as true false path id returned wording extensions is = refl
refused-as true true false id returned wording extensions is = refl
refused-as true true true false returned wording extensions is = refl
refused-as true true true true false wording extensions is = refl
refused-as true true true true true false extensions is = refl
refused-as true true true true true true false is = refl
refused-as true true true true true true true is = refl

pub draft_refused : (fields : FlushFields) (wishes : WishFields) → (nat_le fields.moment last_moment && nat_le fields.arrival last_moment) ≡ true
    → draft_refusal (unwrap_or (first_draft_fault (record { return_path = fields.return_path; envelope_id = fields.envelope_id; header = fields.header; returned = returned_of_byte wishes.returned; wording = wording_of_byte wishes.wording; extensions = wishes.extensions })) drafts.NoMemory)
    ≡ unwrap_or (first_failed (flush_checks fields wishes)) faults.NoMemory
draft_refused fields wishes dated =
    refused-as (nat_le fields.moment last_moment && nat_le fields.arrival last_moment) (nat_le (length fields.header) longest_header) (is_none_or is_address (unless_empty fields.return_path))
    (is_none_or is_envelope_id (unless_empty fields.envelope_id)) (is_some (returned_of_byte wishes.returned)) (is_some (wording_of_byte wishes.wording)) (is_extension_text wishes.extensions) dated
