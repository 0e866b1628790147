-- Requests in bytes: bytes encode one request at most, and none if they are refused; and what a
-- decoder has read encodes its result.
use Rattle.std.proofs.Common.{◌≡◌, ℕ, List, [], Bool, true, false, cond, Option, Some, None, refl, sym, ap, subst, ◌∙◌}
use Rattle.std.specs.Prelude.{slice_get}
use Rattle.std.proofs.lemmas.Bool.{and_parts}
use Rattle.std.proofs.lemmas.List.{append-nil}
use Rattle.dsn_outcome.specs.Draft.{Draft}
use Rattle.dsn_outcome.specs.Outcome.{Outcome, Fields, first_failed}
use Rattle.dsn_outcome.specs.Request.{Body, Append, Flush, Discard, Forget, Bye}
use Rattle.dsn_text.specs.declared.action.Action.{Action}
use Rattle.dsn_text.specs.declared.key.Key.{Key}
use Rattle.dsn_text.specs.declared.service.Service.{Service}
use Rattle.dsn_frame.specs.bodies.Request.{has_kind, layout_checks, first_field_fault, first_body_fault, undated_fields, dated_fields, typed_fields, IsKeyOf, IsAppendOf, StandsFor, Encodes}
use Rattle.dsn_frame.specs.inner.BodyParts.{IsWhole}
use Rattle.dsn_frame.specs.bodies.Wire.{Head, WireBody, AppendFields, DatedAppendFields, TypedAppendFields, FlushFieldsOf, CountedFlushFields, DiscardFields, ForgetFields, is_version, is_kind, is_known, head_of, kind_of, body_bytes, Fits, body_at}
use Rattle.dsn_frame.specs.declared.bodies.body_fault.BodyFault.TheVariants as faults
use Rattle.dsn_frame.proofs.bodies.BodyLaws.{body_again, body_takes}
use Rattle.dsn_frame.proofs.bodies.FieldLaws.{IsBytes, some_is}

-- ---- bytes that encode a request are whole

layout_passes : (wire : WireBody) (bytes : List ℕ) → is_known wire ≡ true → slice_get bytes 0 ≡ Some (head_of wire).version → slice_get bytes 1 ≡ Some (kind_of wire) → body_at bytes ≡ Some (wire, []) → first_failed (layout_checks bytes) ≡ None
unfolding has_kind
layout_passes wire bytes known version kind read =
    let parts = and_parts (is_version (head_of wire).version) (is_kind (head_of wire).version (kind_of wire)) known in
    rw (version, kind, read, parts.0, parts.1) refl

pub body_is_whole : (wire : WireBody) → is_known wire ≡ true → Fits wire → IsWhole (body_bytes wire) wire
unfolding body_bytes
body_is_whole wire known fits = record {
  accepted = layout_passes wire (body_bytes wire) known refl refl (body_again wire fits);
  read = body_again wire fits;
}

pub encoded_is_whole : (bytes : List ℕ) (number : ℕ) (body : Body) (encoded : Encodes bytes number body) → IsWhole bytes encoded.wire
encoded_is_whole bytes number body encoded =
    subst (λ (b : List ℕ). IsWhole b encoded.wire) (sym encoded.laid_out) (body_is_whole encoded.wire encoded.known encoded.fits)

-- the fault of whole bytes is that of their fields
pub whole_fault : (bytes : List ℕ) (wire : WireBody) → IsWhole bytes wire → first_body_fault bytes ≡ first_field_fault wire
unfolding first_body_fault
whole_fault bytes wire whole = rw (whole.accepted, whole.read) refl

-- bytes that encode a request are not refused
pub encoded_is_accepted : (bytes : List ℕ) (number : ℕ) (body : Body) → Encodes bytes number body → first_body_fault bytes ≡ None
encoded_is_accepted bytes number body encoded =
    whole_fault bytes encoded.wire (encoded_is_whole bytes number body encoded) ∙ encoded.accepted

-- ---- they encode one request

make_outcome : Service → List ℕ → Option (List ℕ) → Option (List ℕ) → Option (List ℕ) → Action → List ℕ → Option (List ℕ) → Option (List ℕ) → Option (List ℕ) → Option (List ℕ) → Option ℕ → Option ℕ → List ℕ → Outcome
make_outcome service recipient recipient_type original original_type action status mta diagnostic diagnostic_type reason last_attempt retry_until extensions = record {
  service = service;
  recipient = recipient;
  recipient_type = recipient_type;
  original = original;
  original_type = original_type;
  action = action;
  status = status;
  mta = mta;
  diagnostic = diagnostic;
  diagnostic_type = diagnostic_type;
  reason = reason;
  last_attempt = last_attempt;
  retry_until = retry_until;
  extensions = extensions;
}

made_of : (o : Outcome) → make_outcome o.service o.recipient o.recipient_type o.original o.original_type o.action o.status o.mta o.diagnostic o.diagnostic_type o.reason o.last_attempt o.retry_until o.extensions ≡ o
unfolding make_outcome
made_of o = refl

same_outcome : (a b : Outcome) → a.service ≡ b.service → a.recipient ≡ b.recipient → a.recipient_type ≡ b.recipient_type → a.original ≡ b.original → a.original_type ≡ b.original_type → a.action ≡ b.action
    → a.status ≡ b.status → a.mta ≡ b.mta → a.diagnostic ≡ b.diagnostic → a.diagnostic_type ≡ b.diagnostic_type → a.reason ≡ b.reason → a.last_attempt ≡ b.last_attempt
    → a.retry_until ≡ b.retry_until → a.extensions ≡ b.extensions → a ≡ b
same_outcome a b service recipient recipient_type original original_type action status mta diagnostic diagnostic_type reason last_attempt retry_until extensions = let x = made_of a in let y = made_of b in cc

same_key : (a b : Key) → a.service ≡ b.service → a.id ≡ b.id → a ≡ b
same_key a b service id =
    let make : Service → List ℕ → Key = λ s i. record { service = s; id = i } in
    ap (λ (s : Service). make s a.id) service ∙ ap (λ (i : List ℕ). make b.service i) id

same_key_of : (head : Head) (a b : Key) → IsKeyOf head a → IsKeyOf head b → a ≡ b
same_key_of head a b p q = same_key a b (some_is a.service b.service (sym p.service_is ∙ q.service_is)) (p.id_is ∙ sym q.id_is)

same_outcome_of : (head : Head) (fields : Fields) (i j : List ℕ) (a b : Outcome) → IsAppendOf head fields i a → IsAppendOf head fields j b → a ≡ b
same_outcome_of head fields i j a b p q =
    same_outcome a b
    (some_is a.service b.service (sym p.service_is ∙ q.service_is))
    (p.outcome_is.recipient_is ∙ sym q.outcome_is.recipient_is)
    (p.outcome_is.recipient_type_is ∙ sym q.outcome_is.recipient_type_is)
    (p.outcome_is.original_is ∙ sym q.outcome_is.original_is)
    (p.outcome_is.original_type_is ∙ sym q.outcome_is.original_type_is)
    (some_is a.action b.action (sym p.outcome_is.action_is ∙ q.outcome_is.action_is))
    (p.outcome_is.status_is ∙ sym q.outcome_is.status_is)
    (p.outcome_is.mta_is ∙ sym q.outcome_is.mta_is)
    (p.outcome_is.diagnostic_is ∙ sym q.outcome_is.diagnostic_is)
    (p.outcome_is.diagnostic_type_is ∙ sym q.outcome_is.diagnostic_type_is)
    (p.outcome_is.reason_is ∙ sym q.outcome_is.reason_is)
    (p.outcome_is.last_attempt_is ∙ sym q.outcome_is.last_attempt_is)
    (p.outcome_is.retry_until_is ∙ sym q.outcome_is.retry_until_is)
    (p.outcome_is.extensions_is ∙ sym q.outcome_is.extensions_is)

same_append : (head : Head) (fields : Fields) (i j : List ℕ) (a b : Outcome) → IsAppendOf head fields i a → IsAppendOf head fields j b → Append i a ≡ Append j b
same_append head fields i j a b p q =
    ap (λ (id : List ℕ). Append id a) (p.id_is ∙ sym q.id_is) ∙ ap (λ (o : Outcome). Append j o) (same_outcome_of head fields i j a b p q)

-- fields encode one body
pub same_body : (wire : WireBody) (a b : Body) → StandsFor wire a → StandsFor wire b → a ≡ b
unfolding StandsFor
same_body (AppendFields head fields) (Append i a) (Append j b) p q = same_append head (undated_fields fields) i j a b p q
same_body (AppendFields head fields) (Append i a) (Flush k e) p q = absurd q
same_body (AppendFields head fields) (Append i a) (Discard k) p q = absurd q
same_body (AppendFields head fields) (Append i a) (Forget k) p q = absurd q
same_body (AppendFields head fields) (Append i a) Bye p q = absurd q
same_body (AppendFields head fields) (Flush k e) b p q = absurd p
same_body (AppendFields head fields) (Discard k) b p q = absurd p
same_body (AppendFields head fields) (Forget k) b p q = absurd p
same_body (AppendFields head fields) Bye b p q = absurd p
same_body (DatedAppendFields head fields dates) (Append i a) (Append j b) p q = same_append head (dated_fields fields dates) i j a b p q
same_body (DatedAppendFields head fields dates) (Append i a) (Flush k e) p q = absurd q
same_body (DatedAppendFields head fields dates) (Append i a) (Discard k) p q = absurd q
same_body (DatedAppendFields head fields dates) (Append i a) (Forget k) p q = absurd q
same_body (DatedAppendFields head fields dates) (Append i a) Bye p q = absurd q
same_body (DatedAppendFields head fields dates) (Flush k e) b p q = absurd p
same_body (DatedAppendFields head fields dates) (Discard k) b p q = absurd p
same_body (DatedAppendFields head fields dates) (Forget k) b p q = absurd p
same_body (DatedAppendFields head fields dates) Bye b p q = absurd p
same_body (TypedAppendFields head fields dates types) (Append i a) (Append j b) p q = same_append head (typed_fields fields dates types) i j a b p q
same_body (TypedAppendFields head fields dates types) (Append i a) (Flush k e) p q = absurd q
same_body (TypedAppendFields head fields dates types) (Append i a) (Discard k) p q = absurd q
same_body (TypedAppendFields head fields dates types) (Append i a) (Forget k) p q = absurd q
same_body (TypedAppendFields head fields dates types) (Append i a) Bye p q = absurd q
same_body (TypedAppendFields head fields dates types) (Flush k e) b p q = absurd p
same_body (TypedAppendFields head fields dates types) (Discard k) b p q = absurd p
same_body (TypedAppendFields head fields dates types) (Forget k) b p q = absurd p
same_body (TypedAppendFields head fields dates types) Bye b p q = absurd p
same_body (FlushFieldsOf head fields) (Flush k d) (Flush l e) p q =
    ap (λ (key : Key). Flush key d) (same_key_of head k l p.0 q.0) ∙ ap (λ (draft : Draft). Flush l draft) (p.1 ∙ sym q.1)
same_body (FlushFieldsOf head fields) (Flush k d) (Append i a) p q = absurd q
same_body (FlushFieldsOf head fields) (Flush k d) (Discard l) p q = absurd q
same_body (FlushFieldsOf head fields) (Flush k d) (Forget l) p q = absurd q
same_body (FlushFieldsOf head fields) (Flush k d) Bye p q = absurd q
same_body (FlushFieldsOf head fields) (Append i a) b p q = absurd p
same_body (FlushFieldsOf head fields) (Discard k) b p q = absurd p
same_body (FlushFieldsOf head fields) (Forget k) b p q = absurd p
same_body (FlushFieldsOf head fields) Bye b p q = absurd p
same_body (CountedFlushFields head fields wishes) (Flush k d) (Flush l e) p q =
    ap (λ (key : Key). Flush key d) (same_key_of head k l p.0 q.0) ∙ ap (λ (draft : Draft). Flush l draft) (p.1 ∙ sym q.1)
same_body (CountedFlushFields head fields wishes) (Flush k d) (Append i a) p q = absurd q
same_body (CountedFlushFields head fields wishes) (Flush k d) (Discard l) p q = absurd q
same_body (CountedFlushFields head fields wishes) (Flush k d) (Forget l) p q = absurd q
same_body (CountedFlushFields head fields wishes) (Flush k d) Bye p q = absurd q
same_body (CountedFlushFields head fields wishes) (Append i a) b p q = absurd p
same_body (CountedFlushFields head fields wishes) (Discard k) b p q = absurd p
same_body (CountedFlushFields head fields wishes) (Forget k) b p q = absurd p
same_body (CountedFlushFields head fields wishes) Bye b p q = absurd p
same_body (DiscardFields head) (Discard k) (Discard l) p q = ap Discard (same_key_of head k l p q)
same_body (DiscardFields head) (Discard k) (Append i a) p q = absurd q
same_body (DiscardFields head) (Discard k) (Flush l e) p q = absurd q
same_body (DiscardFields head) (Discard k) (Forget l) p q = absurd q
same_body (DiscardFields head) (Discard k) Bye p q = absurd q
same_body (DiscardFields head) (Append i a) b p q = absurd p
same_body (DiscardFields head) (Flush k d) b p q = absurd p
same_body (DiscardFields head) (Forget k) b p q = absurd p
same_body (DiscardFields head) Bye b p q = absurd p
same_body (ForgetFields head) (Forget k) (Forget l) p q = ap Forget (same_key_of head k l p q)
same_body (ForgetFields head) (Forget k) (Append i a) p q = absurd q
same_body (ForgetFields head) (Forget k) (Flush l e) p q = absurd q
same_body (ForgetFields head) (Forget k) (Discard l) p q = absurd q
same_body (ForgetFields head) (Forget k) Bye p q = absurd q
same_body (ForgetFields head) (Append i a) b p q = absurd p
same_body (ForgetFields head) (Flush k d) b p q = absurd p
same_body (ForgetFields head) (Discard k) b p q = absurd p
same_body (ForgetFields head) Bye b p q = absurd p

same_wire : (bytes : List ℕ) (a b : WireBody) → body_at bytes ≡ Some (a, []) → body_at bytes ≡ Some (b, []) → a ≡ b
same_wire bytes a b p q =
    let x : WireBody × List ℕ = (a, []) in
    let y : WireBody × List ℕ = (b, []) in
    ap (λ (read : WireBody × List ℕ). read.0) (some_is x y (sym p ∙ q))

-- bytes encode one number and one body
pub encodes_one : (bytes : List ℕ) (number other : ℕ) (body elsewise : Body) → Encodes bytes number body → Encodes bytes other elsewise → (number ≡ other) × (body ≡ elsewise)
encodes_one bytes number other body elsewise p q =
    let wire = same_wire bytes p.wire q.wire (encoded_is_whole bytes number body p).read (encoded_is_whole bytes other elsewise q).read in
    let stands : StandsFor p.wire elsewise = subst (λ (w : WireBody). StandsFor w elsewise) (sym wire) q.stands_for in
    (p.number_is ∙ ap (λ (w : WireBody). (head_of w).number) wire ∙ sym q.number_is, same_body p.wire body elsewise p.stands_for stands)

-- ---- what a decoder has read

passed : {F : Type 0} (b : Bool) (fault : F) (later : Option F) → cond b later (Some fault) ≡ None → (b ≡ true) × (later ≡ None)
passed true fault later e = (refl, e)
passed false fault later e = absurd cc

-- the checks of the layout include the version and the kind
whole_is_known : (wire : WireBody) → first_failed (layout_checks (body_bytes wire)) ≡ None → is_known wire ≡ true
unfolding body_bytes has_kind
whole_is_known wire accepted =
    let version = passed (is_version (head_of wire).version) faults.Version _ accepted in
    let kind = passed (is_kind (head_of wire).version (kind_of wire)) faults.Kind _ version.1 in
    rw (version.0, kind.0) refl

-- the bytes that were read encode the result
pub whole_encodes : (bytes : List ℕ) (wire : WireBody) (body : Body) → IsBytes bytes → IsWhole bytes wire → first_field_fault wire ≡ None → StandsFor wire body → Encodes bytes (head_of wire).number body
whole_encodes bytes wire body fits whole accepted stands =
    let taken = body_takes bytes (wire, []) fits whole.read in
    let laid_out : bytes ≡ body_bytes wire = taken.0.parts ∙ append-nil (body_bytes wire) in
    record {
      wire = wire;
      laid_out = laid_out;
      known = whole_is_known wire (subst (λ (b : List ℕ). first_failed (layout_checks b) ≡ None) laid_out whole.accepted);
      fits = taken.1;
      number_is = refl;
      accepted = accepted;
      stands_for = stands;
    }

-- ---- a goodbye has no bytes

no_goodbye_for : (wire : WireBody) → StandsFor wire Bye → ⊥
unfolding StandsFor
no_goodbye_for (AppendFields head fields) stands = stands
no_goodbye_for (DatedAppendFields head fields dates) stands = stands
no_goodbye_for (TypedAppendFields head fields dates types) stands = stands
no_goodbye_for (FlushFieldsOf head fields) stands = stands
no_goodbye_for (CountedFlushFields head fields wishes) stands = stands
no_goodbye_for (DiscardFields head) stands = stands
no_goodbye_for (ForgetFields head) stands = stands

-- no bytes encode a goodbye
pub encoded_no_goodbye : (bytes : List ℕ) (number : ℕ) (body : Body) → Encodes bytes number body → body ≡ Bye → ⊥
encoded_no_goodbye bytes number body encoded is = no_goodbye_for encoded.wire (subst (λ (b : Body). StandsFor encoded.wire b) is encoded.stands_for)
