-- All bytes that are not refused encode a request.
use Rattle.std.proofs.Common.{◌≡◌, ℕ, List, [], Bool, true, false, cond, eqb, length, Option, Some, None, refl, sym, ap, ◌∙◌}
use Rattle.std.specs.Prelude.{is_some}
use Rattle.std.specs.Option.{option_map, option_map_or}
use Rattle.std.proofs.lemmas.Bool.{eqb-true}
use Rattle.std.proofs.lemmas.List.{nil_from_length}
use Rattle.dsn_text.specs.Action.{action_of_byte}
use Rattle.dsn_outcome.specs.Outcome.{Outcome, Fields, first_outcome_fault, first_failed}
use Rattle.dsn_text.specs.Optional.{unless_empty}
use Rattle.dsn_text.specs.Service.{takes, service_of_byte}
use Rattle.dsn_outcome.specs.Request.{Body, Append, Flush, Discard, Forget}
use Rattle.dsn_text.specs.Text.{clean_text}
use Rattle.dsn_text.specs.declared.action.Action.{Action}
use Rattle.dsn_text.specs.declared.service.Service.{Service}
use Rattle.dsn_frame.specs.bodies.BodyFault.{outcome_refusal}
use Rattle.dsn_frame.specs.bodies.Request.{layout_checks, head_checks, first_append_fault, undated_fields, dated_fields, typed_fields, IsAppendOf, first_own_fault, first_field_fault, first_body_fault, or_else, draft_of, usual_wishes, StandsFor, Encodes}
use Rattle.dsn_frame.specs.inner.BodyParts.{IsWhole}
use Rattle.dsn_frame.specs.bodies.Wire.{Head, WireBody, AppendFields, DatedAppendFields, TypedAppendFields, FlushFieldsOf, CountedFlushFields, DiscardFields, ForgetFields, head_of, body_at}
use Rattle.dsn_frame.specs.declared.bodies.body_fault.BodyFault.{BodyFault}
use Rattle.dsn_frame.proofs.bodies.FieldLaws.{IsBytes}
use Rattle.dsn_frame.proofs.bodies.RequestLaws.{whole_fault, whole_encodes}

-- ---- tests that are all passed

passed : {F : Type 0} (b : Bool) (fault : F) (later : Option F) → cond b later (Some fault) ≡ None → (b ≡ true) × (later ≡ None)
passed true fault later e = (refl, e)
passed false fault later e = absurd cc

neither : {F : Type 0} (first later : Option F) → or_else first later ≡ None → (first ≡ None) × (later ≡ None)
neither None later e = (refl, e)
neither (Some fault) later e = absurd cc

there_is : {A : Type 0} (o : Option A) → is_some o ≡ true → (x : A) × (o ≡ Some x)
there_is (Some x) e = (x, refl)
there_is None e = absurd cc

unmapped : {A B : Type 0} (f : A → B) (o : Option A) → option_map f o ≡ None → o ≡ None
unmapped f None e = refl
unmapped f (Some x) e = absurd cc

-- ---- a body for fields that have no fault

outcome_with : Service → Fields → Action → Outcome
outcome_with service fields action = record {
  service = service;
  recipient = fields.recipient;
  recipient_type = unless_empty fields.recipient_type;
  original = unless_empty fields.original;
  original_type = unless_empty fields.original_type;
  action = action;
  status = fields.status;
  mta = unless_empty fields.mta;
  diagnostic = unless_empty (clean_text fields.diagnostic);
  diagnostic_type = unless_empty fields.diagnostic_type;
  reason = unless_empty (clean_text fields.reason);
  last_attempt = fields.last_attempt;
  retry_until = fields.retry_until;
  extensions = fields.extensions;
}

action_there : (service : Service) (o : Option Action) → option_map_or (takes service) o false ≡ true → (action : Action) × (o ≡ Some action)
action_there service (Some action) e = (action, refl)
action_there service None e = absurd cc

action_of : (service : Service) (fields : Fields) → first_outcome_fault service fields ≡ None → (action : Action) × (action_of_byte fields.action ≡ Some action)
unfolding first_outcome_fault
action_of service fields e =
    let recipient = passed _ _ _ e in
    let original = passed _ _ _ recipient.1 in
    let action = passed _ _ _ original.1 in
    action_there service (action_of_byte fields.action) action.0

service_there : (head : Head) → first_failed (head_checks head) ≡ None → (service : Service) × (service_of_byte head.service ≡ Some service)
service_there head e = there_is (service_of_byte head.service) (passed _ _ _ e).0

append_of_fields : (head : Head) (fields : Fields) → first_failed (head_checks head) ≡ None → first_append_fault head fields ≡ None → (outcome : Outcome) × IsAppendOf head fields head.id outcome
unfolding outcome_with
append_of_fields head fields passes e =
    let service = service_there head passes in
    let own : option_map outcome_refusal (first_outcome_fault service.0 fields) ≡ None = rw service.1 at e in
    let action = action_of service.0 fields (unmapped outcome_refusal (first_outcome_fault service.0 fields) own) in (
      outcome_with service.0 fields action.0,
      record {
        service_is = service.1;
        id_is = refl;
        outcome_is = record { service_is = refl; recipient_is = refl; recipient_type_is = refl; original_is = refl; original_type_is = refl; action_is = action.1; status_is = refl; mta_is = refl; diagnostic_is = refl; diagnostic_type_is = refl; reason_is = refl; last_attempt_is = refl; retry_until_is = refl; extensions_is = refl };
      },
    )

pub body_of_fields : (wire : WireBody) → first_field_fault wire ≡ None → (body : Body) × StandsFor wire body
unfolding first_own_fault StandsFor
body_of_fields (AppendFields head fields) e =
    let parts = neither _ _ e in
    let found = append_of_fields head (undated_fields fields) parts.0 parts.1 in
    (Append head.id found.0, found.1)
body_of_fields (DatedAppendFields head fields dates) e =
    let parts = neither _ _ e in
    let found = append_of_fields head (dated_fields fields dates) parts.0 (neither _ _ parts.1).1 in
    (Append head.id found.0, found.1)
body_of_fields (TypedAppendFields head fields dates types) e =
    let parts = neither _ _ e in
    let found = append_of_fields head (typed_fields fields dates types) parts.0 (neither _ _ parts.1).1 in
    (Append head.id found.0, found.1)
body_of_fields (FlushFieldsOf head fields) e =
    let service = service_there head (neither _ _ e).0 in
    (Flush (record { service = service.0; id = head.id }) (draft_of fields usual_wishes), (record { service_is = service.1; id_is = refl }, refl))
body_of_fields (CountedFlushFields head fields wishes) e =
    let service = service_there head (neither _ _ e).0 in
    (Flush (record { service = service.0; id = head.id }) (draft_of fields wishes), (record { service_is = service.1; id_is = refl }, refl))
body_of_fields (DiscardFields head) e =
    let service = service_there head (neither _ _ e).0 in
    (Discard (record { service = service.0; id = head.id }), record { service_is = service.1; id_is = refl })
body_of_fields (ForgetFields head) e =
    let service = service_there head (neither _ _ e).0 in
    (Forget (record { service = service.0; id = head.id }), record { service_is = service.1; id_is = refl })

-- ---- a request for bytes that are not refused

abbrev Read : Type 0
Read = Option (WireBody × List ℕ)

read_all : (read : Read) (version kind : Bool) (a b c d : BodyFault)
    → cond version (cond kind (cond (is_some read) (cond (option_map_or (λ x. eqb (length x.1) 0) read false) None (Some d)) (Some c)) (Some b)) (Some a) ≡ None
    → (wire : WireBody) × (read ≡ Some (wire, []))
read_all read false kind a b c d e = absurd cc
read_all read true false a b c d e = absurd cc
read_all None true true a b c d e = absurd cc
read_all (Some x) true true a b c d e =
    let ended : eqb (length x.1) 0 ≡ true = (passed (eqb (length x.1) 0) d None e).0 in
    let nothing : x.1 ≡ [] = nil_from_length x.1 (eqb-true _ _ ended) in
    (x.0, ap (λ (rest : List ℕ). Some (x.0, rest)) nothing)

whole_from : (bytes : List ℕ) → first_body_fault bytes ≡ None → (wire : WireBody) × (IsWhole bytes wire × (first_field_fault wire ≡ None))
unfolding first_body_fault
whole_from bytes e =
    let accepted : first_failed (layout_checks bytes) ≡ None = (neither _ _ e).0 in
    let read = read_all (body_at bytes) _ _ _ _ _ _ accepted in
    let whole : IsWhole bytes read.0 = record { accepted = accepted; read = read.1 } in
    (read.0, (whole, sym (whole_fault bytes read.0 whole) ∙ e))

-- bytes that are not refused encode a request
pub accepted_is_encoded : (bytes : List ℕ) → IsBytes bytes → first_body_fault bytes ≡ None → (number : ℕ) × (body : Body) × Encodes bytes number body
accepted_is_encoded bytes fits e =
    let whole = whole_from bytes e in
    let body = body_of_fields whole.0 whole.1.1 in
    ((head_of whole.0).number, body.0, whole_encodes bytes whole.0 body.0 fits whole.1.0 whole.1.1 body.1)
