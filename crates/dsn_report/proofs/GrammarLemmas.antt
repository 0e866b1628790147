-- A notice's second part is a delivery status.
use Rattle.std.proofs.Common.{◌≡◌, ◌≢◌, ℕ, Bool, true, false, List, [], ◌∷◌, ◌++◌, Option, Some, None, map, codes, refl, sym, ap, subst, ◌∙◌, append_assoc, append-nil, suc, arith}
use Rattle.std.specs.Prelude.{All, IsTrue, IsSome, IfSome, IsSomeAnd, option_map, is_some, if◌then◌else◌}
use Rattle.std.proofs.lemmas.List.Elements.{All-map}
use Rattle.std.proofs.lemmas.List.Folds.{list_all-append, list_any-append}
use Rattle.std.proofs.lemmas.Bool.{false≢true, leb-true}
use Rattle.std.proofs.Math.Bool.{or-true}
use Rattle.std.specs.List.{AllZip, list_all, list_any, flat_map}
use Rattle.dsn_text.specs.Action.{action_word, fits_retry}
use Rattle.dsn_text.specs.declared.action.Action.{Action}
use Rattle.dsn_text.specs.declared.action.Action.TheVariants.{Failed, Delayed, Delivered, Relayed, Expanded}
use Rattle.dsn_outcome.specs.Letter.{Letter}
use Rattle.dsn_outcome.specs.Outcome.{Outcome, IsLegalOutcome}
use Rattle.dsn_text.specs.Optional.{is_none_or}
use Rattle.dsn_text.specs.Extension.{lines_ended_by_lf, is_extension_line, is_extension_name, is_extension_text}
use Rattle.dsn_text.specs.Status.{is_status_code}
use Rattle.dsn_text.specs.Text.{is_printable, is_address, is_mta_name, is_remark, is_type_name, is_envelope_id}
use Rattle.dsn_report.proofs.DateText.{shown-append, shown-date}
use Rattle.dsn_report.proofs.DivisionLemmas.{division_law}
use Rattle.dsn_report.proofs.ExtensionLemmas.{all-extensions, choice-extensions, extension_field, extension-first, extension_lines-pass, extensions-laid, none-of-extensions, plain-extensions}
use Rattle.dsn_report.proofs.LinesLemmas.{delivery_status-eight_bit}
use Rattle.dsn_report.proofs.PieceLemmas.{has_line_bytes-legal, pieces-lines}
use Rattle.dsn_report.proofs.PlainLemmas.{and-parts, address-plain, mta-plain, remark-plain, type_name-plain, envelope_id-plain, status-plain, host-plain}
use Rattle.dsn_text.specs.Stamp.{date_text, is_moment, last_moment}
use Rattle.dsn_report.specs.DeliveryStatus.{line_if_any, per_message_fields, per_recipient_fields, recipient_group, delivery_status, typed, usual_address_type, usual_diagnostic_type}
use Rattle.dsn_report.specs.Grammar.{Field, HasType, field_line, same_text, value_of, is_choice_of, extensions_in, IsMessageGroup, IsRecipientGroup, GivesOutcome, GivesMessage, EmptyLogLaw, ReportsOutcomes, delivery_status_in, per_message_names, per_recipient_names, has_plain_values, is_action_word}
use Rattle.dsn_report.specs.Boundary.{boundary_of}
use Rattle.dsn_report.specs.Multipart.{message_body, multipart_of, notice_parts, part_lines}
use Rattle.dsn_report.specs.Notice.{notice_of}
use Rattle.dsn_report.specs.Site.{Site}
use Rattle.dsn_report.specs.WellFormed.{IsWellFormed}

-- a field of this name and value
abbrev field : List ℕ → List ℕ → Field
field name value = record { name = name; value = value }

abbrev field_if_any : List ℕ → List ℕ → Option (List ℕ) → List Field
field_if_any name kind None = []
field_if_any name kind (Some value) = field name (kind ++ value) ∷ []

-- the fields of a message with these lines of extension fields
abbrev fields_of_message : Option (List ℕ) → List ℕ → List ℕ → List (List ℕ) → List Field
fields_of_message id host date lines =
    field_if_any (codes "Original-Envelope-Id") [] id
    ++ (field (codes "Reporting-MTA") (codes "dns; " ++ host) ∷ field (codes "Arrival-Date") date ∷ map extension_field lines)

abbrev message_fields : List ℕ → Letter → List Field
message_fields host letter = fields_of_message letter.draft.envelope_id host (date_text letter.draft.arrival) (lines_ended_by_lf letter.draft.extensions)

-- the fields of a recipient, from the last on: the extension fields, with Will-Retry-Until before them, with
-- Last-Attempt-Date before these, and so on for each field that may be missing
abbrev extension_fields : Outcome → List Field
extension_fields outcome = map extension_field (lines_ended_by_lf outcome.extensions)

-- each extension field of an outcome is valid
abbrev ArePassed : Outcome → Type 0
ArePassed outcome = list_all is_extension_line (lines_ended_by_lf outcome.extensions) ≡ true

abbrev retry_fields : Outcome → List Field
retry_fields outcome = field_if_any (codes "Will-Retry-Until") [] (option_map date_text outcome.retry_until) ++ extension_fields outcome

abbrev attempt_fields : Outcome → List Field
attempt_fields outcome =
    field_if_any (codes "Last-Attempt-Date") [] (option_map date_text outcome.last_attempt) ++ retry_fields outcome

abbrev diagnostic_fields : Outcome → List Field
diagnostic_fields outcome = field_if_any (codes "Diagnostic-Code") (typed [] usual_diagnostic_type outcome.diagnostic_type) outcome.diagnostic ++ attempt_fields outcome

abbrev mta_fields : Outcome → List Field
mta_fields outcome = field_if_any (codes "Remote-MTA") (codes "dns; ") outcome.mta ++ diagnostic_fields outcome

abbrev final_fields : Outcome → List Field
final_fields outcome =
    field (codes "Final-Recipient") (typed [] usual_address_type outcome.recipient_type ++ outcome.recipient)
    ∷ field (codes "Action") (action_word outcome.action)
    ∷ field (codes "Status") outcome.status
    ∷ mta_fields outcome

abbrev recipient_fields : Outcome → List Field
recipient_fields outcome = field_if_any (codes "Original-Recipient") (typed [] usual_address_type outcome.original_type) outcome.original ++ final_fields outcome

-- the fields of a message are in order, whatever is missing
message-in-order : (id : Option (List ℕ)) (host date : List ℕ) (lines : List (List ℕ)) → list_all is_extension_line lines ≡ true
    → is_choice_of per_message_names (fields_of_message id host date lines) ≡ true
message-in-order None host date lines pass = choice-extensions lines pass
message-in-order (Some id) host date lines pass = choice-extensions lines pass

-- ---- fields that may be missing

-- a field of another name doesn't change the value of a name
value-skips : (name other kind : List ℕ) (value : Option (List ℕ)) (rest : List Field) → same_text name other ≡ false
    → value_of name (field_if_any other kind value ++ rest) ≡ value_of name rest
value-skips name other kind None rest differ = refl
value-skips name other kind (Some text) rest differ = rw differ refl

-- a field of this name has the value, if no later field has the name
value-finds : (name kind : List ℕ) (value : Option (List ℕ)) (rest : List Field) → same_text name name ≡ true → value_of name rest ≡ None
    → value_of name (field_if_any name kind value ++ rest) ≡ option_map (λ text. kind ++ text) value
value-finds name kind None rest same none = none
value-finds name kind (Some text) rest same none = rw same refl

-- a value with an empty prefix
no-kind : (value : Option (List ℕ)) → option_map (λ text. [] ++ text) value ≡ value
no-kind None = refl
no-kind (Some text) = refl

pick-later : (same first later : Bool) (value : List ℕ) (found : Option (List ℕ)) → (if same then Some value else found) ≡ None → later ≡ true
    → (if same then first else later) ≡ true
pick-later true first later value found none e = cc
pick-later false first later value found none e = e

-- a name that no field has may be before the names that the fields are chosen from
choice-skips : (name : List ℕ) (names : List (List ℕ)) (fields : List Field) → value_of name fields ≡ None → is_choice_of names fields ≡ true
    → is_choice_of (name ∷ names) fields ≡ true
choice-skips name names [] none e = refl
choice-skips name names (field ∷ fields) none e =
    pick-later (same_text name field.name) (is_choice_of names fields) (is_choice_of names (field ∷ fields)) field.value (value_of name fields) none e

choice-if-any : (name kind : List ℕ) (value : Option (List ℕ)) (names : List (List ℕ)) (rest : List Field) → same_text name name ≡ true
    → value_of name rest ≡ None → is_choice_of names rest ≡ true → is_choice_of (name ∷ names) (field_if_any name kind value ++ rest) ≡ true
choice-if-any name kind None names rest same none e = choice-skips name names rest none e
choice-if-any name kind (Some text) names rest same none e = rw same e

module _ (outcome : Outcome) (passed : ArePassed outcome) where
  none-of-retry : (name : List ℕ) → same_text name (codes "Will-Retry-Until") ≡ false → ((rest : List ℕ) → same_text name (88 ∷ rest) ≡ false) → value_of name (retry_fields outcome) ≡ None
  none-of-retry name r x =
      value-skips name (codes "Will-Retry-Until") [] (option_map date_text outcome.retry_until) (extension_fields outcome) r
      ∙ none-of-extensions name x (lines_ended_by_lf outcome.extensions) passed

  from-attempt : (name : List ℕ) → same_text name (codes "Last-Attempt-Date") ≡ false → value_of name (attempt_fields outcome) ≡ value_of name (retry_fields outcome)
  from-attempt name a = value-skips name (codes "Last-Attempt-Date") [] (option_map date_text outcome.last_attempt) (retry_fields outcome) a

  from-diagnostic : (name : List ℕ) → same_text name (codes "Diagnostic-Code") ≡ false → value_of name (diagnostic_fields outcome) ≡ value_of name (attempt_fields outcome)
  from-diagnostic name d = value-skips name (codes "Diagnostic-Code") (typed [] usual_diagnostic_type outcome.diagnostic_type) outcome.diagnostic (attempt_fields outcome) d

  from-mta : (name : List ℕ) → same_text name (codes "Remote-MTA") ≡ false → value_of name (mta_fields outcome) ≡ value_of name (diagnostic_fields outcome)
  from-mta name m = value-skips name (codes "Remote-MTA") (codes "dns; ") outcome.mta (diagnostic_fields outcome) m

  from-original : (name : List ℕ) → same_text name (codes "Original-Recipient") ≡ false → value_of name (recipient_fields outcome) ≡ value_of name (final_fields outcome)
  from-original name o = value-skips name (codes "Original-Recipient") (typed [] usual_address_type outcome.original_type) outcome.original (final_fields outcome) o

  recipient-in-order : is_choice_of per_recipient_names (recipient_fields outcome) ≡ true
  recipient-in-order =
      let last_names = codes "Will-Retry-Until" ∷ [] in
      let log_names = codes "Final-Log-ID" ∷ last_names in
      let attempt_names = codes "Last-Attempt-Date" ∷ log_names in
      let diagnostic_names = codes "Diagnostic-Code" ∷ attempt_names in
      let final_names = codes "Final-Recipient" ∷ codes "Action" ∷ codes "Status" ∷ codes "Remote-MTA" ∷ diagnostic_names in
      let retry = choice-if-any (codes "Will-Retry-Until") [] (option_map date_text outcome.retry_until) [] (extension_fields outcome) refl
      (none-of-extensions (codes "Will-Retry-Until") (λ rest. refl) (lines_ended_by_lf outcome.extensions) passed) (choice-extensions (lines_ended_by_lf outcome.extensions) passed) in
      let log = choice-skips (codes "Final-Log-ID") last_names (retry_fields outcome) (none-of-retry (codes "Final-Log-ID") refl (λ rest. refl)) retry in
      let attempt = choice-if-any (codes "Last-Attempt-Date") [] (option_map date_text outcome.last_attempt) log_names (retry_fields outcome) refl
      (none-of-retry (codes "Last-Attempt-Date") refl (λ rest. refl)) log in
      let diagnostic = choice-if-any (codes "Diagnostic-Code") (typed [] usual_diagnostic_type outcome.diagnostic_type) outcome.diagnostic attempt_names (attempt_fields outcome) refl
      (from-attempt (codes "Diagnostic-Code") refl ∙ none-of-retry (codes "Diagnostic-Code") refl (λ rest. refl)) attempt in
      let mta = choice-if-any (codes "Remote-MTA") (codes "dns; ") outcome.mta diagnostic_names (diagnostic_fields outcome) refl
      (from-diagnostic (codes "Remote-MTA") refl ∙ from-attempt (codes "Remote-MTA") refl ∙ none-of-retry (codes "Remote-MTA") refl (λ rest. refl)) diagnostic in
      choice-if-any (codes "Original-Recipient") (typed [] usual_address_type outcome.original_type) outcome.original final_names (final_fields outcome) refl
      (from-mta (codes "Original-Recipient") refl ∙ from-diagnostic (codes "Original-Recipient") refl ∙ from-attempt (codes "Original-Recipient") refl ∙ none-of-retry (codes "Original-Recipient") refl (λ rest. refl)) mta

-- ---- the layout

message-laid-out : (id : Option (List ℕ)) (host date : List ℕ) (lines : List (List ℕ)) → list_all is_extension_line lines ≡ true
    → line_if_any (codes "Original-Envelope-Id: ") id ++ ((codes "Reporting-MTA: dns; " ++ host) ∷ (codes "Arrival-Date: " ++ date) ∷ lines)
    ≡ map field_line (fields_of_message id host date lines)
unfolding line_if_any
message-laid-out None host date lines pass =
    ap (λ (rest : List (List ℕ)). (codes "Reporting-MTA: dns; " ++ host) ∷ (codes "Arrival-Date: " ++ date) ∷ rest) (extensions-laid lines pass)
message-laid-out (Some id) host date lines pass =
    ap (λ (rest : List (List ℕ)). (codes "Original-Envelope-Id: " ++ id) ∷ (codes "Reporting-MTA: dns; " ++ host) ∷ (codes "Arrival-Date: " ++ date) ∷ rest) (extensions-laid lines pass)

-- the line of a field that may be missing, before the lines of later fields
laid-if-any : (label name kind : List ℕ) (value : Option (List ℕ)) (lines : List (List ℕ)) (rest : List Field) → label ≡ name ++ codes ": " ++ kind
    → lines ≡ map field_line rest → line_if_any label value ++ lines ≡ map field_line (field_if_any name kind value ++ rest)
unfolding line_if_any
laid-if-any label name kind None lines rest is laid = laid
laid-if-any label name kind (Some text) lines rest is laid = rw (is, laid) (simp append_assoc refl)

regroup : (a b c d e f g : List (List ℕ)) → a ++ b ++ c ++ d ++ e ++ f ++ g ≡ a ++ (b ++ (c ++ (d ++ (e ++ (f ++ g)))))
regroup a b c d e f g = simp append_assoc refl

group-laid-out : (outcome : Outcome) → ArePassed outcome → recipient_group outcome ≡ [] ∷ map field_line (recipient_fields outcome)
unfolding per_recipient_fields
group-laid-out outcome passed =
    let retry = laid-if-any (codes "Will-Retry-Until: ") (codes "Will-Retry-Until") [] (option_map date_text outcome.retry_until) (lines_ended_by_lf outcome.extensions) (extension_fields outcome) refl
    (extensions-laid (lines_ended_by_lf outcome.extensions) passed) in
    let attempt = laid-if-any (codes "Last-Attempt-Date: ") (codes "Last-Attempt-Date") [] (option_map date_text outcome.last_attempt) _ (retry_fields outcome) refl retry in
    let diagnostic = laid-if-any (typed (codes "Diagnostic-Code: ") usual_diagnostic_type outcome.diagnostic_type) (codes "Diagnostic-Code") (typed [] usual_diagnostic_type outcome.diagnostic_type) outcome.diagnostic _ (attempt_fields outcome) refl attempt in
    let mta = laid-if-any (codes "Remote-MTA: dns; ") (codes "Remote-MTA") (codes "dns; ") outcome.mta _ (diagnostic_fields outcome) refl diagnostic in
    let always = (typed (codes "Final-Recipient: ") usual_address_type outcome.recipient_type ++ outcome.recipient) ∷ (codes "Action: " ++ action_word outcome.action) ∷ (codes "Status: " ++ outcome.status) ∷ [] in
    let original = laid-if-any (typed (codes "Original-Recipient: ") usual_address_type outcome.original_type) (codes "Original-Recipient") (typed [] usual_address_type outcome.original_type) outcome.original _ (final_fields outcome) refl
    (ap (λ lines. always ++ lines) mta) in
    ap (λ lines. [] ∷ lines)
    (regroup (line_if_any (typed (codes "Original-Recipient: ") usual_address_type outcome.original_type) outcome.original) always (line_if_any (codes "Remote-MTA: dns; ") outcome.mta) (line_if_any (typed (codes "Diagnostic-Code: ") usual_diagnostic_type outcome.diagnostic_type) outcome.diagnostic)
    (line_if_any (codes "Last-Attempt-Date: ") (option_map date_text outcome.last_attempt)) (line_if_any (codes "Will-Retry-Until: ") (option_map date_text outcome.retry_until)) (lines_ended_by_lf outcome.extensions) ∙ original)

groups-laid-out : (outcomes : List Outcome) → All IsLegalOutcome outcomes → flat_map recipient_group outcomes ≡ flat_map (λ group. [] ∷ map field_line group) (map recipient_fields outcomes)
groups-laid-out [] legal = refl
groups-laid-out (outcome ∷ outcomes) legal =
    ap (λ lines. lines ++ flat_map recipient_group outcomes) (group-laid-out outcome (extension_lines-pass outcome.extensions (legal 0 outcome (omega arith)).extensions_legal))
    ∙ ap (λ lines. ([] ∷ map field_line (recipient_fields outcome)) ++ lines) (groups-laid-out outcomes (λ k d below. legal (suc k) d (omega arith)))

status-laid-out : (host : List ℕ) (letter : Letter) → list_all is_extension_line (lines_ended_by_lf letter.draft.extensions) ≡ true → All IsLegalOutcome letter.outcomes
    → delivery_status host letter ≡ map field_line (message_fields host letter) ++ flat_map (λ group. [] ∷ map field_line group) (map recipient_fields letter.outcomes)
unfolding delivery_status per_message_fields
status-laid-out host letter pass legal =
    ap (λ lines. lines ++ flat_map recipient_group letter.outcomes) (message-laid-out letter.draft.envelope_id host (date_text letter.draft.arrival) (lines_ended_by_lf letter.draft.extensions) pass)
    ∙ ap (λ lines. map field_line (message_fields host letter) ++ lines) (groups-laid-out letter.outcomes legal)

-- ---- the values

-- a field that may be missing is not an extension field
extensions-skip : (name kind : List ℕ) (value : Option (List ℕ)) (rest : List Field) → is_extension_name name ≡ false
    → extensions_in (field_if_any name kind value ++ rest) ≡ extensions_in rest
extensions-skip name kind None rest known = refl
extensions-skip name kind (Some text) rest known = rw known refl

pub group-gives : (outcome : Outcome) → ArePassed outcome → GivesOutcome outcome (recipient_fields outcome)
group-gives outcome passed = record {
  original = value-finds (codes "Original-Recipient") (typed [] usual_address_type outcome.original_type) outcome.original (final_fields outcome) refl (none (codes "Original-Recipient") refl refl refl refl (λ rest. refl));
  recipient = from-original outcome passed (codes "Final-Recipient") refl;
  action = from-original outcome passed (codes "Action") refl;
  status = from-original outcome passed (codes "Status") refl;
  mta =
      from-original outcome passed (codes "Remote-MTA") refl
      ∙ value-finds (codes "Remote-MTA") (codes "dns; ") outcome.mta (diagnostic_fields outcome) refl
      (from-diagnostic outcome passed (codes "Remote-MTA") refl ∙ from-attempt outcome passed (codes "Remote-MTA") refl ∙ none-of-retry outcome passed (codes "Remote-MTA") refl (λ rest. refl));
  diagnostic =
      from-original outcome passed (codes "Diagnostic-Code") refl
      ∙ from-mta outcome passed (codes "Diagnostic-Code") refl
      ∙ value-finds (codes "Diagnostic-Code") (typed [] usual_diagnostic_type outcome.diagnostic_type) outcome.diagnostic (attempt_fields outcome) refl
      (from-attempt outcome passed (codes "Diagnostic-Code") refl ∙ none-of-retry outcome passed (codes "Diagnostic-Code") refl (λ rest. refl));
  last_attempt =
      from-original outcome passed (codes "Last-Attempt-Date") refl
      ∙ from-mta outcome passed (codes "Last-Attempt-Date") refl
      ∙ from-diagnostic outcome passed (codes "Last-Attempt-Date") refl
      ∙ value-finds (codes "Last-Attempt-Date") [] (option_map date_text outcome.last_attempt) (retry_fields outcome) refl (none-of-retry outcome passed (codes "Last-Attempt-Date") refl (λ rest. refl))
      ∙ no-kind (option_map date_text outcome.last_attempt);
  retry_until =
      from-original outcome passed (codes "Will-Retry-Until") refl
      ∙ from-mta outcome passed (codes "Will-Retry-Until") refl
      ∙ from-diagnostic outcome passed (codes "Will-Retry-Until") refl
      ∙ from-attempt outcome passed (codes "Will-Retry-Until") refl
      ∙ value-finds (codes "Will-Retry-Until") [] (option_map date_text outcome.retry_until) (extension_fields outcome) refl (none-of-extensions (codes "Will-Retry-Until") (λ rest. refl) (lines_ended_by_lf outcome.extensions) passed)
      ∙ no-kind (option_map date_text outcome.retry_until);
  extensions =
      ap (map field_line)
      (extensions-skip (codes "Original-Recipient") (typed [] usual_address_type outcome.original_type) outcome.original (final_fields outcome) refl
      ∙ extensions-skip (codes "Remote-MTA") (codes "dns; ") outcome.mta (diagnostic_fields outcome) refl
      ∙ extensions-skip (codes "Diagnostic-Code") (typed [] usual_diagnostic_type outcome.diagnostic_type) outcome.diagnostic (attempt_fields outcome) refl
      ∙ extensions-skip (codes "Last-Attempt-Date") [] (option_map date_text outcome.last_attempt) (retry_fields outcome) refl
      ∙ extensions-skip (codes "Will-Retry-Until") [] (option_map date_text outcome.retry_until) (extension_fields outcome) refl
      ∙ all-extensions (lines_ended_by_lf outcome.extensions) passed)
      ∙ sym (extensions-laid (lines_ended_by_lf outcome.extensions) passed);
}
  where
    none : (name : List ℕ) → same_text name (codes "Remote-MTA") ≡ false → same_text name (codes "Diagnostic-Code") ≡ false → same_text name (codes "Last-Attempt-Date") ≡ false → same_text name (codes "Will-Retry-Until") ≡ false → ((rest : List ℕ) → same_text name (88 ∷ rest) ≡ false)
        → value_of name (mta_fields outcome) ≡ None
    none name m d a r x = from-mta outcome passed name m ∙ from-diagnostic outcome passed name d ∙ from-attempt outcome passed name a ∙ none-of-retry outcome passed name r x

-- a recipient with Will-Retry-Until is delayed
retry-delayed : (action : Action) (retry_until : Option ℕ) → fits_retry action retry_until ≡ true → IsSome (option_map date_text retry_until)
    → Some (action_word action) ≡ Some (codes "delayed")
retry-delayed Delayed retry_until fits some = refl
retry-delayed Failed (Some moment) fits some = cc
retry-delayed Delivered (Some moment) fits some = cc
retry-delayed Relayed (Some moment) fits some = cc
retry-delayed Expanded (Some moment) fits some = cc
retry-delayed Failed None fits some = cc
retry-delayed Delivered None fits some = cc
retry-delayed Relayed None fits some = cc
retry-delayed Expanded None fits some = cc

-- ---- invariants of the texts

plain-if-any : (name kind : List ℕ) (value : Option (List ℕ)) → list_all is_printable kind ≡ true → is_none_or (list_all is_printable) value ≡ true
    → has_plain_values (field_if_any name kind value) ≡ true
plain-if-any name kind None k v = refl
plain-if-any name kind (Some value) k v = rw (shown-append kind value k v) refl

plain-date-if-any : (name : List ℕ) (moment : Option ℕ) → is_none_or is_moment moment ≡ true → has_plain_values (field_if_any name [] (option_map date_text moment)) ≡ true
plain-date-if-any name None e = refl
plain-date-if-any name (Some moment) e = rw (shown-date moment (leb-true moment last_moment e)) refl

optional-printable : (test : List ℕ → Bool) → ((text : List ℕ) → test text ≡ true → list_all is_printable text ≡ true) → (value : Option (List ℕ))
    → is_none_or test value ≡ true → is_none_or (list_all is_printable) value ≡ true
optional-printable test printable None e = refl
optional-printable test printable (Some text) e = printable text e

plain-append : (xs ys : List Field) → has_plain_values xs ≡ true → has_plain_values ys ≡ true → has_plain_values (xs ++ ys) ≡ true
plain-append xs ys p q = list_all-append (λ field. list_all is_printable field.value) xs ys ∙ rw (p, q) refl

word-printable : (action : Action) → list_all is_printable (action_word action) ≡ true
word-printable Failed = refl
word-printable Delayed = refl
word-printable Delivered = refl
word-printable Relayed = refl
word-printable Expanded = refl

word-known : (action : Action) → is_action_word (action_word action) ≡ true
word-known Failed = refl
word-known Delayed = refl
word-known Delivered = refl
word-known Relayed = refl
word-known Expanded = refl

-- the text before a typed value is printable
typed-printable : (usual : List ℕ) (kind : Option (List ℕ)) → list_all is_printable usual ≡ true → is_none_or is_type_name kind ≡ true → list_all is_printable (typed [] usual kind) ≡ true
typed-printable usual None u e = shown-append usual (codes "; ") u refl
typed-printable usual (Some kind) u e = shown-append kind (codes "; ") (type_name-plain kind e).printable refl

has-type : (usual : List ℕ) (kind : Option (List ℕ)) (text : List ℕ) → is_type_name usual ≡ true → is_none_or is_type_name kind ≡ true → HasType (typed [] usual kind ++ text)
has-type usual None text u e = record { type_name = usual; text = text; is_name = u; is_laid_out = refl }
has-type usual (Some kind) text u e = record { type_name = kind; text = text; is_name = e; is_laid_out = refl }

has-type-if-any : (usual : List ℕ) (kind value : Option (List ℕ)) → is_type_name usual ≡ true → is_none_or is_type_name kind ≡ true → IfSome (option_map (λ text. typed [] usual kind ++ text) value) HasType
has-type-if-any usual kind None u e = tt
has-type-if-any usual kind (Some text) u e = has-type usual kind text u e

recipient-plain : (outcome : Outcome) → IsLegalOutcome outcome → has_plain_values (recipient_fields outcome) ≡ true
recipient-plain outcome legal =
    let original = plain-if-any (codes "Original-Recipient") (typed [] usual_address_type outcome.original_type) outcome.original
    (typed-printable usual_address_type outcome.original_type refl legal.original_type_legal)
    (optional-printable is_address (λ text e. (address-plain text e).printable) outcome.original legal.original_legal) in
    let mta = plain-if-any (codes "Remote-MTA") (codes "dns; ") outcome.mta refl
    (optional-printable is_mta_name (λ text e. (mta-plain text e).printable) outcome.mta legal.mta_legal) in
    let diagnostic = plain-if-any (codes "Diagnostic-Code") (typed [] usual_diagnostic_type outcome.diagnostic_type) outcome.diagnostic
    (typed-printable usual_diagnostic_type outcome.diagnostic_type refl legal.diagnostic_type_legal)
    (optional-printable is_remark (λ text e. (remark-plain text e).printable) outcome.diagnostic legal.diagnostic_clean) in
    let retry = plain-append (field_if_any (codes "Will-Retry-Until") [] (option_map date_text outcome.retry_until)) (extension_fields outcome) (plain-date-if-any (codes "Will-Retry-Until") outcome.retry_until legal.retry_until_dated)
    (plain-extensions (lines_ended_by_lf outcome.extensions) (extension_lines-pass outcome.extensions legal.extensions_legal)) in
    let attempt = plain-append (field_if_any (codes "Last-Attempt-Date") [] (option_map date_text outcome.last_attempt)) (retry_fields outcome) (plain-date-if-any (codes "Last-Attempt-Date") outcome.last_attempt legal.last_attempt_dated) retry in
    let later =
    plain-append (field_if_any (codes "Remote-MTA") (codes "dns; ") outcome.mta) (diagnostic_fields outcome) mta
    (plain-append (field_if_any (codes "Diagnostic-Code") (typed [] usual_diagnostic_type outcome.diagnostic_type) outcome.diagnostic) (attempt_fields outcome) diagnostic attempt) in
    plain-append (field_if_any (codes "Original-Recipient") (typed [] usual_address_type outcome.original_type) outcome.original) _ original
    (rw (
      shown-append (typed [] usual_address_type outcome.recipient_type) outcome.recipient
          (typed-printable usual_address_type outcome.recipient_type refl legal.recipient_type_legal) (address-plain outcome.recipient legal.recipient_legal).printable,
      word-printable outcome.action,
      (status-plain outcome.status legal.status_legal).printable,
      later,
    ) refl)

legal-group : (outcome : Outcome) → IsLegalOutcome outcome → IsRecipientGroup (recipient_fields outcome)
legal-group outcome legal =
    let passed = extension_lines-pass outcome.extensions legal.extensions_legal in
    let gives = group-gives outcome passed in
    record {
      in_order = recipient-in-order outcome passed;
      plain = recipient-plain outcome legal;
      original = subst (λ value. IfSome value HasType) (sym gives.original) (has-type-if-any usual_address_type outcome.original_type outcome.original refl legal.original_type_legal);
      recipient = subst (λ value. IsSomeAnd value HasType) (sym gives.recipient) (has-type usual_address_type outcome.recipient_type outcome.recipient refl legal.recipient_type_legal);
      diagnostic = subst (λ value. IfSome value HasType) (sym gives.diagnostic) (has-type-if-any usual_diagnostic_type outcome.diagnostic_type outcome.diagnostic refl legal.diagnostic_type_legal);
      action = subst (λ value. IsSomeAnd value (λ word. IsTrue (is_action_word word))) (sym gives.action) (word-known outcome.action);
      status = subst (λ value. IsSomeAnd value (λ code. IsTrue (is_status_code code))) (sym gives.status) legal.status_legal;
      retry_until = λ some. gives.action ∙ retry-delayed outcome.action outcome.retry_until legal.retry_fits (subst IsSome gives.retry_until some);
    }

gives-message : (host : List ℕ) (letter : Letter) → list_all is_extension_line (lines_ended_by_lf letter.draft.extensions) ≡ true → GivesMessage host letter (message_fields host letter)
gives-message host letter pass = record {
  envelope_id = of_id letter.draft.envelope_id;
  reporter = of_host letter.draft.envelope_id;
  arrival = of_arrival letter.draft.envelope_id;
  extensions = of_extensions letter.draft.envelope_id;
}
  where
    fields : Option (List ℕ) → List Field
    fields id = fields_of_message id host (date_text letter.draft.arrival) (lines_ended_by_lf letter.draft.extensions)

    of_id : (id : Option (List ℕ)) → value_of (codes "Original-Envelope-Id") (fields id) ≡ id
    of_id None = none-of-extensions (codes "Original-Envelope-Id") (λ rest. refl) (lines_ended_by_lf letter.draft.extensions) pass
    of_id (Some id) = refl

    of_host : (id : Option (List ℕ)) → value_of (codes "Reporting-MTA") (fields id) ≡ Some (codes "dns; " ++ host)
    of_host None = refl
    of_host (Some id) = refl

    of_arrival : (id : Option (List ℕ)) → value_of (codes "Arrival-Date") (fields id) ≡ Some (date_text letter.draft.arrival)
    of_arrival None = refl
    of_arrival (Some id) = refl

    of_lines : map field_line (extensions_in (map extension_field (lines_ended_by_lf letter.draft.extensions))) ≡ lines_ended_by_lf letter.draft.extensions
    of_lines = ap (map field_line) (all-extensions (lines_ended_by_lf letter.draft.extensions) pass) ∙ sym (extensions-laid (lines_ended_by_lf letter.draft.extensions) pass)

    of_extensions : (id : Option (List ℕ)) → map field_line (extensions_in (fields id)) ≡ lines_ended_by_lf letter.draft.extensions
    of_extensions None = of_lines
    of_extensions (Some id) = of_lines

message-group : (site : Site) (letter : Letter) → IsWellFormed site letter → IsMessageGroup (message_fields site.host letter)
message-group site letter formed =
    let pass = extension_lines-pass letter.draft.extensions formed.extensions_legal in
    record {
      in_order = message-in-order letter.draft.envelope_id site.host (date_text letter.draft.arrival) (lines_ended_by_lf letter.draft.extensions) pass;
      plain =
          plain-append (field_if_any (codes "Original-Envelope-Id") [] letter.draft.envelope_id) _
          (plain-if-any (codes "Original-Envelope-Id") [] letter.draft.envelope_id refl
          (optional-printable is_envelope_id (λ text e. (envelope_id-plain text e).printable) letter.draft.envelope_id formed.envelope_id_legal))
          (rw ((host-plain site.host formed.site_legal.host_legal).printable, shown-date letter.draft.arrival formed.arrival_dated, plain-extensions (lines_ended_by_lf letter.draft.extensions) pass) refl);
      reporter = ap is_some (gives-message site.host letter pass).reporter;
    }

some-group : (outcomes : List Outcome) → outcomes ≢ [] → map recipient_fields outcomes ≢ []
some-group [] some = λ none. some refl
some-group (outcome ∷ outcomes) some = λ none. absurd (cc)

each-gives : (outcomes : List Outcome) → All IsLegalOutcome outcomes → AllZip GivesOutcome outcomes (map recipient_fields outcomes)
each-gives [] legal = tt
each-gives (outcome ∷ outcomes) legal = (
  group-gives outcome (extension_lines-pass outcome.extensions (legal 0 outcome (omega arith)).extensions_legal),
  each-gives outcomes (λ k d below. legal (suc k) d (omega arith)),
)

-- a mail program finds the delivery status in the notice's bytes
status-found : (site : Site) (letter : Letter) → IsWellFormed site letter
    → delivery_status_in (multipart_of (boundary_of letter) (notice_of site letter)) ≡ Some (delivery_status site.host letter ++ [] ∷ [])
unfolding notice_parts part_lines message_body
status-found site letter formed =
    let lines = part_lines (codes "Delivery report") (codes "message/delivery-status") false (delivery_status site.host letter) in
    let legal = has_line_bytes-legal (delivery_status site.host letter) (delivery_status-eight_bit site letter formed) in
    ap delivery_status_in (division_law site letter formed)
    ∙ ap (λ pieces. Some (message_body pieces)) (pieces-lines lines legal)

pub grammar_law : (site : Site) (letter : Letter) → IsWellFormed site letter → ReportsOutcomes site letter
grammar_law site letter formed =
    let pass = extension_lines-pass letter.draft.extensions formed.extensions_legal in
    record {
      found = status-found site letter formed;
      message = message_fields site.host letter;
      recipients = map recipient_fields letter.outcomes;
      grammar = record {
        laid_out = status-laid-out site.host letter pass formed.outcomes_legal;
        message_group = message-group site letter formed;
        some_recipient = some-group letter.outcomes formed.sealed.reports;
        recipient_groups = All-map IsRecipientGroup recipient_fields letter.outcomes (λ k d below. legal-group _ (formed.outcomes_legal k d below));
      };
      gives_message = gives-message site.host letter pass;
      gives_outcomes = each-gives letter.outcomes formed.outcomes_legal;
    }

-- ---- an empty log

abbrev is_empty_line : List ℕ → Bool
is_empty_line [] = true
is_empty_line (byte ∷ rest) = false

none-empty-lines : (lines : List (List ℕ)) → list_all is_extension_line lines ≡ true → list_any is_empty_line lines ≡ false
none-empty-lines [] pass = refl
none-empty-lines (line ∷ lines) pass =
    let parts = and-parts (is_extension_line line) (list_all is_extension_line lines) pass in
    let full : is_empty_line line ≡ false = ap is_empty_line (extension-first line parts.0) in
    rw (full, none-empty-lines lines parts.1) refl

none-empty : (host : List ℕ) (letter : Letter) → letter.outcomes ≡ [] → is_extension_text letter.draft.extensions ≡ true → list_any is_empty_line (delivery_status host letter) ≡ false
unfolding delivery_status per_message_fields line_if_any
none-empty host letter empty legal = rw empty (here letter.draft.envelope_id)
  where
    own : list_any is_empty_line (lines_ended_by_lf letter.draft.extensions ++ []) ≡ false
    own =
        ap (list_any is_empty_line) (append-nil (lines_ended_by_lf letter.draft.extensions))
        ∙ none-empty-lines (lines_ended_by_lf letter.draft.extensions) (extension_lines-pass letter.draft.extensions legal)

    here : (id : Option (List ℕ))
        → list_any is_empty_line (line_if_any (codes "Original-Envelope-Id: ") id ++ (codes "Reporting-MTA: dns; " ++ host) ∷ (codes "Arrival-Date: " ++ date_text letter.draft.arrival) ∷ lines_ended_by_lf letter.draft.extensions ++ []) ≡ false
    here None = own
    here (Some id) = own

some-empty : (before : List (List ℕ)) (after : List (List ℕ)) → list_any is_empty_line (before ++ ([] ∷ after)) ≡ true
some-empty before after = list_any-append is_empty_line before ([] ∷ after) ∙ or-true (list_any is_empty_line before)

pub empty_log_law : EmptyLogLaw
empty_log_law host letter message [] empty legal status = status.some_recipient refl
empty_log_law host letter message (group ∷ groups) empty legal status =
    false≢true
    (sym (none-empty host letter empty legal)
    ∙ ap (list_any is_empty_line) status.laid_out
    ∙ some-empty (map field_line message) (map field_line group ++ flat_map (λ group. [] ∷ map field_line group) groups))
