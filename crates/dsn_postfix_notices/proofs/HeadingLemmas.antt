-- The receiver of a notice gets the fields in front, and then the notice.
use Rattle.std.proofs.Common.{◌≡◌, ◌∙◌, ◌<◌, ℕ, Bool, true, false, ◌&&◌, inl, inr, List, [], ◌∷◌, ◌++◌, Option, Some, None, ap, append-nil, append_assoc, arith, codes, length, refl, subst, sym, if◌then◌else◌}
use Rattle.std.specs.Prelude.{◌==◌, nat_le, nat_lt, not}
use Rattle.std.specs.List.{list_all}
use Rattle.std.proofs.lemmas.Bool.{false≢true}
use Rattle.std.proofs.lemmas.Bool.Decides.{eqb_tells}
use Rattle.std.proofs.lemmas.List.Folds.{list_all-append}
use Rattle.dsn_text.specs.Text.{is_printable}
use Rattle.dsn_outcome.specs.Letter.{Letter}
use Rattle.dsn_report.proofs.LineWriterLemmas.{text_of_lines-append}
use Rattle.dsn_report.proofs.PieceLemmas.{pieces-line}
use Rattle.dsn_report.specs.Data.{ReceivesData, ends_data, message_lines, without_dot}
use Rattle.dsn_report.specs.Lines.{begins_with_dot, longest_line, pieces_of_text, text_of_lines}
use Rattle.dsn_report.specs.Outbox.{mail_data}
use Rattle.dsn_report.specs.Site.{Site}
use Rattle.dsn_postfix.specs.RequestFlags.{is_tls_optional}
use Rattle.dsn_postfix_files.specs.QueueRecord.{PlacedBytes}
use Rattle.dsn_postfix_notices.specs.requests.Heading.{ReceivesFront, front_lines, front_of, is_front_line, received, thread_lines, tls_lines}
use Rattle.dsn_postfix_notices.specs.requests.Task.{Task}
use Rattle.dsn_postfix_notices.specs.requests.ThreadId.{ends_an_id, fits_a_line, if_thread_id, ends_with_bracket, is_plain, is_thread_id, longest_id, message_id_of, thread_id}

both : (one other : Bool) → (one && other) ≡ true → (one ≡ true) × (other ≡ true)
both true true e = (refl, refl)
both true false e = absurd (false≢true e)
both false other e = absurd (false≢true e)

-- ---- lines in front of a text

pub lines_append : (lines more : List (List ℕ)) → text_of_lines (lines ++ more) ≡ text_of_lines lines ++ text_of_lines more
lines_append lines more = text_of_lines-append lines more

pub field_pushed : (old name id : List ℕ) → ((old ++ name) ++ id) ++ (13 ∷ 10 ∷ []) ≡ old ++ text_of_lines ((name ++ id) ∷ [])
unfolding text_of_lines
field_pushed old name id = ap (λ (text : List ℕ). text ++ (13 ∷ 10 ∷ [])) (append_assoc old name id) ∙ append_assoc old (name ++ id) (13 ∷ 10 ∷ [])

pub thread_pushed : (old id : List ℕ)
    → (old ++ text_of_lines ((codes "References: " ++ id) ∷ [])) ++ text_of_lines ((codes "In-Reply-To: " ++ id) ∷ []) ≡ old ++ text_of_lines (thread_lines (Some id))
thread_pushed old id =
    append_assoc old (text_of_lines ((codes "References: " ++ id) ∷ [])) (text_of_lines ((codes "In-Reply-To: " ++ id) ∷ []))
    ∙ ap (λ (text : List ℕ). old ++ text) (sym (lines_append ((codes "References: " ++ id) ∷ []) ((codes "In-Reply-To: " ++ id) ∷ [])))

pub no_lines : text_of_lines [] ≡ []
unfolding text_of_lines
no_lines = refl

pub tls_pushed : (old : List ℕ) → old ++ codes "TLS-Required: no\r\n" ≡ old ++ text_of_lines (tls_lines true)
unfolding text_of_lines
tls_pushed old = refl

pub no_tls_pushed : (old : List ℕ) → old ≡ old ++ text_of_lines (tls_lines false)
unfolding text_of_lines
no_tls_pushed old = sym (append-nil old)

-- a line without a dot in front is one of the message
line-kept : (line : List ℕ) (more : List (List ℕ)) → begins_with_dot line ≡ false → (if ends_data line then [] else without_dot line ∷ more) ≡ line ∷ more
line-kept [] more plain = refl
line-kept (byte ∷ bytes) more plain = simp plain refl

not-so : (test : Bool) → not test ≡ true → test ≡ false
not-so true e = absurd (false≢true e)
not-so false e = refl

received-front : (lines : List (List ℕ)) (rest : List ℕ) → list_all is_front_line lines ≡ true → received (text_of_lines lines ++ rest) ≡ text_of_lines lines ++ received rest
unfolding text_of_lines message_lines
received-front [] rest legal = refl
received-front (line ∷ lines) rest legal =
    let parts = both (is_front_line line) (list_all is_front_line lines) legal in
    let plain = both (list_all is_printable line) (not (begins_with_dot line)) (both (nat_le (length line) longest_line) _ parts.0).1 in
    let after : List ℕ = text_of_lines lines ++ rest in
    ap received (append_assoc line (13 ∷ 10 ∷ text_of_lines lines) rest)
    ∙ ap (λ (pieces : List (List ℕ)). text_of_lines (message_lines pieces)) (pieces-line is_printable refl line after plain.0)
    ∙ ap text_of_lines (line-kept line (message_lines (pieces_of_text after)) (not-so (begins_with_dot line) plain.1))
    ∙ ap (λ (more : List ℕ). line ++ (13 ∷ 10 ∷ more)) (received-front lines rest parts.1)
    ∙ sym (append_assoc line (13 ∷ 10 ∷ text_of_lines lines) (received rest))

-- ---- the fields in front

tls-legal : (optional : Bool) → list_all is_front_line (tls_lines optional) ≡ true
tls-legal true = refl
tls-legal false = refl

id-legal : (id : List ℕ) → is_thread_id id ≡ true → list_all is_front_line (thread_lines (Some id)) ≡ true
id-legal [] e = absurd (false≢true e)
id-legal (first ∷ rest) e =
    let parts = both (first == 60) (ends_an_id rest) e in
    let within = both (fits_a_line rest) (list_all is_printable rest) (both (ends_with_bracket rest) (is_plain rest) parts.1).1 in
    let size = (both (nat_lt 1 (length rest)) (nat_lt (length rest) longest_id) within.0).1 in
    let short : nat_le (length (codes "References: " ++ first ∷ rest)) longest_line ≡ true = grind (arith, size) in
    let shorter : nat_le (length (codes "In-Reply-To: " ++ first ∷ rest)) longest_line ≡ true = grind (arith, size) in
    let bracket : is_printable first ≡ true = here first parts.0 in
    rw (short, shorter, bracket, within.1) refl
  where
    here : (byte : ℕ) → (byte == 60) ≡ true → is_printable byte ≡ true
    here byte is = elim (eqb_tells byte 60) [
      | inl same ↦ subst (λ b. is_printable b ≡ true) (sym same.1) refl
      | inr other ↦ absurd (false≢true (sym other.0 ∙ is))
    ]

if-legal : (id : List ℕ) (test : Bool) → is_thread_id id ≡ test → list_all is_front_line (thread_lines (if test then Some id else None)) ≡ true
if-legal id true is = id-legal id is
if-legal id false is = refl

thread-legal : (threaded : Bool) (records : List PlacedBytes) → list_all is_front_line (thread_lines (thread_id threaded records)) ≡ true
thread-legal false records = refl
thread-legal true records = here (message_id_of records)
  where
    here : (id : Option (List ℕ)) → list_all is_front_line (thread_lines (if_thread_id id)) ≡ true
    here None = refl
    here (Some id) = if-legal id (is_thread_id id) refl

pub front_legal : (task : Task) (records : List PlacedBytes) → list_all is_front_line (front_lines task records) ≡ true
front_legal task records =
    list_all-append is_front_line (thread_lines (thread_id task.terms.settings.threaded records)) (tls_lines (is_tls_optional task.notice))
    ∙ rw (thread-legal task.terms.settings.threaded records, tls-legal (is_tls_optional task.notice)) refl

pub front_received : (site : Site) (letter : Letter) → ReceivesData site letter → ReceivesFront site letter
front_received site letter receives task records =
    received-front (front_lines task records) (mail_data site letter) (front_legal task records)
    ∙ ap (λ (text : List ℕ). front_of task records ++ text) receives
