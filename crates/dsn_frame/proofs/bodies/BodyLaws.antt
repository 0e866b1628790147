-- Bodies: fields that were written are read again, and fields that were read had been written so.
use Rattle.std.proofs.Common.{◌≡◌, ℕ, suc, ◌<◌, ◌^◌, ◌⊎◌, inl, inr, List, [], ◌∷◌, ◌++◌, Bool, true, false, cond, eqb, Option, Some, None, refl, sym, ap, subst, ◌∙◌, append_assoc}
use Rattle.std.specs.Int.{w32, w64}
use Rattle.std.proofs.lemmas.Bool.{eqb-true}
use Rattle.std.proofs.lemmas.List.{append-nil}
use Rattle.dsn_frame.specs.bodies.Wire.{Head, RecipientFields, RetryFields, TypeFields, FlushFields, WishFields, WireBody, AppendFields, DatedAppendFields, TypedAppendFields, FlushFieldsOf, CountedFlushFields, DiscardFields, ForgetFields, number_bytes, text_bytes, head_bytes, append_bytes, retry_bytes, type_bytes, flush_bytes, wish_bytes, counted_flush_bytes, body_bytes, FitsText, FitsHead, FitsAppend, FitsRetry, FitsTypes, FitsFlush, FitsWishes, FitsOwn, Fits, kind_of, own_bytes, head_of, ◌>>=◌, byte_at, number_at, text_at, head_at, append_at, retry_at, types_at, append_body_at, flush_at, wishes_at, flush_body_at, own_at, body_at}
use Rattle.dsn_frame.proofs.bodies.FieldLaws.{IsBytes, bind_some, some_is, Takes, Takes-then, wide32, wide64, number_takes, number_again, text_takes, text_again}

-- ---- what was written is read again

pub head_again : (head : Head) (rest : List ℕ) → FitsHead head → head_at head.version (head_bytes head ++ rest) ≡ Some (head, rest)
unfolding head_at head_bytes
head_again head rest fits =
    let regrouped : (number_bytes w32 head.number ++ (head.service ∷ text_bytes head.id)) ++ rest ≡ number_bytes w32 head.number ++ (head.service ∷ (text_bytes head.id ++ rest)) = append_assoc (number_bytes w32 head.number) (head.service ∷ text_bytes head.id) rest in
    ap (head_at head.version) regrouped ∙ rw (number_again w32 (2 ^ 32) wide32 head.number (head.service ∷ (text_bytes head.id ++ rest)) fits.number, text_again head.id rest fits.id) refl

pub append_again : (fields : RecipientFields) (rest : List ℕ) → FitsAppend fields → append_at (append_bytes fields ++ rest) ≡ Some (fields, rest)
unfolding append_at append_bytes
append_again fields rest fits =
    let r6 = text_bytes fields.reason ++ rest in
    let r5 = text_bytes fields.diagnostic ++ r6 in
    let r4 = text_bytes fields.mta ++ r5 in
    let r3 = text_bytes fields.status ++ r4 in
    let r2 = fields.action ∷ r3 in
    let r1 = text_bytes fields.recipient ++ r2 in
    let regrouped : append_bytes fields ++ rest ≡ text_bytes fields.original ++ r1 = simp append_assoc in
    ap append_at regrouped ∙ rw (text_again fields.original r1 fits.original, text_again fields.recipient r2 fits.recipient, text_again fields.status r4 fits.status, text_again fields.mta r5 fits.mta, text_again fields.diagnostic r6 fits.diagnostic, text_again fields.reason rest fits.reason) refl

pub retry_again : (dates : RetryFields) (rest : List ℕ) → FitsRetry dates → retry_at (retry_bytes dates ++ rest) ≡ Some (dates, rest)
unfolding retry_at retry_bytes
retry_again dates rest fits =
    let r1 = number_bytes w64 dates.retry_until ++ rest in
    let regrouped : retry_bytes dates ++ rest ≡ number_bytes w64 dates.last_attempt ++ r1 = append_assoc (number_bytes w64 dates.last_attempt) (number_bytes w64 dates.retry_until) rest in
    ap retry_at regrouped ∙ rw (number_again w64 (2 ^ 64) wide64 dates.last_attempt r1 fits.last_attempt, number_again w64 (2 ^ 64) wide64 dates.retry_until rest fits.retry_until) refl

pub types_again : (types : TypeFields) (rest : List ℕ) → FitsTypes types → types_at (type_bytes types ++ rest) ≡ Some (types, rest)
unfolding types_at type_bytes
types_again types rest fits =
    let r3 = text_bytes types.extensions ++ rest in
    let r2 = text_bytes types.diagnostic ++ r3 in
    let r1 = text_bytes types.original ++ r2 in
    let regrouped : type_bytes types ++ rest ≡ text_bytes types.recipient ++ r1 = simp append_assoc in
    ap types_at regrouped ∙ rw (text_again types.recipient r1 fits.recipient, text_again types.original r2 fits.original, text_again types.diagnostic r3 fits.diagnostic, text_again types.extensions rest fits.extensions) refl

pub flush_again : (fields : FlushFields) (rest : List ℕ) → FitsFlush fields → flush_at (flush_bytes fields ++ rest) ≡ Some (fields, rest)
unfolding flush_at flush_bytes
flush_again fields rest fits =
    let r4 = text_bytes fields.header ++ rest in
    let r3 = text_bytes fields.envelope_id ++ r4 in
    let r2 = text_bytes fields.return_path ++ r3 in
    let r1 = number_bytes w64 fields.arrival ++ r2 in
    let regrouped : flush_bytes fields ++ rest ≡ number_bytes w64 fields.moment ++ r1 = simp append_assoc in
    ap flush_at regrouped ∙ rw (number_again w64 (2 ^ 64) wide64 fields.moment r1 fits.moment, number_again w64 (2 ^ 64) wide64 fields.arrival r2 fits.arrival, text_again fields.return_path r3 fits.return_path, text_again fields.envelope_id r4 fits.envelope_id, text_again fields.header rest fits.header) refl

wishes_again : (wishes : WishFields) (rest : List ℕ) → FitsWishes wishes → wishes_at (wish_bytes wishes ++ rest) ≡ Some (wishes, rest)
unfolding wishes_at wish_bytes
wishes_again wishes rest fits =
    let later = wishes.returned ∷ wishes.wording ∷ (text_bytes wishes.extensions ++ rest) in
    let regrouped : wish_bytes wishes ++ rest ≡ number_bytes w32 wishes.expected ++ later = append_assoc (number_bytes w32 wishes.expected) (wishes.returned ∷ wishes.wording ∷ text_bytes wishes.extensions) rest in
    ap wishes_at regrouped ∙ rw (number_again w32 (2 ^ 32) wide32 wishes.expected later fits.expected, text_again wishes.extensions rest fits.extensions) refl

pub own_again : (wire : WireBody) (rest : List ℕ) → FitsOwn wire → own_at (kind_of wire) (head_of wire) (own_bytes wire ++ rest) ≡ Some (wire, rest)
unfolding own_at append_body_at flush_body_at own_bytes counted_flush_bytes FitsOwn
own_again (AppendFields head fields) rest fits = rw (fits.0, append_again fields rest fits.1) refl
own_again (DatedAppendFields head fields dates) rest fits =
    let regrouped : (append_bytes fields ++ retry_bytes dates) ++ rest ≡ append_bytes fields ++ (retry_bytes dates ++ rest) = append_assoc (append_bytes fields) (retry_bytes dates) rest in
    ap (own_at 1 head) regrouped ∙ rw (fits.0, fits.1.0, append_again fields (retry_bytes dates ++ rest) fits.1.1.0, retry_again dates rest fits.1.1.1) refl
own_again (TypedAppendFields head fields dates types) rest fits =
    let r2 = type_bytes types ++ rest in
    let r1 = retry_bytes dates ++ r2 in
    let regrouped : (append_bytes fields ++ (retry_bytes dates ++ type_bytes types)) ++ rest ≡ append_bytes fields ++ r1 = simp append_assoc in
    ap (own_at 1 head) regrouped ∙ rw (fits.0, fits.1.0, append_again fields r1 fits.1.1.0, retry_again dates r2 fits.1.1.1.0, types_again types rest fits.1.1.1.1) refl
own_again (FlushFieldsOf head fields) rest fits = rw (fits.0, flush_again fields rest fits.1) refl
own_again (CountedFlushFields head fields wishes) rest fits =
    let regrouped : (flush_bytes fields ++ wish_bytes wishes) ++ rest ≡ flush_bytes fields ++ (wish_bytes wishes ++ rest) = append_assoc (flush_bytes fields) (wish_bytes wishes) rest in
    ap (own_at 2 head) regrouped ∙ rw (fits.0, flush_again fields (wish_bytes wishes ++ rest) fits.1.0, wishes_again wishes rest fits.1.1) refl
own_again (DiscardFields head) rest fits = refl
own_again (ForgetFields head) rest fits = refl

pub body_again : (wire : WireBody) → Fits wire → body_at (body_bytes wire) ≡ Some (wire, [])
unfolding body_at body_bytes
body_again wire fits =
    let ended : own_at (kind_of wire) (head_of wire) (own_bytes wire) ≡ Some (wire, []) = ap (own_at (kind_of wire) (head_of wire)) (sym (append-nil (own_bytes wire))) ∙ own_again wire [] fits.1 in
    rw (head_again (head_of wire) (own_bytes wire) fits.0, ended) refl

-- ---- what is read is what was written

IsBytes-rest : (b : ℕ) (bytes : List ℕ) → IsBytes (b ∷ bytes) → IsBytes bytes
IsBytes-rest b bytes h i = h (suc i)

byte_takes : (bytes : List ℕ) (x : ℕ × List ℕ) → IsBytes bytes → byte_at bytes ≡ Some x → Takes bytes (x.0 ∷ []) x.1
byte_takes [] x fits e = absurd cc
byte_takes (byte ∷ rest) x fits e =
    subst (λ (y : ℕ × List ℕ). Takes (byte ∷ rest) (y.0 ∷ []) y.1) (some_is (byte, rest) x e) (record { parts = refl; rest_fits = IsBytes-rest byte rest fits })

pub head_takes : (version : ℕ) (bytes : List ℕ) (x : Head × List ℕ) → IsBytes bytes → head_at version bytes ≡ Some x → Takes bytes (head_bytes x.0) x.1 × (FitsHead x.0 × (version ≡ x.0.version))
unfolding head_at head_bytes
head_takes version bytes x fits e =
    let a = bind_some (number_at w32 bytes) (λ number. byte_at number.1 >>= λ service. text_at service.1 >>= λ id. Some (record { version = version; number = number.0; service = service.0; id = id.0 }, id.1)) x e in
    let b = bind_some (byte_at a.0.1) (λ service. text_at service.1 >>= λ id. Some (record { version = version; number = a.0.0; service = service.0; id = id.0 }, id.1)) x a.2 in
    let c = bind_some (text_at b.0.1) (λ id. Some (record { version = version; number = a.0.0; service = b.0.0; id = id.0 }, id.1)) x b.2 in
    let t0 = number_takes w32 (2 ^ 32) wide32 bytes a.0.0 a.0.1 fits a.1 in
    let t1 = byte_takes a.0.1 b.0 t0.0.rest_fits b.1 in
    let t2 = text_takes b.0.1 c.0.0 c.0.1 t1.rest_fits c.1 in
    let e12 = Takes-then a.0.1 (b.0.0 ∷ []) b.0.1 (text_bytes c.0.0) c.0.1 t1 t2.0 in
    let e02 = Takes-then bytes (number_bytes w32 a.0.0) a.0.1 (b.0.0 ∷ text_bytes c.0.0) c.0.1 t0.0 e12 in
    let made : Head × List ℕ = (record { version = version; number = a.0.0; service = b.0.0; id = c.0.0 }, c.0.1) in
    subst (λ (y : Head × List ℕ). Takes bytes (head_bytes y.0) y.1 × (FitsHead y.0 × (version ≡ y.0.version))) (some_is made x c.2) (e02, (record { number = t0.1; id = t2.1 }, refl))

-- the step after a field, in terms of the field and the bytes after it
text_then : {B C : Type 0} (bytes : List ℕ) (next : List ℕ × List ℕ → Option B) (x : B) → IsBytes bytes → (text_at bytes >>= next) ≡ Some x
    → ((text rest : List ℕ) → Takes bytes (text_bytes text) rest → FitsText text → next (text, rest) ≡ Some x → C) → C
text_then bytes next x fits e goes =
    let read = bind_some (text_at bytes) next x e in
    let taken = text_takes bytes read.0.0 read.0.1 fits read.1 in
    goes read.0.0 read.0.1 taken.0 taken.1 read.2

number_then : {B C : Type 0} (bytes : List ℕ) (next : ℕ × List ℕ → Option B) (x : B) → IsBytes bytes → (number_at w64 bytes >>= next) ≡ Some x
    → ((number : ℕ) (rest : List ℕ) → Takes bytes (number_bytes w64 number) rest → number < 2 ^ 64 → next (number, rest) ≡ Some x → C) → C
number_then bytes next x fits e goes =
    let read = bind_some (number_at w64 bytes) next x e in
    let taken = number_takes w64 (2 ^ 64) wide64 bytes read.0.0 read.0.1 fits read.1 in
    goes read.0.0 read.0.1 taken.0 taken.1 read.2

byte_then : {B C : Type 0} (bytes : List ℕ) (next : ℕ × List ℕ → Option B) (x : B) → IsBytes bytes → (byte_at bytes >>= next) ≡ Some x
    → ((byte : ℕ) (rest : List ℕ) → Takes bytes (byte ∷ []) rest → next (byte, rest) ≡ Some x → C) → C
byte_then bytes next x fits e goes =
    let read = bind_some (byte_at bytes) next x e in
    goes read.0.0 read.0.1 (byte_takes bytes read.0 fits read.1) read.2

pub append_takes : (bytes : List ℕ) (x : RecipientFields × List ℕ) → IsBytes bytes → append_at bytes ≡ Some x → Takes bytes (append_bytes x.0) x.1 × FitsAppend x.0
unfolding append_at append_bytes
append_takes bytes x fits e =
    text_then bytes (λ original. text_at original.1 >>= λ recipient. byte_at recipient.1 >>= λ action. text_at action.1 >>= λ status. text_at status.1 >>= λ mta. text_at mta.1 >>= λ diagnostic. text_at diagnostic.1 >>= λ reason. Some (record { recipient = recipient.0; original = original.0; action = action.0; status = status.0; mta = mta.0; diagnostic = diagnostic.0; reason = reason.0 }, reason.1)) x fits e (λ original rest_original taken_original fits_original e_original.
    text_then rest_original (λ recipient. byte_at recipient.1 >>= λ action. text_at action.1 >>= λ status. text_at status.1 >>= λ mta. text_at mta.1 >>= λ diagnostic. text_at diagnostic.1 >>= λ reason. Some (record { recipient = recipient.0; original = original; action = action.0; status = status.0; mta = mta.0; diagnostic = diagnostic.0; reason = reason.0 }, reason.1)) x taken_original.rest_fits e_original (λ recipient rest_recipient taken_recipient fits_recipient e_recipient.
    byte_then rest_recipient (λ action. text_at action.1 >>= λ status. text_at status.1 >>= λ mta. text_at mta.1 >>= λ diagnostic. text_at diagnostic.1 >>= λ reason. Some (record { recipient = recipient; original = original; action = action.0; status = status.0; mta = mta.0; diagnostic = diagnostic.0; reason = reason.0 }, reason.1)) x taken_recipient.rest_fits e_recipient (λ action rest_action taken_action e_action.
    text_then rest_action (λ status. text_at status.1 >>= λ mta. text_at mta.1 >>= λ diagnostic. text_at diagnostic.1 >>= λ reason. Some (record { recipient = recipient; original = original; action = action; status = status.0; mta = mta.0; diagnostic = diagnostic.0; reason = reason.0 }, reason.1)) x taken_action.rest_fits e_action (λ status rest_status taken_status fits_status e_status.
    text_then rest_status (λ mta. text_at mta.1 >>= λ diagnostic. text_at diagnostic.1 >>= λ reason. Some (record { recipient = recipient; original = original; action = action; status = status; mta = mta.0; diagnostic = diagnostic.0; reason = reason.0 }, reason.1)) x taken_status.rest_fits e_status (λ mta rest_mta taken_mta fits_mta e_mta.
    text_then rest_mta (λ diagnostic. text_at diagnostic.1 >>= λ reason. Some (record { recipient = recipient; original = original; action = action; status = status; mta = mta; diagnostic = diagnostic.0; reason = reason.0 }, reason.1)) x taken_mta.rest_fits e_mta (λ diagnostic rest_diagnostic taken_diagnostic fits_diagnostic e_diagnostic.
    text_then rest_diagnostic (λ reason. Some (record { recipient = recipient; original = original; action = action; status = status; mta = mta; diagnostic = diagnostic; reason = reason.0 }, reason.1)) x taken_diagnostic.rest_fits e_diagnostic (λ reason rest_reason taken_reason fits_reason e_reason.
    let from_reason = taken_reason in
    let from_diagnostic : Takes rest_mta (text_bytes diagnostic ++ (text_bytes reason)) rest_reason = Takes-then rest_mta (text_bytes diagnostic) rest_diagnostic (text_bytes reason) rest_reason taken_diagnostic from_reason in
    let from_mta : Takes rest_status (text_bytes mta ++ (text_bytes diagnostic ++ (text_bytes reason))) rest_reason = Takes-then rest_status (text_bytes mta) rest_mta (text_bytes diagnostic ++ (text_bytes reason)) rest_reason taken_mta from_diagnostic in
    let from_status : Takes rest_action (text_bytes status ++ (text_bytes mta ++ (text_bytes diagnostic ++ (text_bytes reason)))) rest_reason = Takes-then rest_action (text_bytes status) rest_status (text_bytes mta ++ (text_bytes diagnostic ++ (text_bytes reason))) rest_reason taken_status from_mta in
    let from_action : Takes rest_recipient (action ∷ (text_bytes status ++ (text_bytes mta ++ (text_bytes diagnostic ++ (text_bytes reason))))) rest_reason = Takes-then rest_recipient (action ∷ []) rest_action (text_bytes status ++ (text_bytes mta ++ (text_bytes diagnostic ++ (text_bytes reason)))) rest_reason taken_action from_status in
    let from_recipient : Takes rest_original (text_bytes recipient ++ (action ∷ (text_bytes status ++ (text_bytes mta ++ (text_bytes diagnostic ++ (text_bytes reason)))))) rest_reason = Takes-then rest_original (text_bytes recipient) rest_recipient (action ∷ (text_bytes status ++ (text_bytes mta ++ (text_bytes diagnostic ++ (text_bytes reason))))) rest_reason taken_recipient from_action in
    let from_original : Takes bytes (text_bytes original ++ (text_bytes recipient ++ (action ∷ (text_bytes status ++ (text_bytes mta ++ (text_bytes diagnostic ++ (text_bytes reason))))))) rest_reason = Takes-then bytes (text_bytes original) rest_original (text_bytes recipient ++ (action ∷ (text_bytes status ++ (text_bytes mta ++ (text_bytes diagnostic ++ (text_bytes reason)))))) rest_reason taken_original from_recipient in
    let made : RecipientFields × List ℕ = (record { recipient = recipient; original = original; action = action; status = status; mta = mta; diagnostic = diagnostic; reason = reason }, rest_reason) in
    subst (λ (y : RecipientFields × List ℕ). Takes bytes (append_bytes y.0) y.1 × FitsAppend y.0) (some_is made x e_reason) (from_original, record { original = fits_original; recipient = fits_recipient; status = fits_status; mta = fits_mta; diagnostic = fits_diagnostic; reason = fits_reason }))))))))

pub retry_takes : (bytes : List ℕ) (x : RetryFields × List ℕ) → IsBytes bytes → retry_at bytes ≡ Some x → Takes bytes (retry_bytes x.0) x.1 × FitsRetry x.0
unfolding retry_at retry_bytes
retry_takes bytes x fits e =
    number_then bytes (λ last_attempt. number_at w64 last_attempt.1 >>= λ retry_until. Some (record { last_attempt = last_attempt.0; retry_until = retry_until.0 }, retry_until.1)) x fits e (λ last_attempt rest_last_attempt taken_last_attempt fits_last_attempt e_last_attempt.
    number_then rest_last_attempt (λ retry_until. Some (record { last_attempt = last_attempt; retry_until = retry_until.0 }, retry_until.1)) x taken_last_attempt.rest_fits e_last_attempt (λ retry_until rest_retry_until taken_retry_until fits_retry_until e_retry_until.
    let both : Takes bytes (number_bytes w64 last_attempt ++ number_bytes w64 retry_until) rest_retry_until = Takes-then bytes (number_bytes w64 last_attempt) rest_last_attempt (number_bytes w64 retry_until) rest_retry_until taken_last_attempt taken_retry_until in
    let made : RetryFields × List ℕ = (record { last_attempt = last_attempt; retry_until = retry_until }, rest_retry_until) in
    subst (λ (y : RetryFields × List ℕ). Takes bytes (retry_bytes y.0) y.1 × FitsRetry y.0) (some_is made x e_retry_until) (both, record { last_attempt = fits_last_attempt; retry_until = fits_retry_until })))

pub types_takes : (bytes : List ℕ) (x : TypeFields × List ℕ) → IsBytes bytes → types_at bytes ≡ Some x → Takes bytes (type_bytes x.0) x.1 × FitsTypes x.0
unfolding types_at type_bytes
types_takes bytes x fits e =
    text_then bytes (λ recipient. text_at recipient.1 >>= λ original. text_at original.1 >>= λ diagnostic. text_at diagnostic.1 >>= λ extensions. Some (record { recipient = recipient.0; original = original.0; diagnostic = diagnostic.0; extensions = extensions.0 }, extensions.1)) x fits e (λ recipient rest_recipient taken_recipient fits_recipient e_recipient.
    text_then rest_recipient (λ original. text_at original.1 >>= λ diagnostic. text_at diagnostic.1 >>= λ extensions. Some (record { recipient = recipient; original = original.0; diagnostic = diagnostic.0; extensions = extensions.0 }, extensions.1)) x taken_recipient.rest_fits e_recipient (λ original rest_original taken_original fits_original e_original.
    text_then rest_original (λ diagnostic. text_at diagnostic.1 >>= λ extensions. Some (record { recipient = recipient; original = original; diagnostic = diagnostic.0; extensions = extensions.0 }, extensions.1)) x taken_original.rest_fits e_original (λ diagnostic rest_diagnostic taken_diagnostic fits_diagnostic e_diagnostic.
    text_then rest_diagnostic (λ extensions. Some (record { recipient = recipient; original = original; diagnostic = diagnostic; extensions = extensions.0 }, extensions.1)) x taken_diagnostic.rest_fits e_diagnostic (λ extensions rest_extensions taken_extensions fits_extensions e_extensions.
    let from_diagnostic : Takes rest_original (text_bytes diagnostic ++ text_bytes extensions) rest_extensions = Takes-then rest_original (text_bytes diagnostic) rest_diagnostic (text_bytes extensions) rest_extensions taken_diagnostic taken_extensions in
    let from_original : Takes rest_recipient (text_bytes original ++ (text_bytes diagnostic ++ text_bytes extensions)) rest_extensions = Takes-then rest_recipient (text_bytes original) rest_original (text_bytes diagnostic ++ text_bytes extensions) rest_extensions taken_original from_diagnostic in
    let from_recipient : Takes bytes (text_bytes recipient ++ (text_bytes original ++ (text_bytes diagnostic ++ text_bytes extensions))) rest_extensions = Takes-then bytes (text_bytes recipient) rest_recipient (text_bytes original ++ (text_bytes diagnostic ++ text_bytes extensions)) rest_extensions taken_recipient from_original in
    let made : TypeFields × List ℕ = (record { recipient = recipient; original = original; diagnostic = diagnostic; extensions = extensions }, rest_extensions) in
    subst (λ (y : TypeFields × List ℕ). Takes bytes (type_bytes y.0) y.1 × FitsTypes y.0) (some_is made x e_extensions) (from_recipient, record { recipient = fits_recipient; original = fits_original; diagnostic = fits_diagnostic; extensions = fits_extensions })))))

pub flush_takes : (bytes : List ℕ) (x : FlushFields × List ℕ) → IsBytes bytes → flush_at bytes ≡ Some x → Takes bytes (flush_bytes x.0) x.1 × FitsFlush x.0
unfolding flush_at flush_bytes
flush_takes bytes x fits e =
    number_then bytes (λ moment. number_at w64 moment.1 >>= λ arrival. text_at arrival.1 >>= λ return_path. text_at return_path.1 >>= λ envelope_id. text_at envelope_id.1 >>= λ header. Some (record { moment = moment.0; arrival = arrival.0; return_path = return_path.0; envelope_id = envelope_id.0; header = header.0 }, header.1)) x fits e (λ moment rest_moment taken_moment fits_moment e_moment.
    number_then rest_moment (λ arrival. text_at arrival.1 >>= λ return_path. text_at return_path.1 >>= λ envelope_id. text_at envelope_id.1 >>= λ header. Some (record { moment = moment; arrival = arrival.0; return_path = return_path.0; envelope_id = envelope_id.0; header = header.0 }, header.1)) x taken_moment.rest_fits e_moment (λ arrival rest_arrival taken_arrival fits_arrival e_arrival.
    text_then rest_arrival (λ return_path. text_at return_path.1 >>= λ envelope_id. text_at envelope_id.1 >>= λ header. Some (record { moment = moment; arrival = arrival; return_path = return_path.0; envelope_id = envelope_id.0; header = header.0 }, header.1)) x taken_arrival.rest_fits e_arrival (λ return_path rest_return_path taken_return_path fits_return_path e_return_path.
    text_then rest_return_path (λ envelope_id. text_at envelope_id.1 >>= λ header. Some (record { moment = moment; arrival = arrival; return_path = return_path; envelope_id = envelope_id.0; header = header.0 }, header.1)) x taken_return_path.rest_fits e_return_path (λ envelope_id rest_envelope_id taken_envelope_id fits_envelope_id e_envelope_id.
    text_then rest_envelope_id (λ header. Some (record { moment = moment; arrival = arrival; return_path = return_path; envelope_id = envelope_id; header = header.0 }, header.1)) x taken_envelope_id.rest_fits e_envelope_id (λ header rest_header taken_header fits_header e_header.
    let from_header = taken_header in
    let from_envelope_id : Takes rest_return_path (text_bytes envelope_id ++ (text_bytes header)) rest_header = Takes-then rest_return_path (text_bytes envelope_id) rest_envelope_id (text_bytes header) rest_header taken_envelope_id from_header in
    let from_return_path : Takes rest_arrival (text_bytes return_path ++ (text_bytes envelope_id ++ (text_bytes header))) rest_header = Takes-then rest_arrival (text_bytes return_path) rest_return_path (text_bytes envelope_id ++ (text_bytes header)) rest_header taken_return_path from_envelope_id in
    let from_arrival : Takes rest_moment (number_bytes w64 arrival ++ (text_bytes return_path ++ (text_bytes envelope_id ++ (text_bytes header)))) rest_header = Takes-then rest_moment (number_bytes w64 arrival) rest_arrival (text_bytes return_path ++ (text_bytes envelope_id ++ (text_bytes header))) rest_header taken_arrival from_return_path in
    let from_moment : Takes bytes (number_bytes w64 moment ++ (number_bytes w64 arrival ++ (text_bytes return_path ++ (text_bytes envelope_id ++ (text_bytes header))))) rest_header = Takes-then bytes (number_bytes w64 moment) rest_moment (number_bytes w64 arrival ++ (text_bytes return_path ++ (text_bytes envelope_id ++ (text_bytes header)))) rest_header taken_moment from_arrival in
    let made : FlushFields × List ℕ = (record { moment = moment; arrival = arrival; return_path = return_path; envelope_id = envelope_id; header = header }, rest_header) in
    subst (λ (y : FlushFields × List ℕ). Takes bytes (flush_bytes y.0) y.1 × FitsFlush y.0) (some_is made x e_header) (from_moment, record { moment = fits_moment; arrival = fits_arrival; return_path = fits_return_path; envelope_id = fits_envelope_id; header = fits_header }))))))

-- the bytes that a body's own fields are read from
pub record TakesOwn (kind : ℕ) (head : Head) (bytes : List ℕ) (wire : WireBody) (rest : List ℕ) : Type 0 where
  pub taken : Takes bytes (own_bytes wire) rest
  pub fits : FitsOwn wire
  pub kind_is : kind ≡ kind_of wire
  pub head_is : head ≡ head_of wire

chosen : {A : Type 0} (b : Bool) (x y z : A) → cond b x y ≡ z → ((b ≡ true) × (x ≡ z)) ⊎ ((b ≡ false) × (y ≡ z))
chosen true x y z e = inl (refl, e)
chosen false x y z e = inr (refl, e)

own_undated : (kind : ℕ) (head : Head) (bytes : List ℕ) (x : WireBody × List ℕ) → kind ≡ 1 → eqb head.version 1 ≡ true → IsBytes bytes
    → (append_at bytes >>= λ fields. Some (AppendFields head fields.0, fields.1)) ≡ Some x → TakesOwn kind head bytes x.0 x.1
unfolding own_bytes FitsOwn
own_undated kind head bytes x is version fits e =
    let read = bind_some (append_at bytes) (λ fields. Some (AppendFields head fields.0, fields.1)) x e in
    let taken = append_takes bytes read.0 fits read.1 in
    let made : WireBody × List ℕ = (AppendFields head read.0.0, read.0.1) in
    subst (λ (y : WireBody × List ℕ). TakesOwn kind head bytes y.0 y.1) (some_is made x read.2)
    (record { taken = taken.0; fits = (version, taken.1); kind_is = is; head_is = refl })

own_dated : (kind : ℕ) (head : Head) (bytes : List ℕ) (x : WireBody × List ℕ) → kind ≡ 1 → eqb head.version 1 ≡ false → eqb head.version 3 ≡ false → IsBytes bytes
    → (append_at bytes >>= λ fields. retry_at fields.1 >>= λ dates. Some (DatedAppendFields head fields.0 dates.0, dates.1)) ≡ Some x → TakesOwn kind head bytes x.0 x.1
unfolding own_bytes FitsOwn
own_dated kind head bytes x is later_one no_third fits e =
    let read = bind_some (append_at bytes) (λ fields. retry_at fields.1 >>= λ dates. Some (DatedAppendFields head fields.0 dates.0, dates.1)) x e in
    let taken = append_takes bytes read.0 fits read.1 in
    let later = bind_some (retry_at read.0.1) (λ dates. Some (DatedAppendFields head read.0.0 dates.0, dates.1)) x read.2 in
    let dates = retry_takes read.0.1 later.0 taken.0.rest_fits later.1 in
    let both : Takes bytes (append_bytes read.0.0 ++ retry_bytes later.0.0) later.0.1 = Takes-then bytes (append_bytes read.0.0) read.0.1 (retry_bytes later.0.0) later.0.1 taken.0 dates.0 in
    let made : WireBody × List ℕ = (DatedAppendFields head read.0.0 later.0.0, later.0.1) in
    subst (λ (y : WireBody × List ℕ). TakesOwn kind head bytes y.0 y.1) (some_is made x later.2)
    (record { taken = both; fits = (later_one, (no_third, (taken.1, dates.1))); kind_is = is; head_is = refl })

own_typed : (kind : ℕ) (head : Head) (bytes : List ℕ) (x : WireBody × List ℕ) → kind ≡ 1 → eqb head.version 1 ≡ false → eqb head.version 3 ≡ true → IsBytes bytes
    → (append_at bytes >>= λ fields. retry_at fields.1 >>= λ dates. types_at dates.1 >>= λ types. Some (TypedAppendFields head fields.0 dates.0 types.0, types.1)) ≡ Some x → TakesOwn kind head bytes x.0 x.1
unfolding own_bytes FitsOwn
own_typed kind head bytes x is later_one third fits e =
    let read = bind_some (append_at bytes) (λ fields. retry_at fields.1 >>= λ dates. types_at dates.1 >>= λ types. Some (TypedAppendFields head fields.0 dates.0 types.0, types.1)) x e in
    let taken = append_takes bytes read.0 fits read.1 in
    let later = bind_some (retry_at read.0.1) (λ dates. types_at dates.1 >>= λ types. Some (TypedAppendFields head read.0.0 dates.0 types.0, types.1)) x read.2 in
    let dates = retry_takes read.0.1 later.0 taken.0.rest_fits later.1 in
    let last = bind_some (types_at later.0.1) (λ types. Some (TypedAppendFields head read.0.0 later.0.0 types.0, types.1)) x later.2 in
    let types = types_takes later.0.1 last.0 dates.0.rest_fits last.1 in
    let from_dates : Takes read.0.1 (retry_bytes later.0.0 ++ type_bytes last.0.0) last.0.1 = Takes-then read.0.1 (retry_bytes later.0.0) later.0.1 (type_bytes last.0.0) last.0.1 dates.0 types.0 in
    let all : Takes bytes (append_bytes read.0.0 ++ (retry_bytes later.0.0 ++ type_bytes last.0.0)) last.0.1 = Takes-then bytes (append_bytes read.0.0) read.0.1 (retry_bytes later.0.0 ++ type_bytes last.0.0) last.0.1 taken.0 from_dates in
    let made : WireBody × List ℕ = (TypedAppendFields head read.0.0 later.0.0 last.0.0, last.0.1) in
    subst (λ (y : WireBody × List ℕ). TakesOwn kind head bytes y.0 y.1) (some_is made x last.2)
    (record { taken = all; fits = (later_one, (third, (taken.1, (dates.1, types.1)))); kind_is = is; head_is = refl })

own_append : (kind : ℕ) (head : Head) (bytes : List ℕ) (x : WireBody × List ℕ) → kind ≡ 1 → IsBytes bytes → append_body_at head bytes ≡ Some x → TakesOwn kind head bytes x.0 x.1
unfolding append_body_at
own_append kind head bytes x is fits e =
    elim (chosen (eqb head.version 1) _ _ (Some x) e) [
      | inl first ↦ own_undated kind head bytes x is first.0 fits first.1
      | inr later ↦ elim (chosen (eqb head.version 3) _ _ (Some x) later.1) [
        | inl third ↦ own_typed kind head bytes x is later.0 third.0 fits third.1
        | inr second ↦ own_dated kind head bytes x is later.0 second.0 fits second.1
      ]
    ]

own_uncounted : (kind : ℕ) (head : Head) (bytes : List ℕ) (x : WireBody × List ℕ) → kind ≡ 2 → eqb head.version 3 ≡ false → IsBytes bytes
    → (flush_at bytes >>= λ fields. Some (FlushFieldsOf head fields.0, fields.1)) ≡ Some x → TakesOwn kind head bytes x.0 x.1
unfolding own_bytes FitsOwn
own_uncounted kind head bytes x is version fits e =
    let read = bind_some (flush_at bytes) (λ fields. Some (FlushFieldsOf head fields.0, fields.1)) x e in
    let taken = flush_takes bytes read.0 fits read.1 in
    let made : WireBody × List ℕ = (FlushFieldsOf head read.0.0, read.0.1) in
    subst (λ (y : WireBody × List ℕ). TakesOwn kind head bytes y.0 y.1) (some_is made x read.2)
    (record { taken = taken.0; fits = (version, taken.1); kind_is = is; head_is = refl })

wishes_takes : (bytes : List ℕ) (x : WishFields × List ℕ) → IsBytes bytes → wishes_at bytes ≡ Some x → Takes bytes (wish_bytes x.0) x.1 × FitsWishes x.0
unfolding wishes_at wish_bytes
wishes_takes bytes x fits e =
    let a = bind_some (number_at w32 bytes) (λ expected. byte_at expected.1 >>= λ returned. byte_at returned.1 >>= λ wording. text_at wording.1 >>= λ extensions. Some (record { expected = expected.0; returned = returned.0; wording = wording.0; extensions = extensions.0 }, extensions.1)) x e in
    let b = bind_some (byte_at a.0.1) (λ returned. byte_at returned.1 >>= λ wording. text_at wording.1 >>= λ extensions. Some (record { expected = a.0.0; returned = returned.0; wording = wording.0; extensions = extensions.0 }, extensions.1)) x a.2 in
    let c = bind_some (byte_at b.0.1) (λ wording. text_at wording.1 >>= λ extensions. Some (record { expected = a.0.0; returned = b.0.0; wording = wording.0; extensions = extensions.0 }, extensions.1)) x b.2 in
    let d = bind_some (text_at c.0.1) (λ extensions. Some (record { expected = a.0.0; returned = b.0.0; wording = c.0.0; extensions = extensions.0 }, extensions.1)) x c.2 in
    let t0 = number_takes w32 (2 ^ 32) wide32 bytes a.0.0 a.0.1 fits a.1 in
    let t1 = byte_takes a.0.1 b.0 t0.0.rest_fits b.1 in
    let t2 = byte_takes b.0.1 c.0 t1.rest_fits c.1 in
    let t3 = text_takes c.0.1 d.0.0 d.0.1 t2.rest_fits d.1 in
    let e23 = Takes-then b.0.1 (c.0.0 ∷ []) c.0.1 (text_bytes d.0.0) d.0.1 t2 t3.0 in
    let e13 = Takes-then a.0.1 (b.0.0 ∷ []) b.0.1 (c.0.0 ∷ text_bytes d.0.0) d.0.1 t1 e23 in
    let e03 = Takes-then bytes (number_bytes w32 a.0.0) a.0.1 (b.0.0 ∷ c.0.0 ∷ text_bytes d.0.0) d.0.1 t0.0 e13 in
    let made : WishFields × List ℕ = (record { expected = a.0.0; returned = b.0.0; wording = c.0.0; extensions = d.0.0 }, d.0.1) in
    subst (λ (y : WishFields × List ℕ). Takes bytes (wish_bytes y.0) y.1 × FitsWishes y.0) (some_is made x d.2) (e03, record { expected = t0.1; extensions = t3.1 })

own_counted : (kind : ℕ) (head : Head) (bytes : List ℕ) (x : WireBody × List ℕ) → kind ≡ 2 → eqb head.version 3 ≡ true → IsBytes bytes
    → (flush_at bytes >>= λ fields. wishes_at fields.1 >>= λ wishes. Some (CountedFlushFields head fields.0 wishes.0, wishes.1)) ≡ Some x → TakesOwn kind head bytes x.0 x.1
unfolding own_bytes counted_flush_bytes FitsOwn
own_counted kind head bytes x is version fits e =
    let read = bind_some (flush_at bytes) (λ fields. wishes_at fields.1 >>= λ wishes. Some (CountedFlushFields head fields.0 wishes.0, wishes.1)) x e in
    let taken = flush_takes bytes read.0 fits read.1 in
    let later = bind_some (wishes_at read.0.1) (λ wishes. Some (CountedFlushFields head read.0.0 wishes.0, wishes.1)) x read.2 in
    let wishes = wishes_takes read.0.1 later.0 taken.0.rest_fits later.1 in
    let both : Takes bytes (flush_bytes read.0.0 ++ wish_bytes later.0.0) later.0.1 = Takes-then bytes (flush_bytes read.0.0) read.0.1 (wish_bytes later.0.0) later.0.1 taken.0 wishes.0 in
    let made : WireBody × List ℕ = (CountedFlushFields head read.0.0 later.0.0, later.0.1) in
    subst (λ (y : WireBody × List ℕ). TakesOwn kind head bytes y.0 y.1) (some_is made x later.2)
    (record { taken = both; fits = (version, (taken.1, wishes.1)); kind_is = is; head_is = refl })

own_flush : (kind : ℕ) (head : Head) (bytes : List ℕ) (x : WireBody × List ℕ) → kind ≡ 2 → IsBytes bytes → flush_body_at head bytes ≡ Some x → TakesOwn kind head bytes x.0 x.1
unfolding flush_body_at
own_flush kind head bytes x is fits e =
    elim (chosen (eqb head.version 3) _ _ (Some x) e) [
      | inl counted ↦ own_counted kind head bytes x is counted.0 fits counted.1
      | inr uncounted ↦ own_uncounted kind head bytes x is uncounted.0 fits uncounted.1
    ]

own_discard : (kind : ℕ) (head : Head) (bytes : List ℕ) (x : WireBody × List ℕ) → kind ≡ 3 → IsBytes bytes → Some (DiscardFields head, bytes) ≡ Some x → TakesOwn kind head bytes x.0 x.1
unfolding own_bytes FitsOwn
own_discard kind head bytes x is fits e =
    let made : WireBody × List ℕ = (DiscardFields head, bytes) in
    subst (λ (y : WireBody × List ℕ). TakesOwn kind head bytes y.0 y.1) (some_is made x e)
    (record { taken = record { parts = refl; rest_fits = fits }; fits = tt; kind_is = is; head_is = refl })

own_forget : (kind : ℕ) (head : Head) (bytes : List ℕ) (x : WireBody × List ℕ) → IsBytes bytes
    → cond (eqb kind 4) (Some (ForgetFields head, bytes)) None ≡ Some x → TakesOwn kind head bytes x.0 x.1
unfolding own_bytes FitsOwn
own_forget kind head bytes x fits e =
    elim (chosen (eqb kind 4) (Some (ForgetFields head, bytes)) None (Some x) e) [
      | inl hit ↦
          let made : WireBody × List ℕ = (ForgetFields head, bytes) in
          subst (λ (y : WireBody × List ℕ). TakesOwn kind head bytes y.0 y.1) (some_is made x hit.1)
          (record { taken = record { parts = refl; rest_fits = fits }; fits = tt; kind_is = eqb-true _ _ hit.0; head_is = refl })
      | inr miss ↦ absurd (let impossible = miss.1 in cc)
    ]

pub own_takes : (kind : ℕ) (head : Head) (bytes : List ℕ) (x : WireBody × List ℕ) → IsBytes bytes → own_at kind head bytes ≡ Some x → TakesOwn kind head bytes x.0 x.1
unfolding own_at
own_takes kind head bytes x fits e =
    elim (chosen (eqb kind 1) _ _ (Some x) e) [
      | inl hit ↦ own_append kind head bytes x (eqb-true _ _ hit.0) fits hit.1
      | inr miss ↦ elim (chosen (eqb kind 2) _ _ (Some x) miss.1) [
        | inl hit ↦ own_flush kind head bytes x (eqb-true _ _ hit.0) fits hit.1
        | inr other ↦ elim (chosen (eqb kind 3) _ _ (Some x) other.1) [
          | inl hit ↦ own_discard kind head bytes x (eqb-true _ _ hit.0) fits hit.1
          | inr last ↦ own_forget kind head bytes x fits last.1
        ]
      ]
    ]

-- a body that is read has these bytes
pub body_takes : (bytes : List ℕ) (x : WireBody × List ℕ) → IsBytes bytes → body_at bytes ≡ Some x → Takes bytes (body_bytes x.0) x.1 × Fits x.0
unfolding body_at body_bytes
body_takes [] x fits e = absurd cc
body_takes (version ∷ []) x fits e = absurd cc
body_takes (version ∷ kind ∷ bytes) x fits e =
    let read = bind_some (head_at version bytes) (λ head. own_at kind head.0 head.1) x e in
    let head = head_takes version bytes read.0 (λ i. fits (suc (suc i))) read.1 in
    let own = own_takes kind read.0.0 read.0.1 x head.0.rest_fits read.2 in
    let parts : bytes ≡ (head_bytes read.0.0 ++ own_bytes x.0) ++ x.1 = (Takes-then bytes (head_bytes read.0.0) read.0.1 (own_bytes x.0) x.1 head.0 own.taken).parts in
    let whole : version ∷ kind ∷ bytes ≡ ((head_of x.0).version ∷ kind_of x.0 ∷ (head_bytes (head_of x.0) ++ own_bytes x.0)) ++ x.1 = rw (← own.head_is, ← own.kind_is, ← head.1.1, ← parts) refl in
    (record { parts = whole; rest_fits = own.taken.rest_fits }, (rw (← own.head_is) head.1.0, own.fits))
