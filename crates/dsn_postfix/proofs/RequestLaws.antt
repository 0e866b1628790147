-- Bytes are read as a request exactly if they are the bytes of that request.
use Rattle.std.proofs.Common.{◌≡◌, ℕ, zero, suc, ◌<◌, Bool, List, [], ◌∷◌, ◌++◌, drop, Ok, refl, ap, subst, ◌∙◌, sym, arith}
use Rattle.std.specs.Prelude.{codes}
use Rattle.dsn_text.specs.Text.{is_queue_id}
use Rattle.dsn_postfix.specs.Attribute.{Attribute, attribute_bytes, number_attribute, number_limit, text_attribute}
use Rattle.dsn_postfix_files.specs.ZeroFree.{is_zero_free}
use Rattle.dsn_postfix.specs.AttributeValues.{are_delimiters}
use Rattle.dsn_postfix.specs.PostfixRequest.{FitsAppendRequest, FitsNotice, FitsRecipient, IsPostfixRequest, IsRequestIn, append_attributes, command_number, notice_attributes, own_attributes, postfix_request_bytes, recipient_attributes, report_attributes}
use Rattle.dsn_postfix.specs.RequestReading.{append_only_at, append_request_at, end_at, notice_at, notice_request_at, one_at, own_request_at, postfix_request_at, recipient_at, report_at, tested_at, value_number_at, verp_at}
use Rattle.dsn_postfix.specs.declared.postfix_request.AppendRequest.{AppendRequest}
use Rattle.dsn_postfix.specs.declared.postfix_request.DeliveryReport.{DeliveryReport}
use Rattle.dsn_postfix.specs.declared.postfix_request.NoticeRequest.{NoticeRequest}
use Rattle.dsn_postfix.specs.declared.postfix_request.PostfixRequest.{PostfixRequest}
use Rattle.dsn_postfix.specs.declared.postfix_request.PostfixRequest.TheVariants.{Append, Flush, Warn, Verp, One, Trace}
use Rattle.dsn_postfix.specs.declared.postfix_request.ReportedRecipient.{ReportedRecipient}
use Rattle.dsn_postfix.specs.declared.request_fault.RequestFault.TheVariants.{QueueId, Delimiters}
use Rattle.dsn_postfix.proofs.AttributeLaws.{number_takes_attribute, ok_is, tested_takes}
use Rattle.dsn_postfix.proofs.FieldReadings.{letters_free, listed, listed_both, listed_more, notice_again, notice_takes, number_listed, recipient_again, recipient_takes, report_again, report_takes, second, tested_listed, with_read}

-- ---- an append

outcome_listed : (recipient : ReportedRecipient) (report : DeliveryReport) (bytes between rest : List ℕ) → bytes ≡ listed (recipient_attributes recipient) between → between ≡ listed (report_attributes report) rest → bytes ≡ listed (recipient_attributes recipient ++ report_attributes report) rest
outcome_listed recipient report bytes between rest first others =
    first ∙ ap (listed (recipient_attributes recipient)) others ∙ sym (listed_both (recipient_attributes recipient) (report_attributes report) rest)

same_append : (bytes : List ℕ) (read request : AppendRequest) (after rest : List ℕ) → ◌≡◌ {A = AppendRequest × List ℕ} (read, after) (request, rest) → bytes ≡ listed (append_attributes read) after → FitsAppendRequest read → (bytes ≡ listed (append_attributes request) rest) × FitsAppendRequest request
same_append bytes read request after rest same parts fits =
    subst (λ (p : AppendRequest × List ℕ). (bytes ≡ listed (append_attributes p.0) p.1) × FitsAppendRequest p.0) same (parts, fits)

append_takes : (bytes : List ℕ) (request : AppendRequest) (rest : List ℕ) → append_request_at bytes ≡ Ok (request, rest) → (bytes ≡ listed (append_attributes request) rest) × FitsAppendRequest request
unfolding append_request_at
append_takes bytes request rest e =
    with_read (value_number_at number_limit (codes "flags") bytes) _ (request, rest) e (λ flags flags_is after_flags.
    with_read (tested_at is_queue_id QueueId (codes "queue_id") flags.1) _ (request, rest) after_flags (λ id id_is after_id.
    with_read (recipient_at id.1) _ (request, rest) after_id (λ recipient recipient_is after_recipient.
    with_read (report_at recipient.1) _ (request, rest) after_recipient (λ report report_is after_report.
    let flags_part = number_takes_attribute number_limit (codes "flags") bytes flags.0 flags.1 flags_is in
    let id_part = tested_takes is_queue_id QueueId (codes "queue_id") flags.1 id.0 id.1 id_is in
    let recipient_part = recipient_takes id.1 recipient.0 recipient.1 recipient_is in
    let report_part = report_takes recipient.1 report.0 report.1 report_is in
    same_append bytes (record { flags = flags.0; queue_id = id.0; recipient = recipient.0; report = report.0 }) request report.1 rest (ok_is _ _ after_report)
    (listed_more (number_attribute (codes "flags") flags.0) (text_attribute (codes "queue_id") id.0 ∷ (recipient_attributes recipient.0 ++ report_attributes report.0)) bytes flags.1 report.1 flags_part.0
    (listed_more (text_attribute (codes "queue_id") id.0) (recipient_attributes recipient.0 ++ report_attributes report.0) flags.1 id.1 report.1 id_part.0
    (outcome_listed recipient.0 report.0 id.1 recipient.1 report.1 recipient_part.0 report_part.0)))
    (record { flags = flags_part.1; queue_id = id_part.1; recipient = recipient_part.1; report = report_part.1 })))))

recipient_before : (recipient : ReportedRecipient) (report : DeliveryReport) (rest : List ℕ) → FitsRecipient recipient → recipient_at (listed (recipient_attributes recipient ++ report_attributes report) rest) ≡ Ok (recipient, listed (report_attributes report) rest)
recipient_before recipient report rest fits =
    ap recipient_at (listed_both (recipient_attributes recipient) (report_attributes report) rest) ∙ recipient_again recipient (listed (report_attributes report) rest) fits

append_again : (request : AppendRequest) (rest : List ℕ) → FitsAppendRequest request → append_request_at (listed (append_attributes request) rest) ≡ Ok (request, rest)
unfolding append_request_at
append_again request rest fits =
    rw (
      number_listed number_limit (codes "flags") request.flags (drop 1 (append_attributes request)) rest (record { some = omega arith; free = refl }) fits.flags (omega arith),
      tested_listed is_queue_id QueueId (codes "queue_id") request.queue_id (recipient_attributes request.recipient ++ report_attributes request.report) rest (record { some = omega arith; free = refl }) (letters_free 1 32 request.queue_id fits.queue_id) fits.queue_id,
      recipient_before request.recipient request.report rest fits.recipient,
      report_again request.report rest fits.report,
    ) refl

-- ---- what follows the number of the request

pub record OwnTaken (command : ℕ) (bytes : List ℕ) (request : PostfixRequest) (rest : List ℕ) : Type 0 where
  pub command_is : command_number request ≡ command
  pub parts : bytes ≡ listed (own_attributes request) rest
  pub fits : IsPostfixRequest request

same_own : (command : ℕ) (bytes : List ℕ) (read request : PostfixRequest) (after rest : List ℕ) → ◌≡◌ {A = PostfixRequest × List ℕ} (read, after) (request, rest) → OwnTaken command bytes read after → OwnTaken command bytes request rest
same_own command bytes read request after rest same taken =
    subst (λ (p : PostfixRequest × List ℕ). OwnTaken command bytes p.0 p.1) same taken

append_own : (bytes : List ℕ) (request : PostfixRequest) (rest : List ℕ) → append_only_at bytes ≡ Ok (request, rest) → OwnTaken 0 bytes request rest
unfolding append_only_at IsPostfixRequest
append_own bytes request rest e =
    with_read (append_request_at bytes) _ (request, rest) e (λ read read_is after.
    let taken = append_takes bytes read.0 read.1 read_is in
    same_own 0 bytes (Append read.0) request read.1 rest (ok_is _ _ after) (record { command_is = refl; parts = taken.0; fits = taken.1 }))

notice_own : (asks : NoticeRequest → PostfixRequest) (command : ℕ) (bytes : List ℕ) (request : PostfixRequest) (rest : List ℕ) → ((notice : NoticeRequest) (after : List ℕ) → bytes ≡ listed (notice_attributes notice) after → FitsNotice notice → OwnTaken command bytes (asks notice) after) → notice_at asks bytes ≡ Ok (request, rest) → OwnTaken command bytes request rest
unfolding notice_at
notice_own asks command bytes request rest taken_as e =
    with_read (notice_request_at bytes) _ (request, rest) e (λ read read_is after.
    let taken = notice_takes bytes read.0 read.1 read_is in
    same_own command bytes (asks read.0) request read.1 rest (ok_is _ _ after) (taken_as read.0 read.1 taken.0 taken.1))

verp_own : (bytes : List ℕ) (request : PostfixRequest) (rest : List ℕ) → verp_at bytes ≡ Ok (request, rest) → OwnTaken 3 bytes request rest
unfolding verp_at IsPostfixRequest
verp_own bytes request rest e =
    with_read (notice_request_at bytes) _ (request, rest) e (λ read read_is after_read.
    with_read (tested_at are_delimiters Delimiters (codes "verp_delimiters") read.1) _ (request, rest) after_read (λ text text_is after.
    let taken = notice_takes bytes read.0 read.1 read_is in
    let text_part = tested_takes are_delimiters Delimiters (codes "verp_delimiters") read.1 text.0 text.1 text_is in
    let last : read.1 ≡ listed (text_attribute (codes "verp_delimiters") text.0 ∷ []) text.1 = listed_more (text_attribute (codes "verp_delimiters") text.0) [] read.1 text.1 text.1 text_part.0 refl in
    let parts : bytes ≡ listed (notice_attributes read.0 ++ text_attribute (codes "verp_delimiters") text.0 ∷ []) text.1 = taken.0 ∙ ap (listed (notice_attributes read.0)) last ∙ sym (listed_both (notice_attributes read.0) (text_attribute (codes "verp_delimiters") text.0 ∷ []) text.1) in
    same_own 3 bytes (Verp read.0 text.0) request text.1 rest (ok_is _ _ after) (record { command_is = refl; parts = parts; fits = (taken.1, text_part.1) })))

one_own : (bytes : List ℕ) (request : PostfixRequest) (rest : List ℕ) → one_at bytes ≡ Ok (request, rest) → OwnTaken 4 bytes request rest
unfolding one_at IsPostfixRequest
one_own bytes request rest e =
    with_read (notice_request_at bytes) _ (request, rest) e (λ read read_is after_read.
    with_read (recipient_at read.1) _ (request, rest) after_read (λ recipient recipient_is after_recipient.
    with_read (report_at recipient.1) _ (request, rest) after_recipient (λ report report_is after.
    let taken = notice_takes bytes read.0 read.1 read_is in
    let recipient_part = recipient_takes read.1 recipient.0 recipient.1 recipient_is in
    let report_part = report_takes recipient.1 report.0 report.1 report_is in
    let last = outcome_listed recipient.0 report.0 read.1 recipient.1 report.1 recipient_part.0 report_part.0 in
    let parts : bytes ≡ listed (notice_attributes read.0 ++ (recipient_attributes recipient.0 ++ report_attributes report.0)) report.1 = taken.0 ∙ ap (listed (notice_attributes read.0)) last ∙ sym (listed_both (notice_attributes read.0) (recipient_attributes recipient.0 ++ report_attributes report.0) report.1) in
    same_own 4 bytes (One read.0 recipient.0 report.0) request report.1 rest (ok_is _ _ after) (record { command_is = refl; parts = parts; fits = (taken.1, (recipient_part.1, report_part.1)) }))))

own_takes : (command : ℕ) (bytes : List ℕ) (request : PostfixRequest) (rest : List ℕ) → own_request_at command bytes ≡ Ok (request, rest) → OwnTaken command bytes request rest
unfolding own_request_at IsPostfixRequest
own_takes zero bytes request rest e = append_own bytes request rest e
own_takes (suc zero) bytes request rest e = notice_own Flush 1 bytes request rest (λ notice after parts fits. record { command_is = refl; parts = parts; fits = fits }) e
own_takes (suc (suc zero)) bytes request rest e = notice_own Warn 2 bytes request rest (λ notice after parts fits. record { command_is = refl; parts = parts; fits = fits }) e
own_takes (suc (suc (suc zero))) bytes request rest e = verp_own bytes request rest e
own_takes (suc (suc (suc (suc zero)))) bytes request rest e = one_own bytes request rest e
own_takes (suc (suc (suc (suc (suc zero))))) bytes request rest e = notice_own Trace 5 bytes request rest (λ notice after parts fits. record { command_is = refl; parts = parts; fits = fits }) e
own_takes (suc (suc (suc (suc (suc (suc command)))))) bytes request rest e = absurd cc

notice_before : (notice : NoticeRequest) (more : List Attribute) (rest : List ℕ) → FitsNotice notice → notice_request_at (listed (notice_attributes notice ++ more) rest) ≡ Ok (notice, listed more rest)
notice_before notice more rest fits =
    ap (notice_request_at) (listed_both (notice_attributes notice) more rest) ∙ notice_again notice (listed more rest) fits

own_again : (request : PostfixRequest) (rest : List ℕ) → IsPostfixRequest request → own_request_at (command_number request) (listed (own_attributes request) rest) ≡ Ok (request, rest)
unfolding own_request_at append_only_at notice_at verp_at one_at IsPostfixRequest
own_again (Append request) rest fits = rw (append_again request rest fits) refl
own_again (Flush notice) rest fits = rw (notice_again notice rest fits) refl
own_again (Warn notice) rest fits = rw (notice_again notice rest fits) refl
own_again (Verp notice delimiters) rest fits =
    rw (
      notice_before notice (text_attribute (codes "verp_delimiters") delimiters ∷ []) rest fits.0,
      tested_listed are_delimiters Delimiters (codes "verp_delimiters") delimiters [] rest (record { some = omega arith; free = refl }) (second _ (is_zero_free delimiters) fits.1) fits.1,
    ) refl
own_again (One notice recipient report) rest fits =
    rw (
      notice_before notice (recipient_attributes recipient ++ report_attributes report) rest fits.0,
      recipient_before recipient report rest fits.1.0,
      report_again report rest fits.1.1,
    ) refl
own_again (Trace notice) rest fits = rw (notice_again notice rest fits) refl

-- ---- a whole request

pub ended : (rest : List ℕ) (x : Bool) → end_at rest ≡ Ok x → rest ≡ 0 ∷ []
ended [] x e = absurd cc
ended (zero ∷ []) x e = refl
ended (zero ∷ (byte ∷ rest)) x e = absurd cc
ended (suc byte ∷ rest) x e = absurd cc

same_request : (bytes : List ℕ) (read request : PostfixRequest) → read ≡ request → IsRequestIn bytes read → IsRequestIn bytes request
same_request bytes read request same is = subst (λ (r : PostfixRequest). IsRequestIn bytes r) same is

-- bytes that are read as a request are its bytes
pub request_takes : (bytes : List ℕ) (request : PostfixRequest) → postfix_request_at bytes ≡ Ok request → IsRequestIn bytes request
unfolding postfix_request_at postfix_request_bytes
request_takes bytes request e =
    with_read (value_number_at number_limit (codes "nrequest") bytes) _ request e (λ command command_is after_command.
    with_read (own_request_at command.0 command.1) _ request after_command (λ read read_is after_read.
    with_read (end_at read.1) _ request after_read (λ end end_is after.
    let command_part = number_takes_attribute number_limit (codes "nrequest") bytes command.0 command.1 command_is in
    let own = own_takes command.0 command.1 read.0 read.1 read_is in
    let last : read.1 ≡ 0 ∷ [] = ended read.1 end end_is in
    let first : bytes ≡ attribute_bytes (number_attribute (codes "nrequest") (command_number read.0)) ++ command.1 = command_part.0 ∙ ap (λ (n : ℕ). attribute_bytes (number_attribute (codes "nrequest") n) ++ command.1) (sym own.command_is) in
    let parts : bytes ≡ listed (number_attribute (codes "nrequest") (command_number read.0) ∷ own_attributes read.0) read.1 = listed_more (number_attribute (codes "nrequest") (command_number read.0)) (own_attributes read.0) bytes command.1 read.1 first own.parts in
    same_request bytes read.0 request (ok_is _ _ after) (record {
      bytes_are = parts ∙ ap (listed (number_attribute (codes "nrequest") (command_number read.0) ∷ own_attributes read.0)) last;
      fits = own.fits;
    }))))

command_fits : (request : PostfixRequest) → command_number request < number_limit
command_fits (Append request) = omega arith
command_fits (Flush request) = omega arith
command_fits (Warn request) = omega arith
command_fits (Verp request delimiters) = omega arith
command_fits (One request recipient report) = omega arith
command_fits (Trace request) = omega arith

-- the bytes of a request are read as it
pub request_again : (request : PostfixRequest) → IsPostfixRequest request → postfix_request_at (postfix_request_bytes request) ≡ Ok request
unfolding postfix_request_at postfix_request_bytes
request_again request fits =
    rw (
      number_listed number_limit (codes "nrequest") (command_number request) (own_attributes request) (0 ∷ []) (record { some = omega arith; free = refl }) (command_fits request) (omega arith),
      own_again request (0 ∷ []) fits,
    ) refl

-- bytes of a request are read as it
pub request_is_read : (bytes : List ℕ) (request : PostfixRequest) → IsRequestIn bytes request → postfix_request_at bytes ≡ Ok request
request_is_read bytes request is = ap (postfix_request_at) is.bytes_are ∙ request_again request is.fits
