-- Worked examples of valid status codes, and of texts that are refused.
use Rattle.std.specs.Prelude.{◌≡◌, true, false, codes, refl}
use Rattle.std.proofs.lemmas.Bool.{false≢true}
use Rattle.dsn_text.specs.Status.{IsStatusCode, is_status_code}
use Rattle.dsn_text.proofs.StatusLemmas.{is_status_code-passes}

bad_mailbox : is_status_code (codes "5.1.1") ≡ true
bad_mailbox = refl

delivery_time_expired : is_status_code (codes "4.4.7") ≡ true
delivery_time_expired = refl

success : is_status_code (codes "2.0.0") ≡ true
success = refl

longest : is_status_code (codes "5.999.999") ≡ true
longest = refl

leading_zero : is_status_code (codes "5.01.1") ≡ false
leading_zero = refl

leading_zero_in_detail : is_status_code (codes "5.1.00") ≡ false
leading_zero_in_detail = refl

unknown_class : is_status_code (codes "3.0.0") ≡ false
unknown_class = refl

long_class : is_status_code (codes "55.0.0") ≡ false
long_class = refl

four_digits : is_status_code (codes "5.1000.1") ≡ false
four_digits = refl

no_detail : is_status_code (codes "5.1") ≡ false
no_detail = refl

empty_subject : is_status_code (codes "5..1") ≡ false
empty_subject = refl

fourth_number : is_status_code (codes "5.1.1.1") ≡ false
fourth_number = refl

space_after : is_status_code (codes "5.1.1 ") ≡ false
space_after = refl

empty : is_status_code (codes "") ≡ false
empty = refl

-- the definition refuses this text as well
no_leading_zero : ¬ IsStatusCode (codes "5.01.1")
no_leading_zero code = false≢true (is_status_code-passes (codes "5.01.1") code)

no_unknown_class : ¬ IsStatusCode (codes "3.0.0")
no_unknown_class code = false≢true (is_status_code-passes (codes "3.0.0") code)

no_four_digits : ¬ IsStatusCode (codes "5.1000.1")
no_four_digits code = false≢true (is_status_code-passes (codes "5.1000.1") code)
