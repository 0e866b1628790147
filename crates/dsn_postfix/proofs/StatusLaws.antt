-- Bytes are read as a status exactly if they are the bytes of that status.
use Rattle.std.proofs.Common.{◌≡◌, ℕ, ◌<◌, List, [], ◌∷◌, Ok, refl, ap, ◌∙◌, arith}
use Rattle.std.specs.Prelude.{codes}
use Rattle.dsn_postfix.specs.Attribute.{number_attribute, number_limit}
use Rattle.dsn_postfix.specs.PostfixAnswer.{status_at, status_bytes}
use Rattle.dsn_postfix.specs.RequestReading.{end_at, value_number_at}
use Rattle.dsn_postfix.proofs.AttributeLaws.{number_takes_attribute, ok_is}
use Rattle.dsn_postfix.proofs.FieldReadings.{listed, listed_more, number_listed, with_read}
use Rattle.dsn_postfix.proofs.RequestLaws.{ended}

-- bytes that are read as a status are its bytes
pub status_takes : (bytes : List ℕ) (status : ℕ) → status_at bytes ≡ Ok status → bytes ≡ status_bytes status
unfolding status_at status_bytes
status_takes bytes status e =
    with_read (value_number_at number_limit (codes "status") bytes) _ status e (λ number number_is after_number.
    with_read (end_at number.1) _ status after_number (λ end end_is after.
    let part = number_takes_attribute number_limit (codes "status") bytes number.0 number.1 number_is in
    let parts : bytes ≡ listed (number_attribute (codes "status") number.0 ∷ []) number.1 = listed_more (number_attribute (codes "status") number.0) [] bytes number.1 number.1 part.0 refl in
    parts ∙ ap (listed (number_attribute (codes "status") number.0 ∷ [])) (ended number.1 end end_is)
    ∙ ap (λ (n : ℕ). listed (number_attribute (codes "status") n ∷ []) (0 ∷ [])) (ok_is number.0 status after)))

-- the bytes of a status are read as it
pub status_again : (bytes : List ℕ) (status : ℕ) → status < number_limit → bytes ≡ status_bytes status → status_at bytes ≡ Ok status
unfolding status_at status_bytes
status_again bytes status low is =
    rw (is, number_listed number_limit (codes "status") status [] (0 ∷ []) (record { some = omega arith; free = refl }) low (omega arith)) refl
