-- `same_key` decides whether two keys are equal.
use Rattle.std.specs.Prelude.{◌≡◌, ℕ, List, true, refl}
use Rattle.std.specs.Bool.{Decides}
use Rattle.std.proofs.Common.{sym, ap, ◌∙◌, arith}
use Rattle.std.proofs.lemmas.Bool.Decides.{same_from_decides}
use Rattle.std.proofs.lemmas.Slice.Eq.{bytes_eq-Decides}
use Rattle.dsn_text.specs.declared.key.Key.{Key}
use Rattle.dsn_text.specs.declared.service.Service.{Service}
use Rattle.dsn_text.specs.declared.service.Service.TheVariants.{Bounce, Defer, Trace}
use Rattle.dsn_text.specs.Service.{same_service}
use Rattle.dsn_text.specs.Key.{same_key}

pub same_service-Decides : (a b : Service) → Decides (same_service a b) (a ≡ b)
same_service-Decides Bounce Bounce = (λ _. refl, λ _. refl)
same_service-Decides Bounce Defer = (λ differ. cc, λ differ. cc)
same_service-Decides Bounce Trace = (λ differ. cc, λ differ. cc)
same_service-Decides Defer Bounce = (λ differ. cc, λ differ. cc)
same_service-Decides Defer Defer = (λ _. refl, λ _. refl)
same_service-Decides Defer Trace = (λ differ. cc, λ differ. cc)
same_service-Decides Trace Bounce = (λ differ. cc, λ differ. cc)
same_service-Decides Trace Defer = (λ differ. cc, λ differ. cc)
same_service-Decides Trace Trace = (λ _. refl, λ _. refl)

-- keys with equal parts are equal
key_of_parts : (a b : Key) → a.service ≡ b.service → a.id ≡ b.id → a ≡ b
key_of_parts a b services ids =
    let first : a ≡ record a { service = b.service } = ap (λ (service : Service). record a { service = service }) services in
    let second : record a { service = b.service } ≡ b = ap (λ (id : List ℕ). record { service = b.service; id = id }) ids in
    first ∙ second

-- keys that `same_key` accepts are equal
pub same_key-equal : (a b : Key) → same_key a b ≡ true → a ≡ b
same_key-equal a b same =
    key_of_parts a b (grind (arith, (same_service-Decides a.service b.service).0)) (grind (arith, (bytes_eq-Decides a.id b.id).0))

-- `same_key` accepts a key and itself
pub same_key_refl : (a : Key) → same_key a a ≡ true
same_key_refl a = rw ((same_service-Decides a.service a.service).1 refl, (bytes_eq-Decides a.id a.id).1 refl)

-- `same_key` accepts equal keys
pub equal-same_key : (a b : Key) → a ≡ b → same_key a b ≡ true
equal-same_key a b equal = rw (← equal) (same_key_refl a)

-- `same_key` decides whether keys are equal
pub same_key-Decides : (a b : Key) → Decides (same_key a b) (a ≡ b)
same_key-Decides a b = (same_key-equal a b, equal-same_key a b)

-- `same_key` is symmetric
pub same_key_sym : (a b : Key) → same_key a b ≡ same_key b a
same_key_sym a b =
    same_from_decides (same_key a b) (same_key b a) (same_key-Decides a b) (λ same. sym (same_key-equal b a same), λ equal. equal-same_key b a (sym equal))
