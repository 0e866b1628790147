-- Texts that end with a zero: the first zero of some bytes is the end of the text.
use Rattle.std.proofs.Common.{◌≡◌, ℕ, zero, suc, ◌+◌, ◌<◌, ◌≤◌, List, [], ◌∷◌, length, take, drop, Some, None, refl, arith}
use Rattle.std.proofs.Math.Dec.{eqb-suc-zero}
use Rattle.std.proofs.lemmas.Bool.{eqb-true}
use Rattle.std.proofs.lemmas.List.{length-take}
use Rattle.memchr.specs.Find.{NoneBefore, Nowhere, Passes, is_byte}
use Rattle.dsn_postfix.specs.Attribute.{zero_ended_at}
use Rattle.dsn_postfix_files.specs.ZeroFree.{IsZeroFree}

-- the bytes after a first byte that isn't zero
later : (byte : ℕ) (bytes : List ℕ) (j : ℕ) → Nowhere (Passes (is_byte 0) (byte ∷ bytes)) 0 (suc j) → Nowhere (Passes (is_byte 0) bytes) 0 j
later byte bytes j none k low high passes = none (suc k) (omega arith) (omega (arith, high)) passes

-- no zero before a place
free_to : (bytes : List ℕ) (n : ℕ) → n ≤ length bytes → Nowhere (Passes (is_byte 0) bytes) 0 n → IsZeroFree (take n bytes)
free_to bytes zero low none = refl
free_to [] (suc n) low none = absurd (omega (arith, low))
free_to (zero ∷ bytes) (suc n) low none = absurd (none 0 (omega arith) (omega arith) refl)
free_to (suc byte ∷ bytes) (suc n) low none = rw (eqb-suc-zero byte) (free_to bytes n (omega (arith, low)) (later (suc byte) bytes n none))

ended_at : (bytes : List ℕ) (n : ℕ) → n < length bytes → Nowhere (Passes (is_byte 0) bytes) 0 n → Passes (is_byte 0) bytes n → zero_ended_at bytes ≡ Some (take n bytes, drop (suc n) bytes)
ended_at [] n low none passes = absurd (omega (arith, low))
ended_at (zero ∷ bytes) zero low none passes = refl
ended_at (zero ∷ bytes) (suc n) low none passes = absurd (none 0 (omega arith) (omega arith) refl)
ended_at (suc byte ∷ bytes) zero low none passes = absurd (omega (arith, eqb-true (suc byte) 0 passes))
ended_at (suc byte ∷ bytes) (suc n) low none passes =
    rw (ended_at bytes n (omega (arith, low)) (later (suc byte) bytes n none) passes) refl

unended : (bytes : List ℕ) → Nowhere (Passes (is_byte 0) bytes) 0 (length bytes) → zero_ended_at bytes ≡ None
unended [] none = refl
unended (zero ∷ bytes) none = absurd (none 0 (omega arith) (omega arith) refl)
unended (suc byte ∷ bytes) none = rw (unended bytes (later (suc byte) bytes (length bytes) none)) refl

taken : (bytes : List ℕ) (n : ℕ) → n < length bytes → length (take n bytes) + 1 ≡ suc n
taken bytes n low = omega (arith, low, length-take n bytes)

pub first_zero : (bytes : List ℕ) (n : ℕ) → NoneBefore (Passes (is_byte 0) bytes) 0 (length bytes) n × Passes (is_byte 0) bytes n → zero_ended_at bytes ≡ Some (take n bytes, drop (length (take n bytes) + 1) bytes)
first_zero bytes n first = rw (taken bytes n first.0.high) (ended_at bytes n first.0.high first.0.before first.1)

pub free_before : (bytes : List ℕ) (n : ℕ) → NoneBefore (Passes (is_byte 0) bytes) 0 (length bytes) n × Passes (is_byte 0) bytes n → IsZeroFree (take n bytes)
free_before bytes n first = free_to bytes n (omega (arith, first.0.high)) first.0.before

pub no_zero : (bytes : List ℕ) → Nowhere (Passes (is_byte 0) bytes) 0 (length bytes) → zero_ended_at bytes ≡ None
no_zero bytes none = unended bytes none
