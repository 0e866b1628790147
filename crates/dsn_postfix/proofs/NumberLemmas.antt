-- A text writes the number whose decimal text it is.
use Rattle.std.proofs.Common.{◌≡◌, ℕ, zero, suc, ◌==◌, ◌<◌, ◌≤◌, ◌^◌, Bool, true, false, cond, ltb, ◌&&◌, List, [], ◌∷◌, decimal, Option, Some, None, refl, sym, ap, subst, ◌∙◌, arith}
use Rattle.std.specs.Cmp.{unsigned_Decides}
use Rattle.std.specs.Cmp.Lexicographic.{pointwise}
use Rattle.std.specs.Str.Parse.{AllDigits, digits_value}
use Rattle.std.proofs.Math.Dec.{eqb-suc-zero}
use Rattle.std.proofs.lemmas.Bool.{ltb-true, lt-ltb}
use Rattle.std.proofs.lemmas.Fmt.{decimal_is_IsNumeral}
use Rattle.std.proofs.lemmas.Slice.Eq.{slice_eq-Decides}
use Rattle.dsn_postfix.specs.Attribute.{number_in}
use Rattle.dsn_postfix_files.specs.ZeroFree.{IsZeroFree}

-- texts that are compared byte for byte
pub same_bytes : (xs ys : List ℕ) → pointwise ◌==◌ xs ys ≡ true → xs ≡ ys
same_bytes xs ys e = (slice_eq-Decides unsigned_Decides xs ys (pointwise ◌==◌ xs ys) refl).0 e

pub compared_same : (xs ys : List ℕ) → xs ≡ ys → pointwise ◌==◌ xs ys ≡ true
compared_same xs ys e = (slice_eq-Decides unsigned_Decides xs ys (pointwise ◌==◌ xs ys) refl).1 e

both_pass : (a b : Bool) (v n : ℕ) → cond (a && b) (Some v) None ≡ Some n → (a ≡ true) × (b ≡ true) × (v ≡ n)
both_pass true true v n e = (refl, refl, cc)
both_pass true false v n e = absurd cc
both_pass false b v n e = absurd cc

one_fails : (a b : Bool) (v : ℕ) → (a ≡ true → b ≡ true → ⊥) → cond (a && b) (Some v) None ≡ None
one_fails true true v refuted = absurd (refuted refl refl)
one_fails true false v refuted = refl
one_fails false b v refuted = refl

-- a number that was read has this text
pub number_takes : (limit : ℕ) (text : List ℕ) (n : ℕ) → number_in limit text ≡ Some n → (text ≡ decimal n) × (n < limit)
unfolding number_in
number_takes limit text n e =
    let parts = both_pass (ltb (digits_value 10 text) limit) (pointwise ◌==◌ (decimal (digits_value 10 text)) text) (digits_value 10 text) n e in
    let written : decimal (digits_value 10 text) ≡ text = same_bytes _ _ parts.1 in
    (sym written ∙ ap (λ (m : ℕ). decimal m) parts.2, subst (λ (m : ℕ). m < limit) parts.2 (ltb-true _ _ parts.0))

-- the text of a number is read as it
pub number_again : (limit n : ℕ) → n < limit → limit ≤ 2 ^ 64 → number_in limit (decimal n) ≡ Some n
unfolding number_in
number_again limit n low few =
    let back : digits_value 10 (decimal n) ≡ n = (decimal_is_IsNumeral n (omega (arith, low, few))).1 in
    rw (back, lt-ltb n limit low, compared_same (decimal n) (decimal n) refl) refl

pub number_known : (limit : ℕ) (text : List ℕ) (n : ℕ) → n < limit → limit ≤ 2 ^ 64 → text ≡ decimal n → number_in limit text ≡ Some n
number_known limit text n low few is = rw is (number_again limit n low few)

-- a text that is no number's is read as `None`
pub number_unknown : (limit : ℕ) (text : List ℕ) → ((n : ℕ) → n < limit → text ≡ decimal n → ⊥) → number_in limit text ≡ None
unfolding number_in
number_unknown limit text refuted =
    one_fails (ltb (digits_value 10 text) limit) (pointwise ◌==◌ (decimal (digits_value 10 text)) text) (digits_value 10 text)
    (λ low same. refuted (digits_value 10 text) (ltb-true _ _ low) (sym (same_bytes _ _ same)))

-- two numbers that are there and the same
abbrev there : ℕ → Option ℕ
there n = Some n

pub the_same : {m n : ℕ} → there m ≡ there n → m ≡ n
the_same e = cc

-- no byte of a number's text is zero
no_zero_digit : (text : List ℕ) → AllDigits 10 text → IsZeroFree text
no_zero_digit [] digits = refl
no_zero_digit (zero ∷ text) digits = absurd (omega (arith, digits.0))
no_zero_digit (suc byte ∷ text) digits = rw (eqb-suc-zero byte) (no_zero_digit text digits.1)

pub decimal_free : (n : ℕ) → n < 2 ^ 64 → IsZeroFree (decimal n)
decimal_free n low = no_zero_digit (decimal n) (decimal_is_IsNumeral n low).0.1
