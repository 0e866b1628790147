-- The number of numbers below a bound that pass a test.
use Rattle.std.proofs.Common.{◌≡◌, ℕ, zero, suc, ◌+◌, ◌<◌, ◌≤◌, Bool, true, false, ◌||◌, refl, arith}
use Rattle.std.proofs.lemmas.Bool.{false_from_ne_true}

abbrev one_if : Bool → ℕ
one_if true = 1
one_if false = 0

-- the number of numbers below the bound that pass the test
unfoldable pub count_below : (ℕ → Bool) → ℕ → ℕ
count_below test zero = 0
count_below test (suc n) = one_if (test n) + count_below test n

-- no number passes
pub count_below-none : (test : ℕ → Bool) (n : ℕ) → ((k : ℕ) → k < n → test k ≡ false) → count_below test n ≡ 0
unfolding count_below
count_below-none test zero none = refl
count_below-none test (suc n) none =
    rw (none n (omega arith), count_below-none test n (λ k below. none k (omega arith))) refl

-- each number passes
pub count_below-all : (test : ℕ → Bool) (n : ℕ) → ((k : ℕ) → k < n → test k ≡ true) → count_below test n ≡ n
unfolding count_below
count_below-all test zero all = refl
count_below-all test (suc n) all =
    rw (all n (omega arith), count_below-all test n (λ k below. all k (omega arith))) (omega arith)

-- at most one number passes
pub count_below-once : (test : ℕ → Bool) (n : ℕ) → ((j k : ℕ) → j < n → k < n → test j ≡ true → test k ≡ true → j ≡ k) → count_below test n ≤ 1
unfolding count_below
count_below-once test zero once = omega arith
count_below-once test (suc n) once =
    here (test n) refl (count_below-once test n (λ j k p q. once j k (omega arith) (omega arith)))
  where
    here : (passes : Bool) → test n ≡ passes → count_below test n ≤ 1 → one_if passes + count_below test n ≤ 1
    here false is rest = omega arith
    here true is rest =
        let none : count_below test n ≡ 0 =
        count_below-none test n (λ k below. false_from_ne_true (test k) (λ passes. let same : k ≡ n = once k n (omega arith) (omega arith) passes is in absurd (omega arith))) in
        omega arith

-- one more number is checked by two tests
or-step : (a b : Bool) (both left right : ℕ) → both ≤ left + right → one_if (a || b) + both ≤ (one_if a + left) + (one_if b + right)
or-step true true both left right rest = omega arith
or-step true false both left right rest = omega arith
or-step false true both left right rest = omega arith
or-step false false both left right rest = omega arith

-- the numbers that pass one of two tests are at most those that pass the first and those that pass the second
pub count_below-or : (test other : ℕ → Bool) (n : ℕ) → count_below (λ k. test k || other k) n ≤ count_below test n + count_below other n
unfolding count_below
count_below-or test other zero = omega arith
count_below-or test other (suc n) =
    or-step (test n) (other n) (count_below (λ k. test k || other k) n) (count_below test n) (count_below other n) (count_below-or test other n)
