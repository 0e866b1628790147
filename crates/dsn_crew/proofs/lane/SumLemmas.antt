-- Sums: a sum over a list is the sum, over all agents, of the sums over what is of each agent.
use Rattle.std.proofs.Common.{◌≡◌, ℕ, zero, suc, ◌+◌, ◌<◌, ◌≤◌, ◌==◌, Bool, true, false, cond, List, [], ◌∷◌, length, refl, ap, sym, ◌∙◌, true≢false, eq-eqb, ne_eqb, lt_of_not-le, arith}
use Rattle.std.specs.List.{sum_by}
use Rattle.std.proofs.lemmas.List.Sums.{sum_by-cons}
use native.Mathlib.Decide.{ℕ_discrete}
use Rattle.dsn_outcome.specs.Agents.{from_agent}

-- the sum over the numbers below a bound
abbrev pub sum_below : ℕ → (ℕ → ℕ) → ℕ
sum_below zero f = 0
sum_below (suc n) f = sum_below n f + f n

pub sum_below-same : (n : ℕ) (f g : ℕ → ℕ) → ((a : ℕ) → a < n → f a ≡ g a) → sum_below n f ≡ sum_below n g
sum_below-same zero f g same = refl
sum_below-same (suc n) f g same =
    let before = sum_below-same n f g (λ a below. same a (omega arith)) in
    let here = same n (omega arith) in
    omega arith

sum_below-zero : (n : ℕ) → sum_below n (λ a. 0) ≡ 0
sum_below-zero zero = refl
sum_below-zero (suc n) = let before = sum_below-zero n in omega arith

sum_below-add : (n : ℕ) (f g : ℕ → ℕ) → sum_below n (λ a. f a + g a) ≡ sum_below n f + sum_below n g
sum_below-add zero f g = refl
sum_below-add (suc n) f g = let before = sum_below-add n f g in omega arith

-- what is counted at one number alone
sum_below-past : (n k c : ℕ) → n ≤ k → sum_below n (λ a. cond (k == a) c 0) ≡ 0
sum_below-past zero k c past = refl
sum_below-past (suc n) k c past =
    let before = sum_below-past n k c (omega arith) in rw (ne_eqb k n (λ same. absurd (omega arith))) (omega arith)

sum_below-one : (n k c : ℕ) → k < n → sum_below n (λ a. cond (k == a) c 0) ≡ c
sum_below-one zero k c below = absurd (omega arith)
sum_below-one (suc n) k c below =
    elim (ℕ_discrete k n) [
      | yes same ↦ let before = sum_below-past n k c (omega arith) in rw (eq-eqb k n same) (omega arith)
      | no other ↦ let before = sum_below-one n k c (omega (arith, other)) in rw (ne_eqb k n other) (omega arith)
    ]

-- as many numbers at most as there are
sum_below-at_most : (n : ℕ) (f : ℕ → ℕ) → ((a : ℕ) → f a ≤ 1) → sum_below n f ≤ n
sum_below-at_most zero f most = omega arith
sum_below-at_most (suc n) f most = let before = sum_below-at_most n f most in let here = most n in omega arith

-- where each is one at most and together they are as many as the numbers, each is one
pub all_one : (n : ℕ) (f : ℕ → ℕ) → ((a : ℕ) → f a ≤ 1) → sum_below n f ≡ n → (a : ℕ) → a < n → f a ≡ 1
all_one zero f most full a below = absurd (omega arith)
all_one (suc n) f most full a below =
    let before = sum_below-at_most n f most in
    let here = most n in
    elim (ℕ_discrete a n) [
      | yes same ↦ ap f same ∙ omega arith
      | no other ↦ all_one n f most (omega arith) a (omega (arith, other))
    ]

module _ {T : Type 0} (agent : T → ℕ) where
  sum_mine : (f : T → ℕ) (a : ℕ) (item : T) (items : List T) (is : Bool) → (agent item == a) ≡ is → sum_by f (from_agent agent a (item ∷ items)) ≡ cond is (f item) 0 + sum_by f (from_agent agent a items)
  sum_mine f a item items true is = rw is (sum_by-cons f item (from_agent agent a items))
  sum_mine f a item items false is = rw is (omega arith)

  none_after : (a : ℕ) (item : T) (items : List T) (is : Bool) → (agent item == a) ≡ is → from_agent agent a (item ∷ items) ≡ [] → (is ≡ false) × (from_agent agent a items ≡ [])
  none_after a item items true is none = let cons : item ∷ from_agent agent a items ≡ [] = rw is at none in absurd cc
  none_after a item items false is none = (refl, rw is at none)

  -- the sum over a list whose items are of agents below a bound
  pub by_agents : (f : T → ℕ) (n : ℕ) (items : List T) → ((a : ℕ) → n ≤ a → from_agent agent a items ≡ []) → sum_below n (λ a. sum_by f (from_agent agent a items)) ≡ sum_by f items
  by_agents f n [] within = sum_below-zero n
  by_agents f n (item ∷ items) within =
      let k : ℕ = agent item in
      let below : k < n = lt_of_not-le (λ past. let gone = (none_after k item items (k == k) refl (within k past)).0 in absurd (true≢false (sym (eq-eqb k k refl) ∙ gone))) in
      let rest = by_agents f n items (λ a past. (none_after a item items (k == a) refl (within a past)).1) in
      sum_below-same n (λ a. sum_by f (from_agent agent a (item ∷ items))) (λ a. cond (k == a) (f item) 0 + sum_by f (from_agent agent a items)) (λ a _. sum_mine f a item items (k == a) refl)
      ∙ (sum_below-add n (λ a. cond (k == a) (f item) 0) (λ a. sum_by f (from_agent agent a items))
      ∙ ((λ i. sum_below-one n k (f item) below i + rest i)
      ∙ sym (sum_by-cons f item items)))

-- as many as there are
pub sum_by-one : {T : Type 0} (items : List T) → sum_by (λ _. 1) items ≡ length items
sum_by-one [] = refl
sum_by-one {T} (item ∷ items) = let rest = sum_by-one items in sum_by-cons (λ (_ : T). 1) item items ∙ omega arith
