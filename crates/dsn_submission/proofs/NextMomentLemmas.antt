-- The moment from which on a letter is due.
use Rattle.std.proofs.Common.{◌≡◌, ℕ, suc, ◌+◌, min, max, Bool, true, false, not, ◌&&◌, ◌||◌, cond, nat_lt, nat_le, List, [], ◌∷◌, length, fold, Option, Some, None, is_some, refl, sym, ap, ◌∙◌, arith, if◌then◌else◌}
use Rattle.std.specs.List.{list_any, position, prefix_len}
use Rattle.std.specs.Option.{option_map}
use Rattle.std.proofs.lemmas.Bool.Decides.{nat_tests}
use Rattle.dsn_submission.specs.Waiting.{Queue, due_place, is_due, is_reached}
use Rattle.dsn_submission.specs.inner.Waiting.{earlier_due, least_due}
use Rattle.dsn_submission.specs.declared.waiting.Waits.{Waits}

is_some_cond : {X : Type 0} (test : Bool) (x : X) → is_some (cond test (Some x) None) ≡ test
is_some_cond true x = refl
is_some_cond false x = refl

any_step : (test : Bool) (n len : ℕ) (rest : Bool) → nat_lt n len ≡ rest → nat_lt (cond (not test) (1 + n) 0) (suc len) ≡ (test || rest)
any_step true n len rest same = grind (arith, nat_tests)
any_step false n len rest same = let one : nat_lt (1 + n) (suc len) ≡ nat_lt n len = grind (arith, nat_tests) in one ∙ same

any_within : {X : Type 0} (test : X → Bool) (xs : List X) → nat_lt (prefix_len (λ x. not (test x)) xs) (length xs) ≡ list_any test xs
any_within test [] = refl
any_within test (x ∷ xs) = any_step (test x) _ _ _ (any_within test xs)

or_false : (test : Bool) → test ≡ (test || false)
or_false true = refl
or_false false = refl

or_assoc : (a b c : Bool) → ((a || b) || c) ≡ (a || (b || c))
or_assoc true b c = refl
or_assoc false b c = refl

min_reached : (m n now : ℕ) → nat_le (min m n) now ≡ (nat_le m now || nat_le n now)
min_reached m n now = grind (arith, nat_tests)

max_reached : (m n now : ℕ) → (not (nat_lt now n) && nat_le m now) ≡ nat_le (max m n) now
max_reached m n now = grind (arith, nat_tests)

earlier_reached : {T : Type 0} (least : Option ℕ) (letter : Option (Waits T)) (now : ℕ)
    → is_reached (earlier_due least letter) now ≡ (is_reached least now || is_due now letter)
earlier_reached None None now = refl
earlier_reached (Some least) None now = or_false _
earlier_reached None (Some letter) now = refl
earlier_reached (Some least) (Some letter) now = min_reached least letter.due now

fold_reached : {T : Type 0} (least : Option ℕ) (letters : List (Option (Waits T))) (now : ℕ)
    → is_reached (fold earlier_due least letters) now ≡ (is_reached least now || list_any (is_due now) letters)
fold_reached least [] now = or_false _
fold_reached least (letter ∷ letters) now =
    fold_reached (earlier_due least letter) letters now
    ∙ (ap (λ (b : Bool). b || list_any (is_due now) letters) (earlier_reached least letter now) ∙ or_assoc (is_reached least now) (is_due now letter) (list_any (is_due now) letters))

if_none : {X : Type 0} (test : Bool) (found : Option X) → is_some (if test then None else found) ≡ (not test && is_some found)
if_none true found = refl
if_none false found = refl

and_false : (test : Bool) → (test && false) ≡ false
and_false true = refl
and_false false = refl

later_reached : (opens : ℕ) (due : Option ℕ) (now : ℕ) → (not (nat_lt now opens) && is_reached due now) ≡ is_reached (option_map (λ moment. max moment opens) due) now
later_reached opens None now = and_false _
later_reached opens (Some due) now = max_reached due opens now

-- the later of the earliest moment at which a letter is due and that from which on the server may be asked
pub due_from : {T : Type 0} (queue : Queue T) (due : Option ℕ) (now : ℕ) → is_some queue.in_hand ≡ false → least_due queue.letters ≡ due
    → is_some (due_place queue now) ≡ is_reached (option_map (λ moment. max moment queue.opens) due) now
due_from queue due now free least =
    let found : is_some (position (is_due now) queue.letters) ≡ is_reached due now =
    is_some_cond _ _ ∙ (any_within (is_due now) queue.letters ∙ (sym (fold_reached None queue.letters now) ∙ ap (λ (o : Option ℕ). is_reached o now) least)) in
    ap (λ (b : Bool). is_some (if b || nat_lt now queue.opens then None else position (is_due now) queue.letters)) free
    ∙ (if_none _ _ ∙ (ap (λ (b : Bool). not (nat_lt now queue.opens) && b) found ∙ later_reached queue.opens due now))
