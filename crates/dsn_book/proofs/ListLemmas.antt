-- Lists: pairs of elements after an insert, and permutations.
use Rattle.std.proofs.Common.{◌≡◌, ℕ, suc, ◌+◌, ◌-◌, ◌<◌, ◌≤◌, List, [], ◌∷◌, ◌++◌, length, get_or, take, drop, set, map, refl, ap, sym, subst, ◌∙◌, inl, inr, arith}
use Rattle.std.specs.Prelude.{Option, Some, None, AllPairs, All}
use Rattle.std.specs.List.{insert, swap, cons_option, filter_map, slice_get, range_with_len}
use Rattle.std.specs.List.Sorted.{IsPermutation}
use Rattle.std.specs.Option.{option_and_then, option_to_list}
use Rattle.std.proofs.lemmas.Bool.{cases_order}
use Rattle.std.proofs.lemmas.List.{map-append, take-map, drop-map, append_assoc, length-append, length-drop, length-take-le, length_push, get_or_at, set-get_or, set-set, set_comm, set_split, set-append_right}
use Rattle.std.proofs.lemmas.Option.{slice_get-get_or}
use Rattle.std.proofs.lemmas.List.Edits.{length-insert, get_or-insert_below, get_or-insert_at, get_or-insert_above, swap_is}
use Rattle.std.proofs.lemmas.List.Elements.{filter_map-append, All-nil, All-cons, All-head, All-tail}
use Rattle.std.proofs.lemmas.List.Kept.{AllPairs-cons}
use Rattle.std.proofs.lemmas.List.Sorted.{IsPermutation-refl, IsPermutation-trans, IsPermutation-append_left, IsPermutation-append_right, IsPermutation-append_comm, IsPermutation-keeps}

-- ---- an insert

get_or-insert_past : {X : Type 0} (xs : List X) (i : ℕ) (y d : X) (k : ℕ) → i < k → i ≤ length xs → get_or (insert xs i y) k d ≡ get_or xs (k - 1) d
get_or-insert_past xs i y d k past inside =
    let next : k - 1 + 1 ≡ k = omega arith in
    let low : i ≤ k - 1 = omega arith in
    subst (λ (n : ℕ). get_or (insert xs i y) n d ≡ get_or xs (k - 1) d) next (get_or-insert_above xs i y d (k - 1) low inside)

-- an insert next to elements that are related to the new one
pub AllPairs-insert : {X : Type 0} (R : X → X → Type 0) (xs : List X) (i : ℕ) (y : X) → i ≤ length xs → AllPairs R xs → ((k : ℕ) (d : X) → k < i → R (get_or xs k d) y) → ((k : ℕ) (d : X) → i ≤ k → k < length xs → R y (get_or xs k d)) → AllPairs R (insert xs i y)
AllPairs-insert {X} R xs i y inside pairs before after =
    λ a b d apart within.
    let long : length (insert xs i y) ≡ length xs + 1 = length-insert xs i y inside in
    elim (cases_order b i) [
      | inl at ↦
          rw (get_or-insert_below xs i y d a (omega arith) inside, at, get_or-insert_at xs i y d inside) (before a d (omega arith))
      | inr beside ↦ elim beside [
        | inl low ↦
            rw (get_or-insert_below xs i y d a (omega arith) inside, get_or-insert_below xs i y d b low inside) (pairs a b d apart (omega arith))
        | inr high ↦ elim (cases_order a i) [
          | inl at ↦
              rw (get_or-insert_past xs i y d b high inside, at, get_or-insert_at xs i y d inside) (after (b - 1) d (omega arith) (omega arith))
          | inr side ↦ elim side [
            | inl low ↦
                rw (get_or-insert_past xs i y d b high inside, get_or-insert_below xs i y d a low inside) (pairs a (b - 1) d (omega arith) (omega arith))
            | inr up ↦
                rw (get_or-insert_past xs i y d b high inside, get_or-insert_past xs i y d a up inside) (pairs (a - 1) (b - 1) d (omega arith) (omega arith))
          ]
        ]
      ]
    ]

pub map-insert : {X Y : Type 0} (f : X → Y) (xs : List X) (i : ℕ) (y : X) → map f (insert xs i y) ≡ insert (map f xs) i (f y)
map-insert f xs i y = map-append f (take i xs) (y ∷ drop i xs) ∙ rw (take-map f i xs, drop-map f i xs) refl

-- ---- the values of a partial function

All-filter_map_step : {X Y : Type 0} (Q : Y → Type 0) (f : X → Option Y) (x : X) (rest : List X) (value : Option Y) → f x ≡ value → ((y : Y) → f x ≡ Some y → Q y) → All Q (filter_map f rest) → All Q (filter_map f (x ∷ rest))
All-filter_map_step Q f x rest None is here all = rw is all
All-filter_map_step Q f x rest (Some y) is here all = rw is (All-cons Q y (filter_map f rest) (here y is) all)

-- a property of elements that carries over to the values
pub All-filter_map : {X Y : Type 0} (P : X → Type 0) (Q : Y → Type 0) (f : X → Option Y) → ((x : X) (y : Y) → P x → f x ≡ Some y → Q y) → (xs : List X) → All P xs → All Q (filter_map f xs)
All-filter_map P Q f over [] all = All-nil Q
All-filter_map P Q f over (x ∷ rest) all =
    All-filter_map_step Q f x rest (f x) refl (λ y. over x y (All-head P x rest all)) (All-filter_map P Q f over rest (All-tail P x rest all))

AllPairs-filter_map_step : {X Y : Type 0} (S : Y → Y → Type 0) (f : X → Option Y) (x : X) (rest : List X) (value : Option Y) → f x ≡ value → ((u : Y) → f x ≡ Some u → All (S u) (filter_map f rest)) → AllPairs S (filter_map f rest) → AllPairs S (filter_map f (x ∷ rest))
AllPairs-filter_map_step S f x rest None is first pairs = rw is pairs
AllPairs-filter_map_step S f x rest (Some u) is first pairs = rw is (AllPairs-cons S u (filter_map f rest) (first u is) pairs)

-- a relation of elements that carries over to the values
pub AllPairs-filter_map : {X Y : Type 0} (R : X → X → Type 0) (S : Y → Y → Type 0) (f : X → Option Y) → ((a b : X) (u v : Y) → R a b → f a ≡ Some u → f b ≡ Some v → S u v) → (xs : List X) → AllPairs R xs → AllPairs S (filter_map f xs)
AllPairs-filter_map R S f over [] pairs = λ i j d apart inside. absurd (omega arith)
AllPairs-filter_map R S f over (x ∷ rest) pairs =
    AllPairs-filter_map_step S f x rest (f x) refl
    (λ u is. All-filter_map (R x) (S u) f (λ b v related line_is. over x b u v related is line_is) rest (λ k d inside. pairs 0 (suc k) d (omega arith) (omega arith)))
    (AllPairs-filter_map R S f over rest (λ i j d apart inside. pairs (suc i) (suc j) d (omega arith) (omega arith)))

slice_get_at : {X : Type 0} (front : List X) (x : X) (rest : List X) → slice_get (front ++ x ∷ rest) (length front) ≡ Some x
slice_get_at front x rest =
    slice_get-get_or (front ++ x ∷ rest) (length front) x (rw length-append (omega arith))
    ∙ ap (λ y. Some y) (get_or_at front x rest x (length front) refl)

filter_map-places_from : {X Y : Type 0} (f : X → Option Y) (front xs : List X) → filter_map f xs ≡ filter_map (λ place. option_and_then f (slice_get (front ++ xs) place)) (range_with_len (length front) (length xs))
filter_map-places_from f front [] = refl
filter_map-places_from {X} {Y} f front (x ∷ rest) =
    let onward : filter_map f rest ≡ filter_map (λ place. option_and_then f (slice_get (front ++ x ∷ rest) place)) (range_with_len (length front + 1) (length rest)) =
    subst (λ (n : ℕ). filter_map f rest ≡ filter_map (λ place. option_and_then f (slice_get (front ++ x ∷ rest) place)) (range_with_len n (length rest))) (length_push front x)
    (subst (λ (all : List X). filter_map f rest ≡ filter_map (λ place. option_and_then f (slice_get all place)) (range_with_len (length (front ++ x ∷ [])) (length rest))) (append_assoc front (x ∷ []) rest)
    (filter_map-places_from f (front ++ x ∷ []) rest)) in
    rw (slice_get_at front x rest, ← onward) refl

-- the values in terms of places
pub filter_map-places : {X Y : Type 0} (f : X → Option Y) (xs : List X) → filter_map f xs ≡ filter_map (λ place. option_and_then f (slice_get xs place)) (range_with_len 0 (length xs))
filter_map-places f xs = filter_map-places_from f [] xs

pub filter_map-map : {X Y Z : Type 0} (g : X → Y) (f : Y → Option Z) (xs : List X) → filter_map f (map g xs) ≡ filter_map (λ x. f (g x)) xs
filter_map-map g f [] = refl
filter_map-map g f (x ∷ rest) = rw (filter_map-map g f rest) refl

-- ---- permutations

-- exchanging the outer two of four parts is a permutation
IsPermutation-outer : {X : Type 0} (u b v c : List X) → IsPermutation (u ++ (b ++ (v ++ c))) (v ++ (b ++ (u ++ c)))
IsPermutation-outer {X} u b v c =
    let turned : IsPermutation ((u ++ b) ++ v) (v ++ (u ++ b)) = IsPermutation-append_comm (u ++ b) v in
    let back : IsPermutation (v ++ (u ++ b)) (v ++ (b ++ u)) = IsPermutation-append_right v (u ++ b) (b ++ u) (IsPermutation-append_comm u b) in
    let all : IsPermutation (((u ++ b) ++ v) ++ c) ((v ++ (b ++ u)) ++ c) =
    IsPermutation-append_left c ((u ++ b) ++ v) (v ++ (b ++ u)) (IsPermutation-trans ((u ++ b) ++ v) (v ++ (u ++ b)) (v ++ (b ++ u)) turned back) in
    simp append_assoc at all

cons_option-append : {Y : Type 0} (first : Option Y) (rest : List Y) → cons_option first rest ≡ option_to_list first ++ rest
cons_option-append None rest = refl
cons_option-append (Some y) rest = refl

filter_map-cons : {X Y : Type 0} (f : X → Option Y) (x : X) (rest : List X) → filter_map f (x ∷ rest) ≡ option_to_list (f x) ++ filter_map f rest
filter_map-cons f x rest = cons_option-append (f x) (filter_map f rest)

-- the values after two elements are exchanged
filter_map-apart : {X Y : Type 0} (f : X → Option Y) (a : List X) (x : X) (b : List X) (y : X) (c : List X) → IsPermutation (filter_map f (a ++ x ∷ (b ++ y ∷ c))) (filter_map f (a ++ y ∷ (b ++ x ∷ c)))
filter_map-apart f a x b y c =
    simp (filter_map-append, filter_map-cons)
    (IsPermutation-append_right (filter_map f a) _ _ (IsPermutation-outer (option_to_list (f x)) (filter_map f b) (option_to_list (f y)) (filter_map f c)))

-- the list after two elements are replaced, in terms of the parts before, between and after them
set-twice : {X : Type 0} (xs : List X) (i k : ℕ) (x y : X) → i < length xs → k < length (drop (suc i) xs) → set (set xs i x) (i + suc k) y ≡ take i xs ++ x ∷ (take k (drop (suc i) xs) ++ y ∷ drop (suc k) (drop (suc i) xs))
set-twice {X} xs i k x y inside within =
    let long : length (take i xs) ≡ i = length-take-le i xs (omega arith) in
    let apart : i + suc k - i ≡ suc k = omega arith in
    ap (λ (ys : List X). set ys (i + suc k) y) (set_split xs i x inside)
    ∙ set-append_right (take i xs) (x ∷ drop (suc i) xs) i (i + suc k) y long (omega arith)
    ∙ ap (λ (n : ℕ). take i xs ++ set (x ∷ drop (suc i) xs) n y) apart
    ∙ ap (λ (ys : List X). take i xs ++ x ∷ ys) (set_split (drop (suc i) xs) k y within)

filter_map-swap_up : {X Y : Type 0} (f : X → Option Y) (xs : List X) (i k : ℕ) (d : X) → i + suc k < length xs → IsPermutation (filter_map f xs) (filter_map f (swap xs i (i + suc k)))
filter_map-swap_up {X} f xs i k d inside =
    let low : i < length xs = omega arith in
    let within : k < length (drop (suc i) xs) = rw length-drop (omega arith) in
    let x : X = get_or xs i d in
    let y : X = get_or xs (i + suc k) d in
    let same : set (set xs i x) (i + suc k) y ≡ xs = ap (λ (ys : List X). set ys (i + suc k) y) (set-get_or xs i d) ∙ set-get_or xs (i + suc k) d in
    let swapped : set (set xs i y) (i + suc k) x ≡ swap xs i (i + suc k) = swap_is xs i (i + suc k) d low inside in
    let moved = filter_map-apart f (take i xs) x (take k (drop (suc i) xs)) y (drop (suc k) (drop (suc i) xs)) in
    subst (λ (ys : List X). IsPermutation (filter_map f xs) (filter_map f ys)) (sym (set-twice xs i k y x low within) ∙ swapped)
    (subst (λ (ys : List X). IsPermutation (filter_map f ys) (filter_map f (take i xs ++ y ∷ (take k (drop (suc i) xs) ++ x ∷ drop (suc k) (drop (suc i) xs))))) (sym (set-twice xs i k x y low within) ∙ same) moved)

filter_map-swap_apart : {X Y : Type 0} (f : X → Option Y) (xs : List X) (i j : ℕ) (d : X) → i < j → j < length xs → IsPermutation (filter_map f xs) (filter_map f (swap xs i j))
filter_map-swap_apart {X} f xs i j d apart inside =
    let k : ℕ = j - suc i in
    let is : i + suc k ≡ j = omega arith in
    subst (λ (n : ℕ). IsPermutation (filter_map f xs) (filter_map f (swap xs i n))) is
    (filter_map-swap_up f xs i k d (subst (λ (n : ℕ). n < length xs) (sym is) inside))

swap_comm : {X : Type 0} (xs : List X) (i j : ℕ) (d : X) → i < length xs → j < length xs → j < i → swap xs j i ≡ swap xs i j
swap_comm xs i j d low high apart =
    sym (swap_is xs j i d high low)
    ∙ set_comm xs j i (get_or xs i d) (get_or xs j d) (λ same. absurd (omega arith))
    ∙ swap_is xs i j d low high

swap_same : {X : Type 0} (xs : List X) (i : ℕ) (d : X) → i < length xs → xs ≡ swap xs i i
swap_same xs i d inside =
    sym (set-set xs i (get_or xs i d) (get_or xs i d) ∙ set-get_or xs i d) ∙ swap_is xs i i d inside inside

-- the values after an exchange of two places
filter_map-swap : {X Y : Type 0} (f : X → Option Y) (xs : List X) (i j : ℕ) → i < length xs → j < length xs → IsPermutation (filter_map f xs) (filter_map f (swap xs i j))
filter_map-swap f [] i j low high = absurd (omega arith)
filter_map-swap {X} f (d ∷ rest) i j low high =
    let xs : List X = d ∷ rest in
    elim (cases_order i j) [
      | inl same ↦ subst (λ (n : ℕ). IsPermutation (filter_map f xs) (filter_map f (swap xs i n))) same
          (subst (λ (ys : List X). IsPermutation (filter_map f xs) (filter_map f ys)) (swap_same xs i d low) (IsPermutation-refl (filter_map f xs)))
      | inr side ↦ elim side [
        | inl up ↦ filter_map-swap_apart f xs i j d up high
        | inr down ↦ subst (λ (ys : List X). IsPermutation (filter_map f xs) (filter_map f ys)) (swap_comm xs i j d low high down) (filter_map-swap_apart f xs j i d down low)
      ]
    ]

-- the values of a permutation
pub filter_map-IsPermutation : {X Y : Type 0} (f : X → Option Y) (xs ys : List X) → IsPermutation xs ys → IsPermutation (filter_map f xs) (filter_map f ys)
filter_map-IsPermutation {X} f xs ys same =
    IsPermutation-keeps xs (λ (l : List X). IsPermutation (filter_map f xs) (filter_map f l)) (IsPermutation-refl (filter_map f xs))
    (λ l i j low high so_far. IsPermutation-trans (filter_map f xs) (filter_map f l) (filter_map f (swap l i j)) so_far (filter_map-swap f l i j low high)) ys same
