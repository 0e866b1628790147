-- A text has too few bytes to rule out all numbers, so the search finds the least number that no line rules out.
use Rattle.std.proofs.Common.{◌≡◌, ℕ, zero, suc, ◌+◌, ◌*◌, ◌<◌, ◌≤◌, inl, inr, Bool, true, false, List, [], ◌∷◌, ◌++◌, length, drop, codes, refl, sym, ap, subst, ◌∙◌, arith, if◌then◌else◌, length-append}
use Rattle.std.specs.List.{list_any}
use Rattle.std.specs.Prelude.{decimal}
use Rattle.std.proofs.lemmas.Bool.{false_from_ne_true, false≢true}
use Rattle.std.proofs.lemmas.Bool.Decides.{leb_tells}
use Rattle.dsn_outcome.specs.Letter.{Letter}
use Rattle.dsn_text.specs.Service.{service_letter}
use Rattle.dsn_report.proofs.BoundaryLemmas.{delimiter-begins, delimiter-once}
use Rattle.dsn_report.proofs.CountLemmas.{count_below, count_below-none, count_below-all, count_below-once, count_below-or}
use Rattle.dsn_report.proofs.RoomLemmas.{room, room-returned}
use Rattle.dsn_report.specs.Boundary.{IsBoundaryNumber, boundary_front, boundary_number, boundary_text, first_failing, four_digits, is_delimiter, is_ruled_out, returned_lines}

-- a boundary's number takes four bytes
boundary_text-length : (letter : Letter) (k : ℕ) → length (boundary_text letter k) ≡ length (boundary_front letter) + 4
unfolding boundary_text
boundary_text-length letter k = length-append (boundary_front letter) (four_digits k)

-- the front of a boundary has at least four bytes: a letter and three dots
boundary_front-length : (letter : Letter) → 4 ≤ length (boundary_front letter)
boundary_front-length letter =
    let front = service_letter letter.key.service ∷ codes "." in
    omega (
      arith,
      length-append (front ++ letter.key.id ++ codes "." ++ decimal letter.draft.moment) (codes "."),
      length-append (front ++ letter.key.id ++ codes ".") (decimal letter.draft.moment),
      length-append (front ++ letter.key.id) (codes "."),
      length-append front letter.key.id,
    )

-- a line rules out at most one of the letter's numbers
letter-once : (letter : Letter) (line : List ℕ) (j k : ℕ) → j < 10000 → k < 10000
    → is_delimiter (boundary_text letter j) line ≡ true → is_delimiter (boundary_text letter k) line ≡ true → j ≡ k
unfolding boundary_text
letter-once letter line j k p q is also = delimiter-once (boundary_front letter) line j k p q is also

-- a line that rules out a number has at least ten bytes
delimiter-long : (letter : Letter) (line : List ℕ) (k : ℕ) → is_delimiter (boundary_text letter k) line ≡ true → 10 ≤ length line
delimiter-long letter line k is =
    let whole = ap (λ l. length l) (delimiter-begins (boundary_text letter k) line is) in
    omega (arith, whole, length-append (codes "--" ++ boundary_text letter k) (drop (length (codes "--" ++ boundary_text letter k)) line), boundary_text-length letter k, boundary_front-length letter)

-- each number that a line rules out takes eleven bytes of it, its line feed included
count-line : (letter : Letter) (line : List ℕ) (n : ℕ) → n ≤ 10000 → 11 * count_below (λ k. is_delimiter (boundary_text letter k) line) n ≤ length line + 1
count-line letter line n few = elim (leb_tells 10 (length line)) [
  | inl long ↦
      let once = count_below-once (λ k. is_delimiter (boundary_text letter k) line) n (λ j k p q. letter-once letter line j k (omega arith) (omega arith)) in
      omega (arith, once, long.1)
  | inr short ↦
      let none : count_below (λ k. is_delimiter (boundary_text letter k) line) n ≡ 0 =
      count_below-none (λ k. is_delimiter (boundary_text letter k) line) n
      (λ k below. false_from_ne_true _ (λ rules. absurd (omega (arith, short.1, delimiter-long letter line k rules)))) in
      omega (arith, none)
]

-- each number that several lines rule out takes eleven bytes of them
count-lines : (letter : Letter) (ls : List (List ℕ)) (n : ℕ) → n ≤ 10000
    → 11 * count_below (λ k. list_any (is_delimiter (boundary_text letter k)) ls) n ≤ room ls
unfolding room
count-lines letter [] n few =
    let none = count_below-none (λ k. false) n (λ k below. refl) in
    omega (arith, none)
count-lines letter (line ∷ ls) n few =
    let both = count_below-or (λ k. is_delimiter (boundary_text letter k) line) (λ k. list_any (is_delimiter (boundary_text letter k)) ls) n in
    omega (arith, both, count-line letter line n few, count-lines letter ls n few)

-- no text rules out the first 2,980 numbers
pub some-free : (letter : Letter) → length letter.draft.header ≤ 32768 → ((k : ℕ) → k < 2980 → is_ruled_out letter k ≡ true) → ⊥
unfolding is_ruled_out
some-free letter short all =
    let everything = count_below-all (λ k. list_any (is_delimiter (boundary_text letter k)) (returned_lines letter.draft)) 2980 all in
    let cost = count-lines letter (returned_lines letter.draft) 2980 (omega arith) in
    omega (arith, everything, cost, room-returned letter.draft)

-- every number smaller than the found one passes the test
passed-step : (test : ℕ → Bool) (number found k : ℕ) (here : Bool) → test number ≡ here → number ≤ k → k < (if here then found else number)
    → (suc number ≤ k → k < found → test k ≡ true) → test k ≡ true
passed-step test number found k false is from below later = absurd (omega arith)
passed-step test number found k true is from below later = elim (leb_tells (suc number) k) [
  | inl more ↦ later more.1 below
  | inr less ↦ let same : number ≡ k = omega (arith, less.1) in subst (λ n. test n ≡ true) same is
]

first_failing-passed : (test : ℕ → Bool) (number tries k : ℕ) → number ≤ k → k < first_failing test number tries → test k ≡ true
unfolding first_failing
first_failing-passed test number zero k from below = absurd (omega arith)
first_failing-passed test number (suc tries) k from below =
    passed-step test number (first_failing test (suc number) tries) k (test number) refl from below (first_failing-passed test (suc number) tries k)

-- the found number fails the test, unless the tries were used up
found-step : (test : ℕ → Bool) (number found tries : ℕ) (here : Bool) → test number ≡ here → (if here then found else number) < number + suc tries
    → (found < suc number + tries → test found ≡ false) → test (if here then found else number) ≡ false
found-step test number found tries false is below later = is
found-step test number found tries true is below later = later (omega arith)

first_failing-found : (test : ℕ → Bool) (number tries : ℕ) → first_failing test number tries < number + tries → test (first_failing test number tries) ≡ false
unfolding first_failing
first_failing-found test number zero below = absurd (omega arith)
first_failing-found test number (suc tries) below =
    found-step test number (first_failing test (suc number) tries) tries (test number) refl below (first_failing-found test (suc number) tries)

bound-step : (number found tries : ℕ) (here : Bool) → found ≤ suc number + tries → (if here then found else number) ≤ number + suc tries
bound-step number found tries false below = omega arith
bound-step number found tries true below = omega arith

first_failing-bound : (test : ℕ → Bool) (number tries : ℕ) → first_failing test number tries ≤ number + tries
unfolding first_failing
first_failing-bound test number zero = omega arith
first_failing-bound test number (suc tries) =
    bound-step number (first_failing test (suc number) tries) tries (test number) (first_failing-bound test (suc number) tries)

-- the boundary's number is the least free number
pub boundary_number-is : (letter : Letter) → length letter.draft.header ≤ 32768 → IsBoundaryNumber letter (boundary_number letter)
unfolding boundary_number
boundary_number-is letter short =
    let test = is_ruled_out letter in
    let found = first_failing test 0 9999 in
    let least = λ (smaller : ℕ) (below : smaller < found). first_failing-passed test 0 9999 smaller (omega arith) below in
    record {
      free = elim (leb_tells 2980 found) [
        | inl far ↦ absurd (some-free letter short (λ k below. least k (omega (arith, far.1))))
        | inr near ↦ first_failing-found test 0 9999 (omega (arith, near.1))
      ];
      least = least;
    }

-- there is only one least free number
pub boundary_number-only : (letter : Letter) (number : ℕ) → length letter.draft.header ≤ 32768 → IsBoundaryNumber letter number → number ≡ boundary_number letter
boundary_number-only letter number short is =
    let own = boundary_number-is letter short in
    elim (leb_tells (suc number) (boundary_number letter)) [
      | inl below ↦ absurd (false≢true (sym is.free ∙ own.least number below.1))
      | inr above ↦ elim (leb_tells (suc (boundary_number letter)) number) [
        | inl below ↦ absurd (false≢true (sym own.free ∙ is.least (boundary_number letter) below.1))
        | inr same ↦ omega (arith, above.1, same.1)
      ]
    ]

pub boundary_number-few : (letter : Letter) → boundary_number letter < 10000
unfolding boundary_number
boundary_number-few letter = omega (arith, first_failing-bound (is_ruled_out letter) 0 9999)
