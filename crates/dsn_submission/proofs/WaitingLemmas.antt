-- Queues of letters that wait: their places, and the letter in hand.
use Rattle.std.proofs.Common.{◌≡◌, ℕ, zero, suc, ◌+◌, ◌-◌, ◌*◌, ◌^◌, ◌%◌, ◌<◌, ◌≤◌, min, Bool, true, false, not, List, [], ◌∷◌, ◌++◌, length, drop, get_or, Option, Some, None, Result, Ok, Err, OnOk, IfErr, is_some, is_none, slice_set, refl, sym, ap, subst, inl, inr, if◌then◌else◌, ◌∙◌, arith}
use Rattle.std.specs.List.{position, position_or_len}
use Rattle.std.specs.Option.{option_and_then, option_map}
use Rattle.std.proofs.lemmas.Bool.Decides.{nat_tests}
use Rattle.std.proofs.lemmas.List.{length-append, length-drop, length-set}
use Rattle.std.proofs.lemmas.List.Sums.{prefix_len-le-length, prefix_len_passes, prefix_len_stops}
use Rattle.std.proofs.lemmas.Option.{cond_some, slice_get-get_or}
use Rattle.std.proofs.Math.Nat.{le_of_lt, min-eq_left}
use Rattle.std.proofs.lemmas.Bool.{cases_lt}
use Rattle.std.proofs.Math.Pow.{pow_mono}
use Rattle.dsn_submission.specs.Waiting.{IsQueue, Queue, delay, due_place, is_due, letter_at, new_letter, pushed_settled, put_off_at, put_off_letter, settled_at, settled_front}
use Rattle.dsn_submission.specs.declared.waiting.Waits.{Waits}

-- more than 31 doublings of a second are more than any 32-bit number of milliseconds
delay_few : (longest failures : ℕ) → failures ≤ 31 → min longest (1000 * 2 ^ min failures 31 % 2 ^ 64) ≡ delay longest failures
delay_few longest failures few = rw (min-eq_left few) (let low : 2 ^ failures ≤ 2 ^ 31 = pow_mono few in grind arith)

delay_many : (longest failures : ℕ) → longest < 2 ^ 32 → 31 ≤ failures → min longest (1000 * 2 ^ min failures 31 % 2 ^ 64) ≡ delay longest failures
delay_many longest failures small many =
    let high : 2 ^ 31 ≤ 2 ^ failures = pow_mono many in
    let bound : min failures 31 ≡ 31 = omega arith in
    rw bound (omega arith)

pub delay_computed : (longest failures : ℕ) → longest < 2 ^ 32 → min longest (1000 * 2 ^ min failures 31 % 2 ^ 64) ≡ delay longest failures
delay_computed longest failures small =
    elim (cases_lt failures 31) [ inl few ↦ delay_few longest failures (le_of_lt few) | inr many ↦ delay_many longest failures small many ]

true_if_not_false : (test : Bool) → not test ≡ false → test ≡ true
true_if_not_false true never = refl
true_if_not_false false never = cc

false_if_not_true : (test : Bool) → not test ≡ true → test ≡ false
false_if_not_true true never = cc
false_if_not_true false never = refl

-- the letter that `position` finds is one that waits and is due
pub due_is_at : {T : Type 0} (now : ℕ) (letters : List (Option (Waits T))) (place : ℕ)
    → position (is_due now) letters ≡ Some place → (place < length letters) × (is_due now (get_or letters place None) ≡ true)
due_is_at now letters place found =
    let both = cond_some _ _ _ found in
    let within : position_or_len (is_due now) letters < length letters = grind (arith, nat_tests, both.0) in
    let stops = prefix_len_stops (λ x. not (is_due now x)) letters None within in
    subst (λ (at : ℕ). (at < length letters) × (is_due now (get_or letters at None) ≡ true)) both.1 (within, true_if_not_false _ stops)

is_some_if_due : {T : Type 0} (now : ℕ) (letter : Option (Waits T)) → is_due now letter ≡ true → is_some letter ≡ true
is_some_if_due now None due = cc
is_some_if_due now (Some letter) due = refl

pub letter_at-get_or : {T : Type 0} (letters : List (Option (Waits T))) (place : ℕ) → place < length letters
    → letter_at letters (Some place) ≡ get_or letters place None
letter_at-get_or letters place within = ap (option_and_then (λ letter. letter)) (slice_get-get_or letters place None within)

pub due_waits : {T : Type 0} (now : ℕ) (letters : List (Option (Waits T))) (place : ℕ)
    → position (is_due now) letters ≡ Some place → is_some (letter_at letters (Some place)) ≡ true
due_waits now letters place found =
    let here = due_is_at now letters place found in
    ap is_some (letter_at-get_or letters place here.0) ∙ is_some_if_due now _ here.1

pub some_if_else : {X : Type 0} (test : Bool) (found : Option X) (x : X) → (if test then None else found) ≡ Some x → found ≡ Some x
some_if_else true found x is = cc
some_if_else false found x is = is

pub due_place_position : {T : Type 0} (queue : Queue T) (now place : ℕ) → due_place queue now ≡ Some place → position (is_due now) queue.letters ≡ Some place
due_place_position queue now place found = some_if_else _ _ place found

-- no letter before the one that `position` finds is due
pub due_is_first : {T : Type 0} (now : ℕ) (letters : List (Option (Waits T))) (place earlier : ℕ)
    → position (is_due now) letters ≡ Some place → earlier < place → is_due now (get_or letters earlier None) ≡ false
due_is_first now letters place earlier found less =
    let at = (cond_some _ _ _ found).1 in
    false_if_not_true _ (prefix_len_passes (λ x. not (is_due now x)) letters earlier None (omega arith))

pub due_place_waits : {T : Type 0} (queue : Queue T) (now place : ℕ)
    → due_place queue now ≡ Some place → is_some (letter_at queue.letters (Some place)) ≡ true
due_place_waits queue now place found = due_waits now queue.letters place (some_if_else _ _ place found)

-- a letter that comes last changes no place before it
pub first_waits_pushed : {T : Type 0} (letters : List (Option (Waits T))) (letter : Waits T)
    → settled_front letters ≡ 0 → settled_front (letters ++ Some letter ∷ []) ≡ 0
first_waits_pushed [] letter waits = refl
first_waits_pushed (None ∷ rest) letter waits = grind arith
first_waits_pushed (Some first ∷ rest) letter waits = refl

pub hand_waits_pushed : {T : Type 0} (letters more : List (Option (Waits T))) (hand : Option ℕ)
    → is_some (letter_at letters hand) ≡ is_some hand → is_some (letter_at (letters ++ more) hand) ≡ is_some hand
hand_waits_pushed letters more None waits = refl
hand_waits_pushed [] more (Some place) waits = cc
hand_waits_pushed (letter ∷ rest) more (Some zero) waits = waits
hand_waits_pushed (letter ∷ rest) more (Some (suc place)) waits = hand_waits_pushed rest more (Some place) waits

-- a letter that is put off stays one that waits
pub first_waits_put_off : {T : Type 0} (letters : List (Option (Waits T))) (place : ℕ) (change : Waits T → Waits T)
    → settled_front letters ≡ 0 → settled_front (slice_set letters place (option_map change (letter_at letters (Some place)))) ≡ 0
first_waits_put_off [] place change waits = refl
first_waits_put_off (None ∷ rest) place change waits = grind arith
first_waits_put_off (Some first ∷ rest) zero change waits = refl
first_waits_put_off (Some first ∷ rest) (suc place) change waits = refl

-- the first letter past those that are settled waits
pub drop_one_more : {X : Type 0} (n : ℕ) (x : X) (xs : List X) → drop (1 + n) (x ∷ xs) ≡ drop n xs
drop_one_more n x xs = let more : 1 + n ≡ suc n = omega arith in ap (λ (k : ℕ). drop k (x ∷ xs)) more

pub first_waits_dropped : {T : Type 0} (letters : List (Option (Waits T))) → settled_front (drop (settled_front letters) letters) ≡ 0
first_waits_dropped [] = refl
first_waits_dropped (None ∷ rest) = ap settled_front (drop_one_more (settled_front rest) None rest) ∙ first_waits_dropped rest
first_waits_dropped (Some first ∷ rest) = refl

pub settled_front-le : {T : Type 0} (letters : List (Option (Waits T))) (place : ℕ) → settled_front (slice_set letters place None) ≤ length letters
settled_front-le letters place =
    let few = prefix_len-le-length is_none (slice_set letters place None) in
    let same = length-set letters place None in omega arith

-- a letter that comes settled changes no place before it: none, if there is no letter, and otherwise the first one waits
pub front_come : {T : Type 0} (letter : Option (Waits T)) (letters : List (Option (Waits T))) → settled_front (letter ∷ letters) ≡ 0 → settled_front (letter ∷ letters ++ None ∷ []) ≡ 0
front_come None letters waits = grind arith
front_come (Some letter) letters waits = refl

pub hand_waits_come : {T : Type 0} (letters : List (Option (Waits T))) (hand : Option ℕ) → settled_front letters ≡ 0
    → is_some (letter_at letters hand) ≡ is_some hand
    → is_some (letter_at (drop (settled_front (letters ++ None ∷ [])) (letters ++ None ∷ [])) hand) ≡ is_some hand
hand_waits_come letters None first waits = refl
hand_waits_come [] (Some place) first waits = cc
hand_waits_come (letter ∷ letters) (Some place) first waits =
    rw (front_come letter letters first) (hand_waits_pushed (letter ∷ letters) (None ∷ []) (Some place) waits)

-- each call leaves a queue
pub IsQueue-pushed : {T : Type 0} (queue : Queue T) (item : T) (now : ℕ) (letters : List (Option (Waits T))) (result : Result (Unit {0}) T)
    → IsQueue queue → queue.mark + length queue.letters < 2 ^ 64 - 1
    → OnOk result (letters ≡ queue.letters ++ Some (new_letter item now) ∷ []) → IfErr result (λ _. letters ≡ queue.letters)
    → IsQueue (record queue { letters = letters })
IsQueue-pushed queue item now letters (Ok done) is room more same =
    subst (λ (new : List (Option (Waits _))). IsQueue (record queue { letters = new })) (sym more) (record {
      numbered = (let long = length-append queue.letters (Some (new_letter item now) ∷ []) in omega arith);
      first_waits = first_waits_pushed queue.letters (new_letter item now) is.first_waits;
      hand_waits = hand_waits_pushed queue.letters _ queue.in_hand is.hand_waits;
    })
IsQueue-pushed queue item now letters (Err back) is room more same =
    subst (λ (new : List (Option (Waits _))). IsQueue (record queue { letters = new })) (sym same) is

pub IsQueue-put_off : {T : Type 0} (queue : Queue T) (now : ℕ) (hand : Option ℕ) → IsQueue queue → IsQueue (put_off_at queue now hand)
IsQueue-put_off queue now None is = is
IsQueue-put_off queue now (Some place) is = record {
  numbered = (let same = length-set queue.letters place (option_map (put_off_letter now) (letter_at queue.letters (Some place))) in let was = is.numbered in omega arith);
  first_waits = first_waits_put_off queue.letters place (put_off_letter now) is.first_waits;
  hand_waits = refl;
}

pub IsQueue-settled : {T : Type 0} (queue : Queue T) (hand : Option ℕ) → IsQueue queue → IsQueue (settled_at queue hand)
IsQueue-settled queue None is = is
IsQueue-settled queue (Some place) is = record {
  numbered = (
      let few = settled_front-le queue.letters place in
      let same = length-set queue.letters place None in
      let left = length-drop (settled_front (slice_set queue.letters place None)) (slice_set queue.letters place None) in
      let was = is.numbered in omega arith
      );
  first_waits = first_waits_dropped (slice_set queue.letters place None);
  hand_waits = refl;
}

-- the letter in hand is in the list
pub hand_within : {T : Type 0} (letters : List (Option (Waits T))) (place : ℕ) → is_some (letter_at letters (Some place)) ≡ true → place < length letters
hand_within [] place waits = cc
hand_within (letter ∷ rest) zero waits = omega arith
hand_within (letter ∷ rest) (suc place) waits = let less = hand_within rest place waits in omega arith

pub IsQueue-come : {T : Type 0} (queue : Queue T) → IsQueue queue → queue.mark + length queue.letters < 2 ^ 64 - 1 → IsQueue (pushed_settled queue)
IsQueue-come queue is room = record {
  numbered = (
      let long = length-append queue.letters (None ∷ []) in
      let few = prefix_len-le-length is_none (queue.letters ++ None ∷ []) in
      let left = length-drop (settled_front (queue.letters ++ None ∷ [])) (queue.letters ++ None ∷ []) in
      omega arith
      );
  first_waits = first_waits_dropped (queue.letters ++ None ∷ []);
  hand_waits = hand_waits_come queue.letters queue.in_hand is.first_waits is.hand_waits;
}
