-- Parcels: one letter more, the end mark, and the letters that parcels hold.
use Rattle.std.proofs.Common.{◌≡◌, ℕ, suc, ◌+◌, ◌≤◌, Bool, true, false, List, [], ◌∷◌, ◌++◌, length, refl, ap, sym, ◌∙◌, append_assoc, length-append, arith}
use Rattle.std.specs.Prelude.{Option, Some, None}
use Rattle.std.specs.Option.{option_to_list}
use Rattle.std.proofs.lemmas.List.{append-nil, nil_from_length}
use Rattle.std.proofs.lemmas.Option.{none-some, same_Some}
use mathlib.Core.List.{IsPrefix}
use Rattle.dsn_outcome.specs.Agents.{from_agent}
use Rattle.dsn_outcome.specs.Letter.{Letter}
use Rattle.dsn_crew.specs.post.Parcel.{Parcel}
use Rattle.dsn_crew.specs.inner.LetterSource.{letters_of, parcels_from, parcels_of}

abbrev pub parcel : ℕ → Option Letter → Parcel
parcel number letter = record { number = number; letter = letter }

-- one letter more
more_from : (number : ℕ) (letters : List Letter) (letter : Letter) → parcels_from number (letters ++ letter ∷ []) false ≡ parcels_from number letters false ++ parcel (number + length letters) (Some letter) ∷ []
more_from number [] letter =
    let same : number ≡ number + 0 = omega arith in ap (λ (n : ℕ). parcel n (Some letter) ∷ []) same
more_from number (first ∷ rest) letter =
    let same : suc number + length rest ≡ number + suc (length rest) = omega arith in
    ap (λ (ps : List Parcel). parcel number (Some first) ∷ ps) (more_from (suc number) rest letter)
    ∙ ap (λ (n : ℕ). parcel number (Some first) ∷ (parcels_from (suc number) rest false ++ parcel n (Some letter) ∷ [])) same

pub letter_more : (letters : List Letter) (letter : Letter) → parcels_of (letters ++ letter ∷ []) false ≡ parcels_of letters false ++ parcel (length letters) (Some letter) ∷ []
letter_more letters letter =
    let same : 0 + length letters ≡ length letters = omega arith in
    more_from 0 letters letter ∙ ap (λ (n : ℕ). parcels_of letters false ++ parcel n (Some letter) ∷ []) same

-- the end mark
mark_from : (number : ℕ) (letters : List Letter) → parcels_from number letters true ≡ parcels_from number letters false ++ parcel (number + length letters) None ∷ []
mark_from number [] = let same : number ≡ number + 0 = omega arith in ap (λ (n : ℕ). parcel n None ∷ []) same
mark_from number (first ∷ rest) =
    let same : suc number + length rest ≡ number + suc (length rest) = omega arith in
    ap (λ (ps : List Parcel). parcel number (Some first) ∷ ps) (mark_from (suc number) rest)
    ∙ ap (λ (n : ℕ). parcel number (Some first) ∷ (parcels_from (suc number) rest false ++ parcel n None ∷ [])) same

pub mark_last : (letters : List Letter) → parcels_of letters true ≡ parcels_of letters false ++ parcel (length letters) None ∷ []
mark_last letters =
    let same : 0 + length letters ≡ length letters = omega arith in
    mark_from 0 letters ∙ ap (λ (n : ℕ). parcels_of letters false ++ parcel n None ∷ []) same

-- there are as many parcels as letters
pub length-parcels : (number : ℕ) (letters : List Letter) → length (parcels_from number letters false) ≡ length letters
length-parcels number [] = refl
length-parcels number (first ∷ rest) = ap suc (length-parcels (suc number) rest)

-- they hold these letters
pub letters_back : (number : ℕ) (letters : List Letter) (marked : Bool) → letters_of (parcels_from number letters marked) ≡ letters
letters_back number [] true = refl
letters_back number [] false = refl
letters_back number (first ∷ rest) marked = ap (λ (ls : List Letter). first ∷ ls) (letters_back (suc number) rest marked)

pub letters_of-append : (first rest : List Parcel) → letters_of (first ++ rest) ≡ letters_of first ++ letters_of rest
letters_of-append [] rest = refl
letters_of-append (parcel ∷ first) rest =
    ap (λ (ls : List Letter). option_to_list parcel.letter ++ ls) (letters_of-append first rest)
    ∙ sym (append_assoc (option_to_list parcel.letter) (letters_of first) (letters_of rest))

-- all of them are of agent 0
pub all_of_one : (parcels : List Parcel) → from_agent (λ (it : Parcel). 0) 0 parcels ≡ parcels
all_of_one [] = refl
all_of_one (first ∷ rest) = ap (λ (ps : List Parcel). first ∷ ps) (all_of_one rest)

-- ---- what was taken of what was sent

marked_alike : (letters : List Letter) (one other : Bool) → parcels_of letters one ≡ parcels_of letters other → one ≡ other
marked_alike letters true true same = refl
marked_alike letters false false same = refl
marked_alike letters true false same =
    let long = ap length (sym (mark_last letters) ∙ same) in
    let split = length-append (parcels_of letters false) (parcel (length letters) None ∷ []) in
    absurd (omega arith)
marked_alike letters false true same =
    let long = ap length (same ∙ mark_last letters) in
    let split = length-append (parcels_of letters false) (parcel (length letters) None ∷ []) in
    absurd (omega arith)

same_letters : (taken sent : List Letter) (one other : Bool) → parcels_of taken one ≡ parcels_of sent other → taken ≡ sent
same_letters taken sent one other same = sym (letters_back 0 taken one) ∙ (ap letters_of same ∙ letters_back 0 sent other)

-- the letters that were taken, and then those of the parcels that were not, are those that were sent
letters_after : (taken sent : List Letter) (came marked : Bool) (is : IsPrefix (parcels_of taken came) (parcels_of sent marked)) → taken ++ letters_of is.0 ≡ sent
letters_after taken sent came marked is =
    ap (λ (ls : List Letter). ls ++ letters_of is.0) (sym (letters_back 0 taken came))
    ∙ (sym (letters_of-append (parcels_of taken came) is.0) ∙ (ap letters_of is.1 ∙ letters_back 0 sent marked))

-- so those that were taken are the first of those that were sent
pub first_letters : (taken sent : List Letter) (came marked : Bool) → IsPrefix (parcels_of taken came) (parcels_of sent marked) → IsPrefix taken sent
first_letters taken sent came marked is = (letters_of is.0, letters_after taken sent came marked is)

pub option_few : {A : Type 0} (option : Option A) → length (option_to_list option) ≤ 1
option_few None = omega arith
option_few (Some one) = omega arith

-- no more letters than parcels
letters_few : (parcels : List Parcel) → length (letters_of parcels) ≤ length parcels
letters_few [] = omega arith
letters_few (parcel ∷ rest) =
    let one = option_few parcel.letter in
    let few = letters_few rest in
    let both = length-append (option_to_list parcel.letter) (letters_of rest) in omega arith

-- and no more letters were sent beside them than parcels wait
pub few_letters : (taken sent : List Letter) (came marked : Bool) (waiting : ℕ) → IsPrefix (parcels_of taken came) (parcels_of sent marked) → length (parcels_of taken came) + waiting ≡ length (parcels_of sent marked) → length sent ≤ length taken + waiting
few_letters taken sent came marked waiting is total =
    let split = length-append (parcels_of taken came) is.0 in
    let whole = ap length is.1 in
    let letters = sym (ap length (letters_after taken sent came marked is)) ∙ length-append taken (letters_of is.0) in
    let few = letters_few is.0 in omega (arith, split, whole, letters, few, total)

-- and where as many were taken as were sent, they are the same, and the end mark came if it was sent
pub all_letters : (taken sent : List Letter) (came marked : Bool) → IsPrefix (parcels_of taken came) (parcels_of sent marked) → length (parcels_of taken came) ≡ length (parcels_of sent marked) → (taken ≡ sent) × (came ≡ marked)
all_letters taken sent came marked is long =
    let split = length-append (parcels_of taken came) is.0 in
    let whole = ap length is.1 in
    let none : is.0 ≡ [] = nil_from_length is.0 (omega arith) in
    let same : parcels_of taken came ≡ parcels_of sent marked =
    sym (append-nil (parcels_of taken came)) ∙ (ap (λ (rest : List Parcel). parcels_of taken came ++ rest) (sym none) ∙ is.1) in
    let letters = same_letters taken sent came marked same in
    (letters, marked_alike sent came marked (ap (λ (ls : List Letter). parcels_of ls came) (sym letters) ∙ same))

-- the letter of the first parcel
abbrev first_letter : List Parcel → Option Letter
first_letter [] = None
first_letter (parcel ∷ rest) = parcel.letter

abbrev later_parcels : List Parcel → List Parcel
later_parcels [] = []
later_parcels (parcel ∷ rest) = rest

-- if the end mark was taken, all letters were taken
marked_from : (number : ℕ) (taken sent : List Letter) (marked : Bool) (rest : List Parcel) → parcels_from number taken true ++ rest ≡ parcels_from number sent marked → taken ≡ sent
marked_from number [] [] marked rest same = refl
marked_from number [] (letter ∷ sent) marked rest same = absurd (none-some letter (ap first_letter same))
marked_from number (letter ∷ taken) [] true rest same = absurd (none-some letter (sym (ap first_letter same)))
marked_from number (letter ∷ taken) [] false rest same = absurd (none-some letter (sym (ap first_letter same)))
marked_from number (one ∷ taken) (other ∷ sent) marked rest same =
    let first = same_Some one other (ap first_letter same) in
    let later = marked_from (suc number) taken sent marked rest (ap later_parcels same) in
    λ i. first i ∷ later i

pub marked_all : (taken sent : List Letter) (marked : Bool) → IsPrefix (parcels_of taken true) (parcels_of sent marked) → taken ≡ sent
marked_all taken sent marked is = marked_from 0 taken sent marked is.0 is.1
