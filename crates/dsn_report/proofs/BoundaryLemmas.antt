-- How one returned line restricts the boundary's number, and how the table of ruled-out numbers grows.
use Rattle.std.proofs.Common.{◌≡◌, ℕ, zero, suc, cond, ◌+◌, ◌/◌, ◌%◌, ◌^◌, ◌<◌, ◌≤◌, inl, inr, Bool, true, false, ◌&&◌, ◌||◌, List, [], ◌∷◌, ◌++◌, length, length-append, append_assoc, take, drop, map, get_or, codes, refl, sym, ap, subst, ◌∙◌, arith, if◌then◌else◌, slice_set}
use Rattle.std.specs.Prelude.{decimal, not, position, ◌==◌, nat_eq, IfSome, IfNone, IsTrue, IsFalse, Option, Some, None}
use Rattle.std.specs.List.{list_all, list_any, position_or_len, starts_with}
use Rattle.std.proofs.lemmas.Bool.{and_parts, false_from_ne_true, false≢true, le-leb, not-false, not-true, or_parts}
use Rattle.std.proofs.Math.Bool.{or-false, or-true}
use Rattle.std.proofs.lemmas.Bool.Decides.{Decides-eqb, eqb_tells, leb_tells}
use Rattle.std.proofs.Math.Seq.{take-append_seam}
use Rattle.std.proofs.lemmas.Fmt.{decimal_is_IsNumeral}
use Rattle.std.proofs.lemmas.List.{append_cancel_left, get_or_default, get_or-set_same, get_or-set_other}
use Rattle.std.proofs.lemmas.List.Folds.{list_all-append}
use Rattle.std.proofs.lemmas.List.Quantifiers.{position-Some}
use Rattle.std.proofs.lemmas.List.Sums.{fails_before_first, list_all-from_AllPass}
use Rattle.std.proofs.lemmas.Slice.Eq.{starts_is}
use Rattle.std.proofs.lemmas.Str.Parse.{digit_at}
use Rattle.dsn_outcome.specs.Letter.{Letter}
use Rattle.dsn_text.specs.Service.{service_letter}
use Rattle.dsn_text.specs.Text.{IsQueueId, is_letter_or_digit, is_printable}
use Rattle.dsn_text.specs.declared.service.Service.{Service}
use Rattle.dsn_text.specs.declared.service.Service.TheVariants.{Bounce, Defer, Trace}
use Rattle.dsn_report.specs.Boundary.{IsBoundaryNumber, boundary_front, boundary_text, four_digits, is_delimiter, is_ruled_out, letter_name, returned_lines}
use Rattle.dsn_report.specs.inner.Boundary.{is_dashed, is_delimiter_byte, rules_out}
use Rattle.dsn_report.specs.inner.NoticeLines.{byte_shown, line_shown, lines_shown, taken_lines}

-- a text that begins with another one is that text and a rest
begins-with : (front text : List ℕ) → starts_with nat_eq text front ≡ true → text ≡ front ++ drop (length front) text
begins-with front text is = (starts_is Decides-eqb text front true (sym is)).0 refl

-- whether one text begins with another doesn't depend on a common front of both
starts_with-append : (front text needle : List ℕ) → starts_with nat_eq (front ++ text) (front ++ needle) ≡ starts_with nat_eq text needle
starts_with-append [] text needle = refl
starts_with-append (byte ∷ front) text needle = rw ((Decides-eqb byte byte).1 refl) (starts_with-append front text needle)

-- a delimiter's line begins with two dashes and the boundary
pub delimiter-begins : (boundary line : List ℕ) → is_delimiter boundary line ≡ true → line ≡ (codes "--" ++ boundary) ++ drop (length (codes "--" ++ boundary)) line
delimiter-begins boundary line is = begins-with (codes "--" ++ boundary) line is

delimiter-boundary : (boundary line : List ℕ) → is_delimiter boundary line ≡ true → take (length boundary) (drop 2 line) ≡ boundary
delimiter-boundary boundary line is =
    ap (λ l. take (length boundary) (drop 2 l)) (delimiter-begins boundary line is)
    ∙ take-append_seam boundary (drop (length (codes "--" ++ boundary)) line)

-- two numbers with the same four digits are equal
four_digits-once : (j k : ℕ) → j < 10000 → k < 10000 → four_digits j ≡ four_digits k → j ≡ k
four_digits-once j k p q e =
    let thousands : 48 + j / 1000 ≡ 48 + k / 1000 = cc in
    let hundreds : 48 + j / 100 % 10 ≡ 48 + k / 100 % 10 = cc in
    let tens : 48 + j / 10 % 10 ≡ 48 + k / 10 % 10 = cc in
    let ones : 48 + j % 10 ≡ 48 + k % 10 = cc in
    omega arith

-- a line rules out at most one number
pub delimiter-once : (front line : List ℕ) (j k : ℕ) → j < 10000 → k < 10000
    → is_delimiter (front ++ four_digits j) line ≡ true → is_delimiter (front ++ four_digits k) line ≡ true → j ≡ k
delimiter-once front line j k p q is also =
    let long : length (front ++ four_digits j) ≡ length (front ++ four_digits k) = length-append front (four_digits j) ∙ sym (length-append front (four_digits k)) in
    four_digits-once j k p q
    (append_cancel_left front (four_digits j) (four_digits k)
    (sym (delimiter-boundary (front ++ four_digits j) line is)
    ∙ ap (λ n. take n (drop 2 line)) long
    ∙ delimiter-boundary (front ++ four_digits k) line also))

-- a text with a byte other than a digit in one of the four places begins with no number
pub no-number : (text : List ℕ) (place : ℕ) (digit : ℕ → ℕ) → ((k : ℕ) → k < 10000 → digit k < 10)
    → ((k : ℕ) (rest : List ℕ) → get_or (four_digits k ++ rest) place 0 ≡ 48 + digit k)
    → ((value : ℕ) → value < 10 → get_or text place 0 ≡ 48 + value → ⊥)
    → (k : ℕ) → k < 10000 → starts_with nat_eq text (four_digits k) ≡ false
no-number text place digit low stands other k below =
    false_from_ne_true _ (λ is.
    other (digit k) (low k below) (ap (λ t. get_or t place 0) (begins-with (four_digits k) text is) ∙ stands k (drop 4 text)))

-- a line with two dashes and the boundary's front rules out the number that follows
delimiter-after : (front line inner rest : List ℕ) (k : ℕ) → line ≡ codes "--" ++ inner → inner ≡ front ++ rest
    → is_delimiter (front ++ four_digits k) line ≡ starts_with nat_eq rest (four_digits k)
delimiter-after front line inner rest k outer e =
    rw (outer, e) (starts_with-append (codes "--") (front ++ rest) (front ++ four_digits k) ∙ starts_with-append front rest (four_digits k))

pub rules-out-some : (front line inner rest : List ℕ) (read_off : Option ℕ) → line ≡ codes "--" ++ inner → inner ≡ front ++ rest
    → IfSome read_off (λ k. (k < 10000) × IsTrue (starts_with nat_eq rest (four_digits k)))
    → IfSome read_off (λ k. (k < 10000) × IsTrue (is_delimiter (front ++ four_digits k) line))
rules-out-some front line inner rest None outer e some = tt
rules-out-some front line inner rest (Some k) outer e some = (some.0, delimiter-after front line inner rest k outer e ∙ some.1)

pub rules-out-none : (front line inner rest : List ℕ) (read_off : Option ℕ) → line ≡ codes "--" ++ inner → inner ≡ front ++ rest
    → IfNone read_off ((k : ℕ) → k < 10000 → IsFalse (starts_with nat_eq rest (four_digits k)))
    → IfNone read_off ((k : ℕ) → k < 10000 → IsFalse (is_delimiter (front ++ four_digits k) line))
rules-out-none front line inner rest None outer e none = λ k below. delimiter-after front line inner rest k outer e ∙ none k below
rules-out-none front line inner rest (Some k) outer e none = tt

-- a line without the boundary's front after two dashes rules out no number
pub no-front : (front line inner : List ℕ) → line ≡ codes "--" ++ inner → ((rest : List ℕ) → inner ≡ front ++ rest → ⊥)
    → (k : ℕ) → is_delimiter (front ++ four_digits k) line ≡ false
no-front front line inner outer other k =
    false_from_ne_true _ (λ is.
    other (four_digits k ++ drop (length (front ++ four_digits k)) inner)
    (begins-with (front ++ four_digits k) inner (sym (starts_with-append (codes "--") inner (front ++ four_digits k)) ∙ ap (is_delimiter (front ++ four_digits k)) (sym outer) ∙ is)
    ∙ append_assoc front (four_digits k) _))

-- ---- a delimiter in a shown line

-- a byte of a delimiter is shown unchanged, and no other byte is shown as one
shown-same : (whole : Bool) (byte wanted : ℕ) → is_delimiter_byte wanted ≡ true → nat_eq wanted (byte_shown whole byte) ≡ nat_eq wanted byte
shown-same true byte wanted plain = refl
shown-same false byte wanted plain = here (is_printable byte || (byte == 9)) refl
  where
    here : (kept : Bool) → (is_printable byte || (byte == 9)) ≡ kept → nat_eq wanted (if kept then byte else 63) ≡ nat_eq wanted byte
    here true is = refl
    here false is = grind (arith, is, plain)

shown-begins : (whole : Bool) (most : ℕ) (needle line : List ℕ) → length needle ≤ most → list_all is_delimiter_byte needle ≡ true
    → starts_with nat_eq (take most (map (byte_shown whole) line)) needle ≡ starts_with nat_eq line needle
shown-begins whole most [] line short plain = refl
shown-begins whole zero (wanted ∷ needle) line short plain = absurd (omega (arith, short))
shown-begins whole (suc most) (wanted ∷ needle) [] short plain = refl
shown-begins whole (suc most) (wanted ∷ needle) (byte ∷ line) short plain =
    let parts = and_parts (is_delimiter_byte wanted) (list_all is_delimiter_byte needle) plain in
    λ i. shown-same whole byte wanted parts.0 i && shown-begins whole most needle line (omega (arith, short)) parts.1 i

plain-append : (xs ys : List ℕ) → list_all is_delimiter_byte xs ≡ true → list_all is_delimiter_byte ys ≡ true → list_all is_delimiter_byte (xs ++ ys) ≡ true
plain-append xs ys first second = list_all-append is_delimiter_byte xs ys ∙ rw (first, second) refl

plain-digit : (byte : ℕ) → 48 ≤ byte → byte ≤ 57 → is_delimiter_byte byte ≡ true
plain-digit byte low high = rw (le-leb 48 byte low, le-leb byte 57 high) refl

plain-digits : (k : ℕ) → k < 10000 → list_all is_delimiter_byte (four_digits k) ≡ true
plain-digits k below =
    rw (
      plain-digit (48 + k / 1000) (omega arith) (omega arith),
      plain-digit (48 + k / 100 % 10) (omega arith) (omega arith),
      plain-digit (48 + k / 10 % 10) (omega arith) (omega arith),
      plain-digit (48 + k % 10) (omega arith) (omega arith),
    ) refl

shown-delimiter : (whole : Bool) (front line : List ℕ) (k : ℕ) → k < 10000 → length front ≤ 56 → list_all is_delimiter_byte front ≡ true
    → is_delimiter (front ++ four_digits k) (line_shown whole line) ≡ is_delimiter (front ++ four_digits k) line
shown-delimiter whole front line k below short plain =
    shown-begins whole 998 (codes "--" ++ (front ++ four_digits k)) line
    (omega (arith, short, length-append front (four_digits k)))
    (plain-append (codes "--") (front ++ four_digits k) refl (plain-append front (four_digits k) plain (plain-digits k below)))

-- a line is a delimiter when it is shown if it is one as it came; the front is given as three equal texts
pub delimiter-shown : (whole : Bool) (front own bytes line : List ℕ) → own ≡ front → length own ≤ 56 → list_all is_delimiter_byte own ≡ true → bytes ≡ own
    → (k : ℕ) → k < 10000 → is_delimiter (front ++ four_digits k) (line_shown whole line) ≡ is_delimiter (bytes ++ four_digits k) line
delimiter-shown whole front own bytes line is short plain same k below =
    ap (λ text. is_delimiter (text ++ four_digits k) (line_shown whole line)) (sym is)
    ∙ shown-delimiter whole own line k below short plain
    ∙ ap (λ text. is_delimiter (text ++ four_digits k) line) (sym same)

plain-decimal : (n : ℕ) → n < 2 ^ 64 → list_all is_delimiter_byte (decimal n) ≡ true
plain-decimal n few =
    list_all-from_AllPass is_delimiter_byte (decimal n) (λ k d below.
    let digit = digit_at (decimal n) k (decimal_is_IsNumeral n few).0.1 below in
    let same = get_or_default (decimal n) k d 0 below in
    plain-digit (get_or (decimal n) k d) (omega (arith, digit.0, same)) (omega (arith, digit.1, same)))

plain-id : (id : List ℕ) → list_all is_letter_or_digit id ≡ true → list_all is_delimiter_byte id ≡ true
plain-id [] plain = refl
plain-id (byte ∷ id) plain =
    let parts = and_parts (is_letter_or_digit byte) (list_all is_letter_or_digit id) plain in
    rw (parts.0, plain-id id parts.1) refl

plain-service : (service : Service) → list_all is_delimiter_byte (service_letter service ∷ codes ".") ≡ true
plain-service Bounce = refl
plain-service Defer = refl
plain-service Trace = refl

-- the letter's name has only bytes of a delimiter
pub plain-name : (letter : Letter) → IsQueueId letter.key.id → letter.draft.moment < 2 ^ 64 → list_all is_delimiter_byte (letter_name letter) ≡ true
plain-name letter legal few =
    let service = service_letter letter.key.service ∷ codes "." in
    plain-append (service ++ letter.key.id ++ codes ".") (decimal letter.draft.moment)
    (plain-append (service ++ letter.key.id) (codes ".")
    (plain-append service letter.key.id (plain-service letter.key.service) (plain-id letter.key.id (and_parts _ (list_all is_letter_or_digit letter.key.id) legal).1))
    refl)
    (plain-decimal letter.draft.moment few)

-- a byte that is shown as a dash is a dash
shown-dash : (whole : Bool) (byte : ℕ) → byte_shown whole byte ≡ 45 → byte ≡ 45
shown-dash true byte shown = shown
shown-dash false byte shown = here (is_printable byte || (byte == 9)) shown
  where
    here : (plain : Bool) → (if plain then byte else 63) ≡ 45 → byte ≡ 45
    here true e = e
    here false e = absurd (omega (arith, e))

-- a line that doesn't begin with two dashes is no delimiter when it is shown
not-dashed : (whole : Bool) (boundary line : List ℕ) → is_dashed line ≡ false → is_delimiter boundary (line_shown whole line) ≡ false
not-dashed whole boundary line other = false_from_ne_true _ (λ is. dashed line other (delimiter-begins boundary (line_shown whole line) is))
  where
    dashed : (line : List ℕ) → is_dashed line ≡ false → line_shown whole line ≡ (codes "--" ++ boundary) ++ drop (length (codes "--" ++ boundary)) (line_shown whole line) → ⊥
    dashed [] other e = cc
    dashed (a ∷ []) other e = cc
    dashed (a ∷ b ∷ more) other e =
        let first : a ≡ 45 = shown-dash whole a (ap (λ l. get_or l 0 0) e) in
        let second : b ≡ 45 = shown-dash whole b (ap (λ l. get_or l 1 0) e) in
        false≢true (sym other ∙ rw (first, second) refl)

-- lines that don't begin with two dashes rule out nothing
none-dashed : (whole : Bool) (boundary : List ℕ) (lines : List (List ℕ)) → list_any is_dashed lines ≡ false → list_any (is_delimiter boundary) (map (line_shown whole) lines) ≡ false
none-dashed whole boundary [] none = refl
none-dashed whole boundary (line ∷ lines) none =
    let parts = or_parts (is_dashed line) (list_any is_dashed lines) none in
    rw (not-dashed whole boundary line parts.0, none-dashed whole boundary lines parts.1) refl

-- whether a number is ruled out follows from the table and the lines that are left
marked-other : (all marked here rest : Bool) → all ≡ (marked || (here || rest)) → here ≡ false → all ≡ (marked || rest)
marked-other all marked here rest read_off none = read_off ∙ rw none refl

marked-here : (all marked here rest : Bool) → all ≡ (marked || (here || rest)) → here ≡ true → all ≡ true
marked-here all marked here rest read_off some = read_off ∙ rw some (or-true marked)

-- the table after one more number is marked
marked-more : (all here rest : Bool) (table : List Bool) (found number : ℕ) → found < length table → (here ≡ true → found ≡ number) → (found ≡ number → here ≡ true)
    → all ≡ (get_or table number false || (here || rest)) → all ≡ (get_or (slice_set table found true) number false || rest)
marked-more all here rest table found number room once back read_off = elim (eqb_tells number found) [
  | inl same ↦
      marked-here all (get_or table number false) here rest read_off (back (sym same.1))
      ∙ ap (λ marked. marked || rest) (sym (ap (λ n. get_or (slice_set table found true) n false) same.1 ∙ get_or-set_same table found true false room))
  | inr other ↦
      marked-other all (get_or table number false) here rest read_off (false_from_ne_true here (λ is. other.1 (sym (once is))))
      ∙ ap (λ marked. marked || rest) (sym (get_or-set_other table found number true false other.1))
]

-- the table marks the numbers below 2,980 that the lines so far rule out; the remaining lines rule out the rest
abbrev pub IsMarked : List ℕ → Bool → List (List ℕ) → List Bool → List (List ℕ) → Type 0
IsMarked front whole all table left =
    (number : ℕ) → number < 2980
    → rules_out front all number ≡ (get_or table number false || list_any (is_delimiter (front ++ four_digits number)) (map (line_shown whole) left))

pub IsMarked-none : (front line : List ℕ) (whole : Bool) (all : List (List ℕ)) (table : List Bool) (left rest : List (List ℕ)) → left ≡ line ∷ rest
    → ((number : ℕ) → number < 2980 → is_delimiter (front ++ four_digits number) (line_shown whole line) ≡ false)
    → IsMarked front whole all table left → IsMarked front whole all table rest
IsMarked-none front line whole all table left rest e none so_far = λ number below.
    marked-other (rules_out front all number) (get_or table number false) (is_delimiter (front ++ four_digits number) (line_shown whole line))
    (list_any (is_delimiter (front ++ four_digits number)) (map (line_shown whole) rest))
    (so_far number below ∙ ap (λ left. get_or table number false || list_any (is_delimiter (front ++ four_digits number)) (map (line_shown whole) left)) e)
    (none number below)

pub IsMarked-some : (front line : List ℕ) (whole : Bool) (all : List (List ℕ)) (table : List Bool) (left rest : List (List ℕ)) (found : ℕ) → left ≡ line ∷ rest → length table ≡ 2980
    → found < 2980 → is_delimiter (front ++ four_digits found) (line_shown whole line) ≡ true
    → IsMarked front whole all table left → IsMarked front whole all (slice_set table found true) rest
IsMarked-some front line whole all table left rest found e size low is so_far = λ number below.
    marked-more (rules_out front all number) (is_delimiter (front ++ four_digits number) (line_shown whole line))
    (list_any (is_delimiter (front ++ four_digits number)) (map (line_shown whole) rest)) table found number (omega arith)
    (λ also. delimiter-once front (line_shown whole line) found number (omega arith) (omega arith) is also)
    (λ same. subst (λ n. is_delimiter (front ++ four_digits n) (line_shown whole line) ≡ true) same is)
    (so_far number below ∙ ap (λ left. get_or table number false || list_any (is_delimiter (front ++ four_digits number)) (map (line_shown whole) left)) e)

-- if no element passes a test, each one fails it
position-None : {X : Type 0} (p : X → Bool) (xs : List X) (d : X) → position p xs ≡ None → (k : ℕ) → k < length xs → p (get_or xs k d) ≡ false
position-None p xs d none k below = elim (leb_tells (suc (position_or_len p xs)) (length xs)) [
  | inl some ↦ absurd (some≢none (position_or_len p xs) (sym (ap (λ test. cond test (Some (position_or_len p xs)) None) some.0) ∙ none))
  | inr none ↦ fails_before_first p xs k d (omega (arith, none.1, below))
]
  where
    some≢none : (n : ℕ) → Some n ≡ None → ⊥
    some≢none n e = cc

abbrev pub IsTable : List ℕ → List (List ℕ) → List Bool → Type 0
IsTable front all table = (number : ℕ) → number < 2980 → get_or table number false ≡ rules_out front all number

-- if no lines are left, the table shows which numbers are ruled out
pub IsMarked-all : (front : List ℕ) (whole : Bool) (all : List (List ℕ)) (table : List Bool) (left : List (List ℕ)) → left ≡ [] → IsMarked front whole all table left → IsTable front all table
IsMarked-all front whole all table left e so_far = λ number below.
    sym (so_far number below ∙ ap (λ left. get_or table number false || list_any (is_delimiter (front ++ four_digits number)) (map (line_shown whole) left)) e ∙ or-false (get_or table number false))

-- the final table shows for each number whether it is ruled out
ruled_out-rules_out : (letter : Letter) (all : List (List ℕ)) (number : ℕ) → all ≡ returned_lines letter.draft
    → rules_out (boundary_front letter) all number ≡ is_ruled_out letter number
unfolding is_ruled_out boundary_text
ruled_out-rules_out letter all number l = rw l refl

-- the first free number in the table is that of the boundary
pub IsBoundaryNumber-first : (letter : Letter) (all : List (List ℕ)) (table : List Bool) (number : ℕ) → all ≡ returned_lines letter.draft
    → length table ≡ 2980 → IsTable (boundary_front letter) all table → position not table ≡ Some number → IsBoundaryNumber letter number
IsBoundaryNumber-first letter all table number l size read_off first =
    let found = position-Some not table number false first in
    record {
      free =
          sym (ruled_out-rules_out letter all number l) ∙ sym (read_off number (omega (arith, found.0, size)))
          ∙ not-true (get_or table number false) found.1;
      least = λ smaller below.
          sym (ruled_out-rules_out letter all smaller l) ∙ sym (read_off smaller (omega (arith, found.0, size, below)))
          ∙ not-false (get_or table smaller false) (found.2 smaller below);
    }

-- a table without a free number means that all its numbers are ruled out
pub all-ruled_out : (letter : Letter) (all : List (List ℕ)) (table : List Bool) → all ≡ returned_lines letter.draft
    → length table ≡ 2980 → IsTable (boundary_front letter) all table → position not table ≡ None → (number : ℕ) → number < 2980 → is_ruled_out letter number ≡ true
all-ruled_out letter all table l size read_off none number below =
    sym (ruled_out-rules_out letter all number l) ∙ sym (read_off number below)
    ∙ not-false (get_or table number false) (position-None not table false none number (omega (arith, size, below)))

-- lines that don't begin with two dashes rule out no number
none-ruled_out : (letter : Letter) (whole : Bool) (text : List ℕ) (number : ℕ) → lines_shown whole text ≡ returned_lines letter.draft
    → list_any is_dashed (taken_lines whole text) ≡ false → is_ruled_out letter number ≡ false
unfolding is_ruled_out
none-ruled_out letter whole text number shown none =
    ap (list_any (is_delimiter (boundary_text letter number))) (sym shown) ∙ none-dashed whole (boundary_text letter number) (taken_lines whole text) none

-- if no line begins with two dashes, the least free number is 0
pub none_ruled_out : (letter : Letter) (whole : Bool) (text : List ℕ) → lines_shown whole text ≡ returned_lines letter.draft
    → list_any is_dashed (taken_lines whole text) ≡ false → IsBoundaryNumber letter 0
none_ruled_out letter whole text shown none = record {
  free = none-ruled_out letter whole text 0 shown none;
  least = λ smaller below. absurd (omega (arith, below));
}
