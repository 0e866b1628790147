-- The test for status codes agrees with their definition.
use Rattle.std.specs.Prelude.{◌≡◌, ℕ, ◌+◌, ◌<◌, ◌≤◌, true, false, ◌&&◌, ◌==◌, not, nat_lt, nat_le, List, [], ◌∷◌, ◌++◌, length, codes, refl, IsTrue}
use Rattle.std.specs.List.{list_all, before_first, after_first, position_or_len}
use Rattle.std.proofs.Common.{arith, sym, ap, subst, ◌∙◌, inl, inr, get_or, take, length-append, length-drop, zero, suc}
use Rattle.std.specs.Str.{IsAscii}
use Rattle.std.proofs.lemmas.Str.Ascii.{IsAscii-nil, IsAscii-cons}
use Rattle.std.proofs.Math.Seq.{take-append_seam, drop-append-add}
use Rattle.std.proofs.lemmas.Bool.{and_parts, and_from, and_left, and_right, cases_eq, eqb-true, leb-true, ltb-false, ne_eqb, false≢true}
use Rattle.std.proofs.lemmas.List.{nil_from_length}
use Rattle.std.proofs.lemmas.List.Sums.{split_at_first, passes_at_first}
use Rattle.dsn_text.specs.Text.{is_digit, is_text}
use Rattle.dsn_text.specs.Status.{IsNumberText, IsStatusCode, is_class, is_dot, has_leading_zero, is_number_text, is_class_text, is_number_pair, is_status_code, status_class}
use Rattle.dsn_text.specs.inner.Kept.{longest_status}

-- the first dot of a text is after bytes that aren't dots
position-dot : (front rest : List ℕ) → list_all (λ byte. not (is_dot byte)) front ≡ true → position_or_len is_dot (front ++ 46 ∷ rest) ≡ length front
position-dot [] rest _ = refl
position-dot (byte ∷ front) rest clear =
    let parts = and_parts (not (is_dot byte)) (list_all (λ byte. not (is_dot byte)) front) clear in
    rw (parts.0, position-dot front rest parts.1) (omega arith)

before-dot : (front rest : List ℕ) → list_all (λ byte. not (is_dot byte)) front ≡ true → before_first is_dot (front ++ 46 ∷ rest) ≡ front
before-dot front rest clear = rw (position-dot front rest clear) (take-append_seam front (46 ∷ rest))

after-dot : (front rest : List ℕ) → list_all (λ byte. not (is_dot byte)) front ≡ true → after_first is_dot (front ++ 46 ∷ rest) ≡ rest
after-dot front rest clear = rw (position-dot front rest clear) (drop-append-add front (46 ∷ rest) 1)

-- digits aren't dots
digit-no_dot : (byte : ℕ) → is_digit byte ≡ true → not (is_dot byte) ≡ true
digit-no_dot byte digit = grind arith

digits-no_dot : (text : List ℕ) → list_all is_digit text ≡ true → list_all (λ byte. not (is_dot byte)) text ≡ true
digits-no_dot [] _ = refl
digits-no_dot (byte ∷ text) digits =
    let parts = and_parts (is_digit byte) (list_all is_digit text) digits in
    and_from _ _ (digit-no_dot byte parts.0) (digits-no_dot text parts.1)

-- numbers
no_leading_zero-rest : (text : List ℕ) → has_leading_zero text ≡ false → (rest : List ℕ) → text ≡ codes "0" ++ rest → rest ≡ []
no_leading_zero-rest text clear rest shape =
    let short : nat_lt 0 (length rest) ≡ false = sym (ap has_leading_zero shape) ∙ clear in
    nil_from_length rest (omega (arith, ltb-false 0 (length rest) short))

no_leading_zero-test : (text : List ℕ) → ((rest : List ℕ) → text ≡ codes "0" ++ rest → rest ≡ []) → has_leading_zero text ≡ false
no_leading_zero-test [] _ = refl
no_leading_zero-test (first ∷ rest) alone =
    elim (cases_eq first 48) as (λ _. has_leading_zero (first ∷ rest) ≡ false) [
      | inl equal ↦ and_right (first == 48) (nat_lt 0 (length rest)) (ap (λ (tail : List ℕ). nat_lt 0 (length tail)) (alone rest (ap (λ (byte : ℕ). byte ∷ rest) equal)))
      | inr other ↦ and_left (first == 48) (nat_lt 0 (length rest)) (ne_eqb first 48 other)
    ]

IsNumberText-test : (text : List ℕ) → IsTrue (is_number_text text) → IsNumberText text
IsNumberText-test text passes = record {
  digits = (and_parts (is_text is_digit 1 3 text) (not (has_leading_zero text)) passes).0;
  no_leading_zero = no_leading_zero-rest text (grind arith);
}

is_number_text-passes : (text : List ℕ) → IsNumberText text → IsTrue (is_number_text text)
is_number_text-passes text number = rw (number.digits, no_leading_zero-test text number.no_leading_zero) refl

number-digits : (text : List ℕ) → IsNumberText text → list_all is_digit text ≡ true
number-digits text number =
    (and_parts (nat_le 1 (length text) && nat_le (length text) 3) (list_all is_digit text) number.digits).1

number-no_dot : (text : List ℕ) → IsNumberText text → list_all (λ byte. not (is_dot byte)) text ≡ true
number-no_dot text number =
    digits-no_dot text (number-digits text number)

-- a text with the structure of a status code passes the test
pair-passes : (subject detail : List ℕ) → IsNumberText subject → IsNumberText detail → is_number_pair (subject ++ 46 ∷ detail) ≡ true
pair-passes subject detail first second =
    let clear = number-no_dot subject first in
    let text = subject ++ 46 ∷ detail in
    and_from (is_number_text (before_first is_dot text)) (is_number_text (after_first is_dot text))
    (ap is_number_text (before-dot subject detail clear) ∙ is_number_text-passes subject first)
    (ap is_number_text (after-dot subject detail clear) ∙ is_number_text-passes detail second)

class-no_dot : (class : ℕ) → is_class class ≡ true → list_all (λ byte. not (is_dot byte)) (class ∷ []) ≡ true
class-no_dot class known = grind arith

code-passes : (class : ℕ) (numbers : List ℕ) → is_class class ≡ true → is_number_pair numbers ≡ true → is_status_code ((class ∷ []) ++ 46 ∷ numbers) ≡ true
code-passes class numbers known pair =
    let clear = class-no_dot class known in
    let text = (class ∷ []) ++ 46 ∷ numbers in
    and_from (is_class_text (before_first is_dot text)) (is_number_pair (after_first is_dot text))
    (ap is_class_text (before-dot (class ∷ []) numbers clear) ∙ and_from (is_class class) true known refl)
    (ap is_number_pair (after-dot (class ∷ []) numbers clear) ∙ pair)

pub is_status_code-passes : (text : List ℕ) → IsStatusCode text → IsTrue (is_status_code text)
is_status_code-passes text code =
    ap is_status_code code.shape ∙ code-passes code.class (code.subject ++ 46 ∷ code.detail) code.class_known (pair-passes code.subject code.detail code.subject_number code.detail_number)

-- a text that passes the test has the structure of a status code
dot-found : (text : List ℕ) → 0 < length (after_first is_dot text) → position_or_len is_dot text < length text
dot-found text more = omega (arith, length-drop (position_or_len is_dot text + 1) text)

split-dot : (text : List ℕ) → position_or_len is_dot text < length text → text ≡ before_first is_dot text ++ 46 ∷ after_first is_dot text
split-dot text found =
    let dot : get_or text (position_or_len is_dot text) 0 ≡ 46 = eqb-true (get_or text (position_or_len is_dot text) 0) 46 (passes_at_first is_dot text 0 found) in
    split_at_first is_dot text 0 found ∙ ap (λ (byte : ℕ). before_first is_dot text ++ byte ∷ after_first is_dot text) dot

class-alone : (text : List ℕ) → is_class_text text ≡ true → (class : ℕ) × (text ≡ class ∷ []) × (is_class class ≡ true)
class-alone [] passes = absurd (false≢true passes)
class-alone (class ∷ rest) passes =
    let parts = and_parts (is_class class) (length rest == 0) passes in
    (class, ap (λ (tail : List ℕ). class ∷ tail) (nil_from_length rest (eqb-true (length rest) 0 parts.1)), parts.0)

number-some : (text : List ℕ) → is_number_text text ≡ true → 0 < length text
number-some [] passes = absurd (false≢true passes)
number-some (byte ∷ rest) _ = omega arith

parts-joined : (text front numbers subject detail : List ℕ) (class : ℕ) → text ≡ front ++ 46 ∷ numbers → front ≡ class ∷ [] → numbers ≡ subject ++ 46 ∷ detail → text ≡ (class ∷ codes ".") ++ (subject ++ (codes "." ++ detail))
parts-joined text front numbers subject detail class whole alone pair =
    whole ∙ (ap (λ (bytes : List ℕ). bytes ++ 46 ∷ numbers) alone ∙ ap (λ (bytes : List ℕ). class ∷ 46 ∷ bytes) pair)

pub IsStatusCode-test : (text : List ℕ) → IsTrue (is_status_code text) → IsStatusCode text
IsStatusCode-test text passes =
    let numbers = after_first is_dot text in
    let outer = and_parts (is_class_text (before_first is_dot text)) (is_number_pair numbers) passes in
    let inner = and_parts (is_number_text (before_first is_dot numbers)) (is_number_text (after_first is_dot numbers)) outer.1 in
    let inner_dot = dot-found numbers (number-some (after_first is_dot numbers) inner.1) in
    let outer_dot = dot-found text (omega (arith, inner_dot)) in
    let alone = class-alone (before_first is_dot text) outer.0 in
    record {
      class = alone.0;
      subject = before_first is_dot numbers;
      detail = after_first is_dot numbers;
      class_known = alone.2;
      subject_number = IsNumberText-test (before_first is_dot numbers) inner.0;
      detail_number = IsNumberText-test (after_first is_dot numbers) inner.1;
      shape = parts-joined text (before_first is_dot text) numbers (before_first is_dot numbers) (after_first is_dot numbers) alone.0 (split-dot text outer_dot) alone.1 (split-dot numbers inner_dot);
    }

-- the length of a status code is limited
length-IsNumberText : (text : List ℕ) → IsNumberText text → length text ≤ 3
length-IsNumberText text number =
    let sizes = (and_parts (nat_le 1 (length text) && nat_le (length text) 3) (list_all is_digit text) number.digits).0 in
    leb-true (length text) 3 (and_parts (nat_le 1 (length text)) (nat_le (length text) 3) sizes).1

pub length-IsStatusCode : (text : List ℕ) → IsStatusCode text → length text ≤ longest_status
length-IsStatusCode text code =
    let first = length-IsNumberText code.subject code.subject_number in
    let second = length-IsNumberText code.detail code.detail_number in
    omega (arith, first, second, ap length code.shape, length-append code.subject (46 ∷ code.detail))

-- the first byte of a status code is its class
pub is_class-status_class : (text : List ℕ) → IsStatusCode text → IsTrue (is_class (status_class text))
is_class-status_class text code = ap is_class (ap status_class code.shape) ∙ code.class_known

pub is_class-held : (len : ℕ) (buffer : List ℕ) → IsTrue (is_status_code (take len buffer)) → IsTrue (is_class (get_or buffer 0 0))
is_class-held zero [] passes = absurd (false≢true passes)
is_class-held (suc len) [] passes = absurd (false≢true passes)
is_class-held zero (byte ∷ rest) passes = absurd (false≢true passes)
is_class-held (suc len) (byte ∷ rest) passes =
    is_class-status_class (byte ∷ take len rest) (IsStatusCode-test (byte ∷ take len rest) passes)

-- a status code is ASCII
digit-below : (byte : ℕ) → is_digit byte ≡ true → byte < 128
digit-below byte digit = grind arith

digits-IsAscii : (text : List ℕ) → list_all is_digit text ≡ true → IsAscii text
digits-IsAscii [] _ = IsAscii-nil
digits-IsAscii (byte ∷ text) digits =
    let parts = and_parts (is_digit byte) (list_all is_digit text) digits in
    IsAscii-cons byte text (digit-below byte parts.0) (digits-IsAscii text parts.1)

digits-IsAscii-append : (text rest : List ℕ) → list_all is_digit text ≡ true → IsAscii rest → IsAscii (text ++ rest)
digits-IsAscii-append [] rest _ ascii = ascii
digits-IsAscii-append (byte ∷ text) rest digits ascii =
    let parts = and_parts (is_digit byte) (list_all is_digit text) digits in
    IsAscii-cons byte (text ++ rest) (digit-below byte parts.0) (digits-IsAscii-append text rest parts.1 ascii)

class-below : (class : ℕ) → is_class class ≡ true → class < 128
class-below class known = grind arith

pub IsAscii-IsStatusCode : (text : List ℕ) → IsStatusCode text → IsAscii text
IsAscii-IsStatusCode text code =
    let numbers = IsAscii-cons 46 code.detail (omega arith) (digits-IsAscii code.detail (number-digits code.detail code.detail_number)) in
    let pair = digits-IsAscii-append code.subject (46 ∷ code.detail) (number-digits code.subject code.subject_number) numbers in
    let dotted = IsAscii-cons 46 (code.subject ++ 46 ∷ code.detail) (omega arith) pair in
    subst IsAscii (sym code.shape) (IsAscii-cons code.class (46 ∷ (code.subject ++ 46 ∷ code.detail)) (class-below code.class code.class_known) dotted)
