-- The test of a text of extension fields agrees with the definition.
use Rattle.std.proofs.Common.{◌≡◌, ℕ, zero, suc, ◌+◌, ◌*◌, ◌<◌, ◌≤◌, Bool, true, false, List, [], ◌∷◌, ◌++◌, length, drop, codes, refl, sym, ap, subst, ◌∙◌, cond, arith, length-append, length-drop, length-take, append_assoc}
use Rattle.std.specs.Prelude.{◌&&◌, ◌==◌, nat_eq, nat_lt, All, IsTrue, if◌then◌else◌}
use Rattle.std.specs.List.{starts_with, before_first, after_first, position_or_len, slice_split, onto_first, flat_map}
use Rattle.std.proofs.lemmas.Bool.{and_parts, eqb-true, false≢true, le-ltb, lt-ltb, ltb-true}
use Rattle.std.proofs.lemmas.Grind.{common_steps}
use Rattle.std.proofs.lemmas.List.{nil_from_length}
use Rattle.std.proofs.lemmas.List.Elements.{All-cons, All-nil}
use Rattle.std.proofs.lemmas.List.Splits.{slice_split_first, slice_split_none}
use Rattle.std.proofs.lemmas.List.Sums.{fails_before_first, split_at_first, passes_at_first}
use Rattle.dsn_text.specs.Extension.{IsExtensionLine, IsExtensionText, lines_but_last, are_extension_lines, lines_ended_by_lf, is_field_colon, is_feed, is_extension_line, is_extension_name, is_extension_rest, is_extension_text, is_extension_value, longest_extension_name, longest_extension_value, most_extensions}
use Rattle.dsn_text.specs.Text.{is_atom_byte, is_printable, is_text}

-- a list before other lists is not the last
before-others : (test : Bool) (line : List ℕ) (byte : ℕ) (parts : List (List ℕ))
    → lines_but_last (line ∷ cond test ([] ∷ parts) (onto_first byte parts)) ≡ line ∷ lines_but_last (cond test ([] ∷ parts) (onto_first byte parts))
before-others true line byte parts = refl
before-others false line byte [] = refl
before-others false line byte (part ∷ parts) = refl

lines_but_last-cons : (line text : List ℕ) → lines_but_last (line ∷ slice_split is_feed text) ≡ line ∷ lines_but_last (slice_split is_feed text)
lines_but_last-cons line [] = refl
lines_but_last-cons line (byte ∷ rest) = before-others (is_feed byte) line byte (slice_split is_feed rest)

-- if there is an LF, the first line is the text before it, and the other lines are after it
pub lines_ended_by_lf_first : (text : List ℕ) → position_or_len is_feed text < length text → lines_ended_by_lf text ≡ before_first is_feed text ∷ lines_ended_by_lf (after_first is_feed text)
unfolding lines_ended_by_lf
lines_ended_by_lf_first text found =
    ap lines_but_last (slice_split_first is_feed text 0 found) ∙ lines_but_last-cons (before_first is_feed text) (after_first is_feed text)

-- if there is no LF, no line ends
pub lines_ended_by_lf_none : (text : List ℕ) → length text ≤ position_or_len is_feed text → lines_ended_by_lf text ≡ []
unfolding lines_ended_by_lf
lines_ended_by_lf_none text none =
    ap lines_but_last (slice_split_none is_feed text (λ k d within. fails_before_first is_feed text k d (omega arith)))

-- the text before the first LF is the whole text only if there is no LF
pub feed_before : (text : List ℕ) → length (before_first is_feed text) ≡ length text → length text ≤ position_or_len is_feed text
feed_before text whole = omega (arith, length-take (position_or_len is_feed text) text, whole)

pub feed_found : (text : List ℕ) → ¬ (length (before_first is_feed text) ≡ length text) → position_or_len is_feed text < length text
feed_found text part = grind (arith, length-take (position_or_len is_feed text) text)

pub lines_ended_by_lf-nil : lines_ended_by_lf [] ≡ []
unfolding lines_ended_by_lf
lines_ended_by_lf-nil = refl

-- a text of a kind is no longer than the limit of its kind
length-is_text : (allowed : ℕ → Bool) (least most : ℕ) (text : List ℕ) → IsTrue (is_text allowed least most text) → length text ≤ most
length-is_text allowed least most text is = grind (arith, common_steps)

-- a text with its first colon
colon-split : (line : List ℕ) → position_or_len is_field_colon line < length line → line ≡ before_first is_field_colon line ++ 58 ∷ after_first is_field_colon line
colon-split line found =
    let byte = eqb-true _ 58 (passes_at_first is_field_colon line 0 found) in
    split_at_first is_field_colon line 0 found ∙ ap (λ (b : ℕ). before_first is_field_colon line ++ b ∷ after_first is_field_colon line) byte

feed-split : (text : List ℕ) → position_or_len is_feed text < length text → text ≡ before_first is_feed text ++ 10 ∷ after_first is_feed text
feed-split text found =
    let byte = eqb-true _ 10 (passes_at_first is_feed text 0 found) in
    split_at_first is_feed text 0 found ∙ ap (λ (b : ℕ). before_first is_feed text ++ b ∷ after_first is_feed text) byte

-- a text of a space and a value begins with the space
space-first : (rest : List ℕ) → IsTrue (is_extension_rest rest) → (rest ≡ 32 ∷ drop 1 rest) × IsTrue (is_extension_value (drop 1 rest))
space-first [] is = absurd (false≢true is)
space-first (byte ∷ rest) is =
    let parts = and_parts (starts_with nat_eq (byte ∷ rest) (codes " ")) (is_extension_value rest) is in
    let space = and_parts (nat_eq 32 byte) true parts.0 in
    (ap (λ (b : ℕ). b ∷ rest) (sym (eqb-true 32 byte space.0)), parts.1)

-- there is text after the first colon only if there is a colon
found-rest : (line : List ℕ) (byte : ℕ) (rest : List ℕ) → after_first is_field_colon line ≡ byte ∷ rest → position_or_len is_field_colon line < length line
found-rest line byte rest is = omega (arith, ap length is, length-drop (position_or_len is_field_colon line + 1) line)

pub IsExtensionLine-test : (line : List ℕ) → IsTrue (is_extension_line line) → IsExtensionLine line
unfolding is_extension_line
IsExtensionLine-test line is =
    let parts = and_parts (is_extension_name (before_first is_field_colon line)) (is_extension_rest (after_first is_field_colon line)) is in
    let rest = space-first (after_first is_field_colon line) parts.1 in
    let found = found-rest line 32 (drop 1 (after_first is_field_colon line)) rest.0 in
    record {
      name = before_first is_field_colon line;
      value = drop 1 (after_first is_field_colon line);
      name_legal = parts.0;
      value_legal = rest.1;
      shape = colon-split line found ∙ ap (λ (after : List ℕ). before_first is_field_colon line ++ 58 ∷ after) rest.0
          ∙ sym (append_assoc (before_first is_field_colon line) (codes ": ") (drop 1 (after_first is_field_colon line)));
    }

-- a line has at most 321 bytes
length-IsExtensionLine : (line : List ℕ) → IsExtensionLine line → length line ≤ 321
length-IsExtensionLine line is =
    let parts = and_parts (starts_with nat_eq is.name (codes "X-")) (is_text is_atom_byte 3 longest_extension_name is.name) is.name_legal in
    let name = length-is_text is_atom_byte 3 longest_extension_name is.name parts.1 in
    let value = length-is_text is_printable 1 longest_extension_value is.value is.value_legal in
    omega (arith, name, value, ap length is.shape, length-append (is.name ++ codes ": ") is.value, length-append is.name (codes ": "))

-- properties of a text of at most the given number of lines that pass the test
record AreRead (most : ℕ) (text : List ℕ) : Type 0 where
  fields : All IsExtensionLine (lines_ended_by_lf text)
  few : length (lines_ended_by_lf text) ≤ most
  shape : text ≡ flat_map (λ (line : List ℕ). line ++ codes "\n") (lines_ended_by_lf text)
  short : length text ≤ most * 322

nil-read : (most : ℕ) (text : List ℕ) → text ≡ [] → AreRead most text
nil-read most text is = subst (AreRead most) (sym is) (record {
  fields = subst (All IsExtensionLine) (sym lines_ended_by_lf-nil) (All-nil IsExtensionLine);
  few = rw lines_ended_by_lf-nil (omega arith);
  shape = rw lines_ended_by_lf-nil refl;
  short = omega arith;
})

line-read : (most : ℕ) (text : List ℕ) → position_or_len is_feed text < length text → IsExtensionLine (before_first is_feed text) → AreRead most (after_first is_feed text) → AreRead (suc most) text
line-read most text found line after =
    let lines = lines_ended_by_lf_first text found in
    let split = feed-split text found in
    let short = length-IsExtensionLine (before_first is_feed text) line in
    record {
      fields = subst (All IsExtensionLine) (sym lines) (All-cons IsExtensionLine (before_first is_feed text) (lines_ended_by_lf (after_first is_feed text)) line after.fields);
      few = rw lines (omega (arith, after.few));
      shape = split ∙ ap (λ (rest : List ℕ). before_first is_feed text ++ 10 ∷ rest) after.shape
          ∙ sym (append_assoc (before_first is_feed text) (10 ∷ []) (flat_map (λ (line : List ℕ). line ++ codes "\n") (lines_ended_by_lf (after_first is_feed text))))
          ∙ ap (flat_map (λ (line : List ℕ). line ++ codes "\n")) (sym lines);
      short = omega (arith, after.short, short, ap length split, length-append (before_first is_feed text) (10 ∷ after_first is_feed text));
    }

read-found : (found : Bool) (most : ℕ) (text : List ℕ) → nat_lt (position_or_len is_feed text) (length text) ≡ found
    → (IsTrue (are_extension_lines most (after_first is_feed text)) → AreRead most (after_first is_feed text))
    → IsTrue (if found then (is_extension_line (before_first is_feed text) && are_extension_lines most (after_first is_feed text)) else length text == 0)
    → AreRead (suc most) text
read-found true most text found later passes =
    let parts = and_parts (is_extension_line (before_first is_feed text)) (are_extension_lines most (after_first is_feed text)) passes in
    line-read most text (ltb-true _ _ found) (IsExtensionLine-test (before_first is_feed text) parts.0) (later parts.1)
read-found false most text found later passes = nil-read (suc most) text (nil_from_length text (eqb-true (length text) 0 passes))

AreRead-test : (most : ℕ) (text : List ℕ) → IsTrue (are_extension_lines most text) → AreRead most text
unfolding are_extension_lines
AreRead-test zero text is = nil-read zero text (nil_from_length text (eqb-true (length text) 0 is))
AreRead-test (suc most) text is =
    read-found (nat_lt (position_or_len is_feed text) (length text)) most text refl (λ passes. AreRead-test most (after_first is_feed text) passes) is

pub extension_text_read : (text : List ℕ) → IsTrue (is_extension_text text) → IsExtensionText text
extension_text_read text is =
    let read = AreRead-test most_extensions text is in
    record { fields = read.fields; few = read.few; shape = read.shape; short = read.short }

-- ---- one line after another

pub lines-go_on : (left : ℕ) (text : List ℕ) → position_or_len is_feed text < length text → is_extension_line (before_first is_feed text) ≡ true → are_extension_lines (suc left) text ≡ are_extension_lines left (after_first is_feed text)
unfolding are_extension_lines
lines-go_on left text found field = rw (lt-ltb _ _ found, field) refl

pub lines-stop : (left : ℕ) (text : List ℕ) → position_or_len is_feed text < length text → is_extension_line (before_first is_feed text) ≡ false → are_extension_lines (suc left) text ≡ false
unfolding are_extension_lines
lines-stop left text found no_field = rw (lt-ltb _ _ found, no_field) refl

pub lines-end : (left : ℕ) (text : List ℕ) → length text ≤ position_or_len is_feed text → are_extension_lines left text ≡ (length text == 0)
unfolding are_extension_lines
lines-end zero text none = refl
lines-end (suc left) text none = rw (le-ltb _ _ none) refl

pub lines-none : (text : List ℕ) → are_extension_lines 0 text ≡ (length text == 0)
unfolding are_extension_lines
lines-none text = refl
