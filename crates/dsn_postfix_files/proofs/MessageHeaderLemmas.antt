-- The header of a text is determined by the text's front, or is longer than the limit.
use Rattle.std.proofs.Common.{◌≡◌, ℕ, ◌+◌, ◌<◌, ◌≤◌, Bool, true, false, cond, List, [], ◌∷◌, ◌++◌, length, take, drop, refl, sym, subst, ◌∙◌, ap, arith, length-append, length-take, take_all, take-append-drop, if◌then◌else◌}
use Rattle.std.specs.Prelude.{◌||◌, nat_lt}
use Rattle.std.specs.List.{onto_first, slice_split}
use Rattle.std.proofs.lemmas.List.{take-append-le}
use Rattle.std.proofs.lemmas.List.Splits.{length-slice_split}
use Rattle.dsn_postfix_files.specs.LogLine.{all_lines, is_line_feed}
use Rattle.dsn_postfix_files.specs.LogParts.{with_its_feed}
use Rattle.dsn_postfix_files.specs.MessageHeader.{AreSameUpTo, begins_with, front_size, header_size, is_blank_byte, is_header_line, longer, longest_field_name, message_header, names_field, same}

-- ---- the lines of two texts, one after another

-- the last line of the first text and the first line of the second are one line
abbrev joined : List (List ℕ) → List (List ℕ) → List (List ℕ)
joined [] more = more
joined (line ∷ []) [] = line ∷ []
joined (line ∷ []) (first ∷ more) = (line ++ first) ∷ more
joined (line ∷ (next ∷ lines)) more = line ∷ joined (next ∷ lines) more

joined-empty : (more : List (List ℕ)) → 0 < length more → joined ([] ∷ []) more ≡ more
joined-empty [] some = absurd (omega arith)
joined-empty (first ∷ more) some = refl

joined-byte : (test : Bool) (byte : ℕ) (lines more : List (List ℕ)) → 0 < length lines
    → cond test ([] ∷ joined lines more) (onto_first byte (joined lines more)) ≡ joined (cond test ([] ∷ lines) (onto_first byte lines)) more
joined-byte test byte [] more some = absurd (omega arith)
joined-byte true byte (line ∷ lines) more some = refl
joined-byte false byte (line ∷ []) [] some = refl
joined-byte false byte (line ∷ []) (first ∷ more) some = refl
joined-byte false byte (line ∷ (next ∷ lines)) more some = refl

some-lines : (text : List ℕ) → 0 < length (all_lines text)
some-lines text = omega (arith, length-slice_split is_line_feed text)

lines-append : (front more : List ℕ) → all_lines (front ++ more) ≡ joined (all_lines front) (all_lines more)
lines-append [] more = sym (joined-empty (all_lines more) (some-lines more))
lines-append (byte ∷ front) more =
    ap (λ (lines : List (List ℕ)). cond (is_line_feed byte) ([] ∷ lines) (onto_first byte lines)) (lines-append front more)
    ∙ joined-byte (is_line_feed byte) byte (all_lines front) (all_lines more) (some-lines front)

-- the size of lines in bytes, with their line feeds
abbrev size_of_lines : List (List ℕ) → ℕ
size_of_lines [] = 0
size_of_lines (line ∷ lines) = with_its_feed line lines + size_of_lines lines

size-byte : (test : Bool) (byte : ℕ) (lines : List (List ℕ)) → 0 < length lines
    → size_of_lines (cond test ([] ∷ lines) (onto_first byte lines)) ≡ size_of_lines lines + 1
size-byte test byte [] some = absurd (omega arith)
size-byte true byte (line ∷ lines) some = omega arith
size-byte false byte (line ∷ []) some = omega arith
size-byte false byte (line ∷ (next ∷ lines)) some = omega arith

size-of-text : (text : List ℕ) → size_of_lines (all_lines text) ≡ length text
size-of-text [] = refl
size-of-text (byte ∷ text) =
    size-byte (is_line_feed byte) byte (all_lines text) (some-lines text) ∙ omega (arith, size-of-text text)

-- ---- the headers of both

-- the lines of a header have the same size, or both reach beyond the front
data Agree (mine whole total : ℕ) : Type 0 where
  equal : whole ≡ mine → Agree mine whole total
  beyond : total ≤ mine + longest_field_name → total ≤ whole + longest_field_name → Agree mine whole total

agree-last : (test other : Bool) (size more : ℕ) → other ≡ test → size ≤ more → Agree (if test then size + 0 else 0) (if other then more else 0) (size + 0)
agree-last true true size more is short = beyond (omega arith) (omega (arith, short))
agree-last true false size more is short = absurd cc
agree-last false true size more is short = absurd cc
agree-last false false size more is short = equal refl

agree-more : (test : Bool) (size mine whole total : ℕ) → Agree mine whole total → Agree (if test then size + mine else 0) (if test then size + whole else 0) (size + total)
agree-more true size mine whole total (equal is) = equal (ap (λ (n : ℕ). size + n) is)
agree-more true size mine whole total (beyond one other) = beyond (omega (arith, one)) (omega (arith, other))
agree-more false size mine whole total agree = equal refl

blank-append : (line first : List ℕ) → 0 < length line → begins_with is_blank_byte (line ++ first) ≡ begins_with is_blank_byte line
blank-append [] first some = absurd (omega arith)
blank-append (byte ∷ line) first some = refl

header-line-append : (line first : List ℕ) → longest_field_name ≤ length line → is_header_line (line ++ first) ≡ is_header_line line
header-line-append line first long =
    λ i. blank-append line first (omega (arith, long)) i || names_field (take-append-le longest_field_name line first long i)

feed-least : (line : List ℕ) (lines : List (List ℕ)) → length line ≤ with_its_feed line lines
feed-least line [] = omega arith
feed-least line (next ∷ lines) = omega arith

agree-one : (short : Bool) (line : List ℕ) (first : List ℕ) (more : List (List ℕ)) → nat_lt (length line) longest_field_name ≡ short
    → Agree (header_size (line ∷ [])) (header_size ((line ++ first) ∷ more)) (size_of_lines (line ∷ []))
agree-one true line first more is =
    let below : length line < longest_field_name = grind (arith, is) in beyond (omega (arith, below)) (omega (arith, below))
agree-one false line first more is =
    let long : longest_field_name ≤ length line = grind (arith, is) in
    agree-last (is_header_line line) (is_header_line (line ++ first)) (length line) (with_its_feed (line ++ first) more + header_size more)
    (header-line-append line first long) (omega (arith, feed-least (line ++ first) more, length-append line first))

feed-joined : (line next : List ℕ) (lines more : List (List ℕ)) → with_its_feed line (joined (next ∷ lines) more) ≡ length line + 1
feed-joined line next [] [] = refl
feed-joined line next [] (first ∷ more) = refl
feed-joined line next (other ∷ lines) more = refl

agree-lines : (lines more : List (List ℕ)) → 0 < length lines → 0 < length more → Agree (header_size lines) (header_size (joined lines more)) (size_of_lines lines)
agree-lines [] more some others = absurd (omega arith)
agree-lines (line ∷ []) [] some others = absurd (omega arith)
agree-lines (line ∷ []) (first ∷ more) some others = agree-one (nat_lt (length line) longest_field_name) line first more refl
agree-lines (line ∷ (next ∷ lines)) more some others =
    subst (λ (size : ℕ). Agree (header_size (line ∷ (next ∷ lines))) (if is_header_line line then size + header_size (joined (next ∷ lines) more) else 0) (size_of_lines (line ∷ (next ∷ lines))))
    (sym (feed-joined line next lines more))
    (agree-more (is_header_line line) (length line + 1) (header_size (next ∷ lines)) (header_size (joined (next ∷ lines) more)) (size_of_lines (next ∷ lines))
    (agree-lines (next ∷ lines) more (omega arith) others))

agree-texts : (front more : List ℕ) → Agree (header_size (all_lines front)) (header_size (all_lines (front ++ more))) (length front)
agree-texts front more =
    subst (λ (lines : List (List ℕ)). Agree (header_size (all_lines front)) (header_size lines) (length front)) (sym (lines-append front more))
    (subst (λ (size : ℕ). Agree (header_size (all_lines front)) (header_size (joined (all_lines front) (all_lines more))) size) (size-of-text front)
    (agree-lines (all_lines front) (all_lines more) (some-lines front) (some-lines more)))

-- ---- a text and its front

-- the header ends within the front of the text, or both headers are longer than the limit
same-size : (limit : ℕ) (text front more : List ℕ) (inside : Bool) → text ≡ front ++ more → limit < length front
    → header_size (all_lines text) ≡ header_size (all_lines front)
    → nat_lt (length front) (header_size (all_lines front)) ≡ inside
    → AreSameUpTo limit (message_header front) (message_header text)
same-size limit text front more true text_is long size is =
    let over : length front < header_size (all_lines front) = grind (arith, is) in
    let length_of : length text ≡ length front + length more = ap length text_is ∙ length-append front more in
    longer (omega (arith, over, long, length-take (header_size (all_lines front)) front))
    (omega (arith, over, long, size, length_of, length-take (header_size (all_lines text)) text))
same-size limit text front more false text_is long size is =
    let under : header_size (all_lines front) ≤ length front = grind (arith, is) in
    same (sym ((λ i. take (size i) (text_is i)) ∙ take-append-le (header_size (all_lines front)) front more under))

by-agreement : (limit : ℕ) (text front more : List ℕ) → text ≡ front ++ more → length front ≡ front_size limit
    → Agree (header_size (all_lines front)) (header_size (all_lines text)) (length front)
    → AreSameUpTo limit (message_header front) (message_header text)
by-agreement limit text front more text_is size (equal is) =
    same-size limit text front more (nat_lt (length front) (header_size (all_lines front))) text_is (omega (arith, size)) is refl
by-agreement limit text front more text_is size (beyond one other) =
    let length_of : length text ≡ length front + length more = ap length text_is ∙ length-append front more in
    longer (omega (arith, size, one, length-take (header_size (all_lines front)) front))
    (omega (arith, size, other, length_of, length-take (header_size (all_lines text)) text))

by-size : (limit : ℕ) (text : List ℕ) (long : Bool) → nat_lt (front_size limit) (length text) ≡ long
    → AreSameUpTo limit (message_header (take (front_size limit) text)) (message_header text)
by-size limit text true is =
    let over : front_size limit < length text = grind (arith, is) in
    let front : List ℕ = take (front_size limit) text in
    let more : List ℕ = drop (front_size limit) text in
    let text_is : text ≡ front ++ more = sym (take-append-drop (front_size limit) text) in
    by-agreement limit text front more text_is (omega (arith, over, length-take (front_size limit) text))
    (subst (λ (whole : List ℕ). Agree (header_size (all_lines front)) (header_size (all_lines whole)) (length front)) (sym text_is) (agree-texts front more))
by-size limit text false is =
    let under : length text ≤ front_size limit = grind (arith, is) in
    same (ap message_header (take_all (front_size limit) text under))

pub header_of_front : (limit : ℕ) (text : List ℕ) → AreSameUpTo limit (message_header (take (front_size limit) text)) (message_header text)
header_of_front limit text = by-size limit text (nat_lt (front_size limit) (length text)) refl
