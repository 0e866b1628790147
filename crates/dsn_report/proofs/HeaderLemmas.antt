-- The lines of a header, one at a time.
use Rattle.std.proofs.Common.{min, ◌≡◌, ℕ, suc, ◌+◌, ◌<◌, ◌≤◌, Bool, true, false, not, List, [], ◌∷◌, ◌++◌, length, take, drop, get_or, map, refl, sym, ap, subst, ◌∙◌, cond, arith, if◌then◌else◌}
use Rattle.std.specs.Prelude.{◌==◌, nat_le}
use Rattle.std.specs.List.{All, list_all, onto_first, slice_split, before_first, prefix_len}
use Rattle.std.specs.Str.Lines.{lines, lines_of_parts, strip_carriage_return}
use Rattle.std.proofs.lemmas.Bool.{false_from_ne_true, false≢true, and_parts, leb-true}
use Rattle.std.proofs.lemmas.List.{take-append-drop, length-take, take-take, take_all, take-map, get_or-take, get_or_default}
use Rattle.std.proofs.lemmas.List.Splits.{slice_split_at, slice_split_none}
use Rattle.std.proofs.Math.Seq.{drop-cons, take-length}
use Rattle.bstr.specs.Find.{Nowhere, Passes, is_byte}
use Rattle.dsn_outcome.specs.Draft.{Draft}
use Rattle.dsn_report.specs.Boundary.{header_lines, is_message, may_be_eight_bit, returned_lines, returns_message, shown_line, stands_whole}
use Rattle.dsn_report.specs.LegalLines.{is_eight_bit_byte, is_line_of, is_mail_byte}
use Rattle.dsn_report.specs.Notice.{part_of, returned_part}
use Rattle.dsn_report.specs.inner.NoticeLines.{byte_shown, line_shown, lines_shown}

-- a part before other parts is a line, since there is always a part after it
part-before : (test : Bool) (x : List ℕ) (b : ℕ) (parts : List (List ℕ))
    → lines_of_parts (x ∷ cond test ([] ∷ parts) (onto_first b parts)) ≡ strip_carriage_return x ∷ lines_of_parts (cond test ([] ∷ parts) (onto_first b parts))
part-before true x b parts = refl
part-before false x b [] = refl
part-before false x b (part ∷ parts) = refl

lines_of_parts-cons : (p : ℕ → Bool) (x : List ℕ) (text : List ℕ)
    → lines_of_parts (x ∷ slice_split p text) ≡ strip_carriage_return x ∷ lines_of_parts (slice_split p text)
lines_of_parts-cons p x [] = refl
lines_of_parts-cons p x (b ∷ rest) = part-before (p b) x b (slice_split p rest)

-- no byte before the first line feed is a line feed
pub none-before : (text : List ℕ) (end : ℕ) → end ≤ length text → Nowhere (Passes (is_byte 10) text) 0 end → All (λ b. is_byte 10 b ≡ false) (take end text)
none-before text end within before = λ k d short.
    let low : k < end = omega (arith, length-take end text) in
    let same : get_or (take end text) k d ≡ get_or text k 0 = get_or-take end text k d low ∙ get_or_default text k d 0 (omega arith) in
    ap (is_byte 10) same ∙ false_from_ne_true _ (before k (omega arith) low)

-- the first line ends at the first line feed
pub lines-at : (text : List ℕ) (end : ℕ) → end < length text → Nowhere (Passes (is_byte 10) text) 0 end → Passes (is_byte 10) text end
    → lines text ≡ strip_carriage_return (take end text) ∷ lines (drop (end + 1) text)
lines-at text end within before here =
    let next : end + 1 ≡ suc end = omega arith in
    let joined : text ≡ take end text ++ (get_or text end 0 ∷ drop (end + 1) text) =
    rw (next, ← drop-cons text end 0 within) (sym (take-append-drop end text)) in
    let parts : slice_split (is_byte 10) text ≡ take end text ∷ slice_split (is_byte 10) (drop (end + 1) text) =
    ap (slice_split (is_byte 10)) joined
    ∙ slice_split_at (is_byte 10) (take end text) (get_or text end 0) (drop (end + 1) text) (none-before text end (omega arith) before) here in
    ap lines_of_parts parts ∙ lines_of_parts-cons (is_byte 10) (take end text) (drop (end + 1) text)

-- a text without a line feed is one line, or none if it is empty
pub lines-none : (text : List ℕ) → Nowhere (Passes (is_byte 10) text) 0 (length text) → lines text ≡ (if length text == 0 then [] else text ∷ [])
lines-none text nowhere =
    let none : All (λ b. is_byte 10 b ≡ false) text = subst (All (λ b. is_byte 10 b ≡ false)) (take-length text) (none-before text (length text) (omega arith) nowhere) in
    ap lines_of_parts (slice_split_none (is_byte 10) text none)

take-first : (empty : Bool) (line : List ℕ) (n : ℕ) (others : List (List ℕ))
    → take (cond (not empty) (1 + n) 0) (line ∷ others) ≡ (if empty then [] else line ∷ take n others)
take-first true line n others = refl
take-first false line n others = let next : 1 + n ≡ suc n = omega arith in ap (λ m. take m (line ∷ others)) next

-- the header continues after a line that isn't empty
pub header_lines-first : (text line rest : List ℕ) → lines text ≡ line ∷ lines rest
    → header_lines text ≡ (if length line == 0 then [] else line ∷ header_lines rest)
unfolding header_lines
header_lines-first text line rest e =
    ap (before_first (λ line. length line == 0)) e
    ∙ take-first (length line == 0) line (prefix_len (λ line. not (length line == 0)) (lines rest)) (lines rest)

-- the header of a text that is one line or empty
pub header_lines-last : (text : List ℕ) → lines text ≡ (if length text == 0 then [] else text ∷ [])
    → header_lines text ≡ (if length text == 0 then [] else text ∷ header_lines [])
unfolding header_lines
header_lines-last text e = ap (before_first (λ line. length line == 0)) e ∙ last (length text == 0) refl
  where
    last : (empty : Bool) → (length text == 0) ≡ empty → before_first (λ line. length line == 0) (if empty then [] else text ∷ []) ≡ (if empty then [] else text ∷ [])
    last true is = refl
    last false is = rw is refl

not-none : (n : ℕ) → (suc n == 0) ≡ false
not-none n = grind arith

-- the lines of a text that isn't empty are its first line and those of the rest
pub lines-some : (text line rest : List ℕ) → 0 < length text → lines text ≡ line ∷ lines rest
    → lines text ≡ (if length text == 0 then [] else line ∷ lines rest)
lines-some [] line rest some e = absurd (omega (arith, some))
lines-some (byte ∷ text) line rest some e = rw (not-none (length text)) e

-- the lines of a text that is one line or empty
pub lines-last : (text : List ℕ) → lines text ≡ (if length text == 0 then [] else text ∷ [])
    → lines text ≡ (if length text == 0 then [] else text ∷ lines [])
lines-last text e = e

-- the shown bytes of a line, up to the length limit
pub shown-whole : (whole : Bool) (line : List ℕ) (len : ℕ) → len ≡ min (length line) 998 → map (byte_shown whole) (take len (take len line)) ≡ line_shown whole line
shown-whole whole line len e =
    let short : len ≤ 998 = omega arith in
    let front : take len line ≡ take 998 line =
    sym (take-take len 998 line short) ∙ take_all len (take 998 line) (omega (arith, length-take 998 line)) in
    ap (map (byte_shown whole)) (take-take len len line (omega arith) ∙ front) ∙ sym (take-map (byte_shown whole) 998 line)

-- the lines of a message that is returned whole are unchanged
bytes-kept : (line : List ℕ) → map (byte_shown true) line ≡ line
bytes-kept [] = refl
bytes-kept (byte ∷ line) = rw (bytes-kept line) refl

line-kept : (eight : Bool) (line : List ℕ) → is_line_of eight line ≡ true → line_shown true line ≡ line
line-kept eight line legal = ap (take 998) (bytes-kept line) ∙ take_all 998 line (leb-true (length line) 998 (short eight legal))
  where
    short : (eight : Bool) → is_line_of eight line ≡ true → nat_le (length line) 998 ≡ true
    short true legal = (and_parts (nat_le (length line) 998) (list_all is_eight_bit_byte line) legal).0
    short false legal = (and_parts (nat_le (length line) 998) (list_all is_mail_byte line) legal).0

pub lines-kept : (eight : Bool) (ls : List (List ℕ)) → list_all (is_line_of eight) ls ≡ true → map (line_shown true) ls ≡ ls
lines-kept eight [] legal = refl
lines-kept eight (line ∷ ls) legal =
    let parts = and_parts (is_line_of eight line) (list_all (is_line_of eight) ls) legal in
    rw (line-kept eight line parts.0, lines-kept eight ls parts.1) refl

-- whether any lines are shown
one-or-none : (f : List ℕ → List ℕ) (empty : Bool) (line : List ℕ) (ls : List (List ℕ)) → (length (map f (if empty then [] else line ∷ ls)) == 0) ≡ empty
one-or-none f true line ls = refl
one-or-none f false line ls = not-none (length (map f ls))

pub none_shown : (whole : Bool) (text line rest : List ℕ) → header_lines text ≡ (if length line == 0 then [] else line ∷ header_lines rest)
    → lines text ≡ (if length text == 0 then [] else line ∷ lines rest)
    → (if whole then length text == 0 else length line == 0) ≡ (length (lines_shown whole text) == 0)
none_shown true text line rest header all = sym (ap (λ ls. length (map (line_shown true) ls) == 0) all ∙ one-or-none (line_shown true) (length text == 0) line (lines rest))
none_shown false text line rest header all = sym (ap (λ ls. length (map (line_shown false) ls) == 0) header ∙ one-or-none (line_shown false) (length line == 0) line (header_lines rest))

-- the lines shown of a draft's text are those that its notice returns
pub shown-returned : (draft : Draft) → lines_shown (returns_message draft) draft.header ≡ returned_lines draft
unfolding returned_lines returns_message stands_whole
shown-returned draft = here (returns_message draft) refl
  where
    here : (whole : Bool) → returns_message draft ≡ whole → lines_shown whole draft.header ≡ (if whole then lines draft.header else map shown_line (header_lines draft.header))
    here true is = lines-kept (may_be_eight_bit draft.returned) (lines draft.header) (and_parts (is_message draft.returned) _ is).1
    here false is = refl

-- if there are no lines, there is no returned part
pub returned_part-none : (boundary description content_type : List ℕ) (eight : Bool) (ls : List (List ℕ)) → (length ls == 0) ≡ true → returned_part boundary description content_type eight ls ≡ []
unfolding returned_part
returned_part-none boundary description content_type eight [] empty = refl
returned_part-none boundary description content_type eight (line ∷ ls) empty = absurd (false≢true (sym (not-none (length ls)) ∙ empty))

-- if there are lines, there is a returned part
pub returned_part-some : (boundary description content_type : List ℕ) (eight : Bool) (ls : List (List ℕ)) → (length ls == 0) ≡ false
    → returned_part boundary description content_type eight ls ≡ part_of boundary description content_type eight ls
unfolding returned_part
returned_part-some boundary description content_type eight [] some = absurd cc
returned_part-some boundary description content_type eight (line ∷ ls) some = refl
