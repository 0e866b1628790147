-- Extension fields are unchanged in a notice: properties of each of their lines.
use Rattle.std.proofs.Common.{◌≡◌, ℕ, zero, suc, ◌+◌, ◌<◌, Bool, true, false, List, [], ◌∷◌, ◌++◌, None, length, drop, map, codes, refl, sym, ap, ◌∙◌, arith, append_assoc, length-drop, if◌then◌else◌}
use Rattle.std.specs.Prelude.{◌&&◌, ◌==◌, nat_eq, nat_lt}
use Rattle.std.specs.List.{starts_with, before_first, after_first, position_or_len, list_all, list_any}
use Rattle.std.proofs.lemmas.Bool.{eqb-true, false≢true, ltb-true}
use Rattle.std.proofs.lemmas.List.{nil_from_length}
use Rattle.std.proofs.lemmas.List.Sums.{passes_at_first, split_at_first}
use Rattle.dsn_text.specs.Extension.{are_extension_lines, lines_ended_by_lf, is_field_colon, is_feed, is_extension_line, is_extension_name, is_extension_rest, is_extension_text, most_extensions}
use Rattle.dsn_text.proofs.ExtensionLemmas.{lines_ended_by_lf-nil, lines_ended_by_lf_first}
use Rattle.dsn_report.specs.Boundary.{is_delimiter}
use Rattle.dsn_report.specs.Grammar.{Field, field_line, same_text, value_of, is_choice_of, extensions_in, has_plain_values}
use Rattle.dsn_report.specs.Lines.{begins_with_dot}
use Rattle.dsn_report.proofs.PlainLemmas.{IsPlain, and-parts, extension_name-plain, extension_value-plain}

-- each line of a valid text of extension fields is valid
lines-found : (found : Bool) (most : ℕ) (text : List ℕ) → nat_lt (position_or_len is_feed text) (length text) ≡ found
    → (are_extension_lines most (after_first is_feed text) ≡ true → list_all is_extension_line (lines_ended_by_lf (after_first is_feed text)) ≡ true)
    → (if found then (is_extension_line (before_first is_feed text) && are_extension_lines most (after_first is_feed text)) else length text == 0) ≡ true
    → list_all is_extension_line (lines_ended_by_lf text) ≡ true
lines-found true most text found later passes =
    let parts = and-parts (is_extension_line (before_first is_feed text)) (are_extension_lines most (after_first is_feed text)) passes in
    rw (lines_ended_by_lf_first text (ltb-true _ _ found), parts.0, later parts.1) refl
lines-found false most text found later passes = rw (nil_from_length text (eqb-true (length text) 0 passes), lines_ended_by_lf-nil) refl

lines-pass : (most : ℕ) (text : List ℕ) → are_extension_lines most text ≡ true → list_all is_extension_line (lines_ended_by_lf text) ≡ true
unfolding are_extension_lines
lines-pass zero text is = rw (nil_from_length text (eqb-true (length text) 0 is), lines_ended_by_lf-nil) refl
lines-pass (suc most) text is =
    lines-found (nat_lt (position_or_len is_feed text) (length text)) most text refl (λ passes. lines-pass most (after_first is_feed text) passes) is

pub extension_lines-pass : (text : List ℕ) → is_extension_text text ≡ true → list_all is_extension_line (lines_ended_by_lf text) ≡ true
extension_lines-pass text is = lines-pass most_extensions text is

-- a name begins with X
name-first : (name : List ℕ) → is_extension_name name ≡ true → name ≡ 88 ∷ drop 1 name
name-first [] is = absurd (false≢true is)
name-first (byte ∷ rest) is =
    let front = (and-parts (starts_with nat_eq (byte ∷ rest) (codes "X-")) _ is).0 in
    ap (λ (b : ℕ). b ∷ rest) (sym (eqb-true 88 byte (and-parts (nat_eq 88 byte) _ front).0))

-- the name and the value of a line
abbrev pub extension_field : List ℕ → Field
extension_field line = record { name = before_first is_field_colon line; value = drop 1 (after_first is_field_colon line) }

pub extension-name : (line : List ℕ) → is_extension_line line ≡ true → is_extension_name (extension_field line).name ≡ true
unfolding is_extension_line
extension-name line is = (and-parts (is_extension_name (before_first is_field_colon line)) _ is).0

-- the text after the colon is a space and the value
space-first : (rest : List ℕ) → is_extension_rest rest ≡ true → rest ≡ 32 ∷ drop 1 rest
space-first [] is = absurd (false≢true is)
space-first (byte ∷ rest) is =
    let front = (and-parts (starts_with nat_eq (byte ∷ rest) (codes " ")) _ is).0 in
    ap (λ (b : ℕ). b ∷ rest) (sym (eqb-true 32 byte (and-parts (nat_eq 32 byte) true front).0))

-- if there is text after a colon, there is a colon
colon-found : (line : List ℕ) (byte : ℕ) (rest : List ℕ) → after_first is_field_colon line ≡ byte ∷ rest → position_or_len is_field_colon line < length line
colon-found line byte rest is = omega (arith, ap length is, length-drop (position_or_len is_field_colon line + 1) line)

-- a line with its first colon
colon-split : (line : List ℕ) → position_or_len is_field_colon line < length line → line ≡ before_first is_field_colon line ++ 58 ∷ after_first is_field_colon line
colon-split line found =
    let byte = eqb-true _ 58 (passes_at_first is_field_colon line 0 found) in
    split_at_first is_field_colon line 0 found ∙ ap (λ (b : ℕ). before_first is_field_colon line ++ b ∷ after_first is_field_colon line) byte

pub extension-laid : (line : List ℕ) → is_extension_line line ≡ true → line ≡ field_line (extension_field line)
unfolding is_extension_line
extension-laid line is =
    let rest = space-first (after_first is_field_colon line) (and-parts (is_extension_name (before_first is_field_colon line)) _ is).1 in
    colon-split line (colon-found line 32 (drop 1 (after_first is_field_colon line)) rest)
    ∙ ap (λ (after : List ℕ). before_first is_field_colon line ++ 58 ∷ after) rest
    ∙ sym (append_assoc (before_first is_field_colon line) (codes ": ") (drop 1 (after_first is_field_colon line)))

-- a line begins with X
pub extension-first : (line : List ℕ) → is_extension_line line ≡ true → line ≡ 88 ∷ (drop 1 (extension_field line).name ++ codes ": " ++ (extension_field line).value)
extension-first line is =
    extension-laid line is ∙ ap (λ (name : List ℕ). name ++ codes ": " ++ (extension_field line).value) (name-first (extension_field line).name (extension-name line is))

pub extension-no_dot : (line : List ℕ) → is_extension_line line ≡ true → begins_with_dot line ≡ false
extension-no_dot line is = ap begins_with_dot (extension-first line is)

pub extension-no_delimiter : (boundary line : List ℕ) → is_extension_line line ≡ true → is_delimiter boundary line ≡ false
extension-no_delimiter boundary line is = ap (is_delimiter boundary) (extension-first line is)

-- the name and the value of a line are printable and short
pub extension-name_plain : (line : List ℕ) → is_extension_line line ≡ true → IsPlain 64 (extension_field line).name
extension-name_plain line is = extension_name-plain (extension_field line).name (extension-name line is)

pub extension-value_plain : (line : List ℕ) → is_extension_line line ≡ true → IsPlain 255 (extension_field line).value
unfolding is_extension_line
extension-value_plain line is =
    let rest = (and-parts (is_extension_name (before_first is_field_colon line)) _ is).1 in
    extension_value-plain (extension_field line).value (and-parts (starts_with nat_eq (after_first is_field_colon line) (codes " ")) _ rest).1

-- ---- the lines of a text, one after another

pub none-delimits : (boundary : List ℕ) (lines : List (List ℕ)) → list_all is_extension_line lines ≡ true → list_any (is_delimiter boundary) lines ≡ false
none-delimits boundary [] pass = refl
none-delimits boundary (line ∷ lines) pass =
    let parts = and-parts (is_extension_line line) (list_all is_extension_line lines) pass in
    rw (extension-no_delimiter boundary line parts.0, none-delimits boundary lines parts.1) refl

pub extensions-laid : (lines : List (List ℕ)) → list_all is_extension_line lines ≡ true → lines ≡ map field_line (map extension_field lines)
extensions-laid [] pass = refl
extensions-laid (line ∷ lines) pass =
    let parts = and-parts (is_extension_line line) (list_all is_extension_line lines) pass in
    ap (λ (first : List ℕ). first ∷ lines) (extension-laid line parts.0) ∙ ap (λ (rest : List (List ℕ)). field_line (extension_field line) ∷ rest) (extensions-laid lines parts.1)

-- no extension field has a name that doesn't begin with X
pub none-of-extensions : (name : List ℕ) → ((rest : List ℕ) → same_text name (88 ∷ rest) ≡ false) → (lines : List (List ℕ)) → list_all is_extension_line lines ≡ true
    → value_of name (map extension_field lines) ≡ None
none-of-extensions name other [] pass = refl
none-of-extensions name other (line ∷ lines) pass =
    let parts = and-parts (is_extension_line line) (list_all is_extension_line lines) pass in
    let differ : same_text name (extension_field line).name ≡ false = ap (same_text name) (name-first (extension_field line).name (extension-name line parts.0)) ∙ other (drop 1 (extension_field line).name) in
    rw (differ, none-of-extensions name other lines parts.1) refl

-- extension fields may follow all known names
pub choice-extensions : (lines : List (List ℕ)) → list_all is_extension_line lines ≡ true → is_choice_of [] (map extension_field lines) ≡ true
choice-extensions [] pass = refl
choice-extensions (line ∷ lines) pass =
    let parts = and-parts (is_extension_line line) (list_all is_extension_line lines) pass in
    rw (extension-name line parts.0, choice-extensions lines parts.1) refl

pub plain-extensions : (lines : List (List ℕ)) → list_all is_extension_line lines ≡ true → has_plain_values (map extension_field lines) ≡ true
plain-extensions [] pass = refl
plain-extensions (line ∷ lines) pass =
    let parts = and-parts (is_extension_line line) (list_all is_extension_line lines) pass in
    rw ((extension-value_plain line parts.0).printable, plain-extensions lines parts.1) refl

-- all of these fields are extension fields
pub all-extensions : (lines : List (List ℕ)) → list_all is_extension_line lines ≡ true → extensions_in (map extension_field lines) ≡ map extension_field lines
all-extensions [] pass = refl
all-extensions (line ∷ lines) pass =
    let parts = and-parts (is_extension_line line) (list_all is_extension_line lines) pass in
    rw (extension-name line parts.0, all-extensions lines parts.1) refl
