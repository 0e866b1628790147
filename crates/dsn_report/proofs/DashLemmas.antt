-- A text without a dash has no line that begins with two dashes.
use Rattle.std.proofs.Common.{◌≡◌, ℕ, ◌-◌, zero, suc, cond, Bool, true, false, List, [], ◌∷◌, length, get_or, take, codes, refl, sym, ap, ◌∙◌, if◌then◌else◌}
use Rattle.std.specs.Prelude.{◌==◌}
use Rattle.std.specs.List.{list_any, onto_first, slice_split}
use Rattle.std.specs.Str.Lines.{lines, lines_of_parts, strip_carriage_return}
use Rattle.std.proofs.lemmas.Bool.{false_from_ne_true, false≢true, or_parts, or_from}
use Rattle.std.proofs.lemmas.Bool.Decides.{Decides-eqb}
use Rattle.std.proofs.lemmas.Slice.Eq.{starts_is}
use Rattle.dsn_report.specs.Boundary.{header_lines}
use Rattle.dsn_report.specs.inner.Boundary.{is_dashed}
use Rattle.dsn_report.specs.inner.NoticeLines.{taken_lines}

abbrev has_dash : List ℕ → Bool
has_dash text = list_any (λ byte. byte == 45) text

-- what is true of no element is true of none of the first n
none-taken : {X : Type 0} (test : X → Bool) (n : ℕ) (xs : List X) → list_any test xs ≡ false → list_any test (take n xs) ≡ false
none-taken test zero xs none = refl
none-taken test (suc n) [] none = refl
none-taken test (suc n) (x ∷ xs) none =
    let parts = or_parts (test x) (list_any test xs) none in
    or_from (test x) (list_any test (take n xs)) parts.0 (none-taken test n xs parts.1)

-- a text without a dash doesn't begin with two dashes
not-dashed : (text : List ℕ) → has_dash text ≡ false → is_dashed text ≡ false
not-dashed text none =
    false_from_ne_true _ (λ is. false≢true (sym none ∙ ap has_dash ((starts_is Decides-eqb text (codes "--") true (sym is)).0 refl)))

-- a line without a dash doesn't begin with two dashes after its carriage return is removed
not-dashed-stripped : (line : List ℕ) → has_dash line ≡ false → is_dashed (strip_carriage_return line) ≡ false
not-dashed-stripped line none = here (get_or line (length line - 1) 0 == 13)
  where
    here : (ended : Bool) → is_dashed (if ended then take (length line - 1) line else line) ≡ false
    here true = not-dashed (take (length line - 1) line) (none-taken (λ byte. byte == 45) (length line - 1) line none)
    here false = not-dashed line none

-- another byte than a dash adds no dash to the parts
parts-more : (ends : Bool) (byte : ℕ) (parts : List (List ℕ)) → (byte == 45) ≡ false → list_any has_dash parts ≡ false
    → list_any has_dash (cond ends ([] ∷ parts) (onto_first byte parts)) ≡ false
parts-more true byte parts other none = none
parts-more false byte [] other none = rw other refl
parts-more false byte (part ∷ parts) other none = rw other none

-- the parts of a text without a dash have no dash
parts-plain : (test : ℕ → Bool) (text : List ℕ) → has_dash text ≡ false → list_any has_dash (slice_split test text) ≡ false
parts-plain test [] none = refl
parts-plain test (byte ∷ rest) none =
    let bytes = or_parts (byte == 45) (has_dash rest) none in
    parts-more (test byte) byte (slice_split test rest) bytes.0 (parts-plain test rest bytes.1)

-- no line of parts without dashes begins with two dashes
lines-plain : (parts : List (List ℕ)) → list_any has_dash parts ≡ false → list_any is_dashed (lines_of_parts parts) ≡ false
lines-plain [] none = refl
lines-plain (part ∷ []) none = here (length part == 0)
  where
    here : (empty : Bool) → list_any is_dashed (if empty then [] else part ∷ []) ≡ false
    here true = refl
    here false = or_from (is_dashed part) false (not-dashed part (or_parts (has_dash part) false none).0) refl
lines-plain (part ∷ next ∷ more) none =
    let both = or_parts (has_dash part) (list_any has_dash (next ∷ more)) none in
    or_from (is_dashed (strip_carriage_return part)) (list_any is_dashed (lines_of_parts (next ∷ more)))
    (not-dashed-stripped part both.0) (lines-plain (next ∷ more) both.1)

pub no-dashed_line : (whole : Bool) (text : List ℕ) → list_any (λ byte. byte == 45) text ≡ false → list_any is_dashed (taken_lines whole text) ≡ false
unfolding header_lines
no-dashed_line true text none = lines-plain (slice_split (λ b. b == 10) text) (parts-plain (λ b. b == 10) text none)
no-dashed_line false text none = none-taken is_dashed _ (lines text) (lines-plain (slice_split (λ b. b == 10) text) (parts-plain (λ b. b == 10) text none))
