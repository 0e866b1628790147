-- The pieces of the text of some lines are the lines.
use Rattle.std.proofs.Common.{◌≡◌, ℕ, Bool, true, false, ◌&&◌, inl, inr, List, [], ◌∷◌, ◌++◌, map, refl, ap, subst, sym, ◌∙◌, if◌then◌else◌}
use Rattle.std.specs.Prelude.{◌==◌}
use Rattle.std.specs.List.{list_all, onto_first}
use Rattle.std.proofs.lemmas.Bool.{false≢true}
use Rattle.std.proofs.lemmas.Bool.Decides.{eqb_tells}
use Rattle.dsn_report.proofs.PlainLemmas.{and-parts}
use Rattle.dsn_report.specs.LegalLines.{is_eight_bit_byte, is_eight_bit_line}
use Rattle.dsn_report.specs.Lines.{begins_with_line_feed, pieces_more, pieces_of_text, text_of_lines, text_of_pieces, without_first_byte}

-- a text has at least one piece
pieces-some : (text : List ℕ) → pieces_of_text text ≡ [] → ⊥
unfolding pieces_of_text pieces_more
pieces-some [] none = cc
pieces-some (byte ∷ rest) none = here ((byte == 13) && begins_with_line_feed rest) (pieces_of_text rest) none
  where
    here : (test : Bool) (pieces : List (List ℕ)) → (if test then [] ∷ without_first_byte pieces else onto_first byte pieces) ≡ [] → ⊥
    here true pieces e = cc
    here false [] e = cc
    here false (piece ∷ pieces) e = cc

first-back : (byte : ℕ) (pieces : List (List ℕ)) → (pieces ≡ [] → ⊥) → without_first_byte (onto_first byte pieces) ≡ pieces
first-back byte [] some = absurd (some refl)
first-back byte (piece ∷ pieces) some = refl

-- a CRLF ends a piece
pieces-end : (rest : List ℕ) → pieces_of_text (13 ∷ 10 ∷ rest) ≡ [] ∷ pieces_of_text rest
unfolding pieces_of_text pieces_more
pieces-end rest = ap (λ pieces. [] ∷ pieces) (first-back 10 (pieces_of_text rest) (pieces-some rest))

-- a byte that a test lets through is not a CR, which it refuses
not-return : (legal : ℕ → Bool) → legal 13 ≡ false → (byte : ℕ) → legal byte ≡ true → (byte == 13) ≡ false
not-return legal refused byte is = elim (eqb_tells byte 13) [
  | inl same ↦ absurd (false≢true (sym refused ∙ subst (λ b. legal b ≡ true) same.1 is))
  | inr other ↦ other.0
]

-- a line of such bytes, and the CRLF after it, are a piece
pub pieces-line : (legal : ℕ → Bool) → legal 13 ≡ false → (line rest : List ℕ) → list_all legal line ≡ true → pieces_of_text (line ++ (13 ∷ 10 ∷ rest)) ≡ line ∷ pieces_of_text rest
unfolding pieces_of_text pieces_more
pieces-line legal refused [] rest all = pieces-end rest
pieces-line legal refused (byte ∷ line) rest all =
    let parts = and-parts (legal byte) (list_all legal line) all in
    rw (not-return legal refused byte parts.0, pieces-line legal refused line rest parts.1) refl

-- whether lines have only bytes that a line may hold
abbrev pub has_line_bytes : List (List ℕ) → Bool
has_line_bytes lines = list_all (list_all is_eight_bit_byte) lines

pub pieces-lines : (lines : List (List ℕ)) → has_line_bytes lines ≡ true → pieces_of_text (text_of_lines lines) ≡ lines ++ [] ∷ []
unfolding pieces_of_text text_of_lines
pieces-lines [] legal = refl
pieces-lines (line ∷ lines) legal =
    let parts = and-parts (list_all is_eight_bit_byte line) (has_line_bytes lines) legal in
    pieces-line is_eight_bit_byte refl line (text_of_lines lines) parts.0 ∙ ap (λ pieces. line ∷ pieces) (pieces-lines lines parts.1)

-- lines that can be in a mail have only such bytes
pub has_line_bytes-legal : (lines : List (List ℕ)) → list_all is_eight_bit_line lines ≡ true → has_line_bytes lines ≡ true
has_line_bytes-legal [] legal = refl
has_line_bytes-legal (line ∷ lines) legal =
    let parts = and-parts (is_eight_bit_line line) (list_all is_eight_bit_line lines) legal in
    rw ((and-parts _ (list_all is_eight_bit_byte line) parts.0).1, has_line_bytes-legal lines parts.1) refl

-- the text of pieces, of which the last is empty, is that of lines
text_of_pieces-ended : (lines : List (List ℕ)) → text_of_pieces (lines ++ [] ∷ []) ≡ text_of_lines lines
unfolding text_of_pieces text_of_lines
text_of_pieces-ended [] = refl
text_of_pieces-ended (line ∷ []) = refl
text_of_pieces-ended (line ∷ next ∷ lines) = ap (λ text. line ++ (13 ∷ 10 ∷ text)) (text_of_pieces-ended (next ∷ lines))

pub map-text_of_pieces : (parts : List (List (List ℕ))) → map text_of_pieces (map (λ part. part ++ [] ∷ []) parts) ≡ map text_of_lines parts
map-text_of_pieces [] = refl
map-text_of_pieces (part ∷ parts) = rw (text_of_pieces-ended part, map-text_of_pieces parts) refl
