-- A block is the text of several lines, passed in pieces that may contain several lines: it is composed of its lines,
-- and each line of its parts.
use Rattle.std.proofs.Common.{◌≡◌, ℕ, Bool, true, false, not, List, [], ◌∷◌, ◌++◌, codes, refl, sym, ap, ◌∙◌, ◌-◌, take, length, arith, length-append, append_assoc}
use Rattle.std.proofs.Math.Seq.{take-append_seam}
use Rattle.std.specs.Prelude.{◌==◌}
use Rattle.std.proofs.lemmas.Bool.{or_from}
use Rattle.std.specs.List.{list_any}
use Rattle.dsn_text.specs.declared.service.Service.{Service}
use Rattle.dsn_text.specs.declared.service.Service.TheVariants.{Bounce, Defer, Trace}
use Rattle.dsn_outcome.specs.declared.wording.Wording.{Wording}
use Rattle.dsn_outcome.specs.declared.wording.Wording.TheVariants.{ByService, ByOutcome}
use Rattle.dsn_report.specs.inner.LineWriter.{IsBlock, begins_plainly}
use Rattle.dsn_report.specs.Lines.{begins_with_dot, text_of_lines}
use Rattle.dsn_report.specs.Notice.{words_by}

-- a line of these parts, appended as definitions do it
abbrev pub joined : List ℕ → List (List ℕ) → List ℕ
joined first [] = first
joined first (part ∷ parts) = joined (first ++ part) parts

-- the parts before a rest, appended as pieces are
abbrev pub one_by_one : List (List ℕ) → List ℕ → List ℕ
one_by_one [] rest = rest
one_by_one (part ∷ parts) rest = part ++ one_by_one parts rest

joined-one_by_one : (first : List ℕ) (parts : List (List ℕ)) (rest : List ℕ) → first ++ one_by_one parts rest ≡ joined first parts ++ rest
joined-one_by_one first [] rest = refl
joined-one_by_one first (part ∷ parts) rest =
    sym (append_assoc first part (one_by_one parts rest)) ∙ joined-one_by_one (first ++ part) parts rest

-- an empty block
pub block-none : IsBlock [] []
unfolding text_of_lines
block-none = record { text_is = refl; no_dot = refl }

-- a block with a line of these parts in front
pub block-line : {lines : List (List ℕ)} {text : List ℕ} (first : List ℕ) (parts : List (List ℕ)) → begins_with_dot (joined first parts) ≡ false
    → IsBlock lines text → IsBlock (joined first parts ∷ lines) (first ++ one_by_one parts (13 ∷ 10 ∷ text))
unfolding text_of_lines
block-line {lines} {text} first parts plain block = record {
  text_is = joined-one_by_one first parts (13 ∷ 10 ∷ text) ∙ ap (λ rest. joined first parts ++ (13 ∷ 10 ∷ rest)) block.text_is;
  no_dot = or_from (begins_with_dot (joined first parts)) (list_any begins_with_dot lines) plain block.no_dot;
}

-- a block with an empty line in front
pub block-empty : {lines : List (List ℕ)} {text : List ℕ} → IsBlock lines text → IsBlock ([] ∷ lines) (13 ∷ 10 ∷ text)
block-empty block = block-line [] [] refl block

-- no opening begins with a dot
pub opening-plain : (wording : Wording) (service : Service) (arrived : Bool) → begins_with_dot (words_by wording service arrived).opening ≡ false
opening-plain ByService Bounce arrived = refl
opening-plain ByService Defer arrived = refl
opening-plain ByService Trace arrived = refl
opening-plain ByOutcome Bounce arrived = refl
opening-plain ByOutcome Defer arrived = refl
opening-plain ByOutcome Trace true = refl
opening-plain ByOutcome Trace false = refl

-- no consequence begins with a dot
pub consequence-plain : (wording : Wording) (service : Service) (arrived : Bool) → begins_with_dot (words_by wording service arrived).consequence ≡ false
consequence-plain ByService Bounce arrived = refl
consequence-plain ByService Defer arrived = refl
consequence-plain ByService Trace arrived = refl
consequence-plain ByOutcome Bounce arrived = refl
consequence-plain ByOutcome Defer arrived = refl
consequence-plain ByOutcome Trace true = refl
consequence-plain ByOutcome Trace false = refl

-- a line that begins with a plain name doesn't begin with a dot
pub plain-line : (name value : List ℕ) → begins_plainly name ≡ true → begins_with_dot (name ++ value) ≡ false
plain-line [] value plain = cc
plain-line (byte ∷ rest) value plain = here (byte == 46) plain
  where
    here : (dot : Bool) → not dot ≡ true → dot ≡ false
    here true e = cc
    here false e = refl

-- the line of a recipient and its action, appended as pieces are and as definitions do it
pub told-alone : (recipient action status : List ℕ)
    → (codes "<" ++ recipient ++ codes ">: " ++ action ++ codes " (" ++ status ++ codes ")") ∷ []
    ≡ ((codes "<" ++ recipient ++ codes ">") ++ codes ": " ++ action ++ codes " (" ++ status ++ codes ")") ∷ []
told-alone recipient action status =
    ap (λ front. (front ++ action ++ codes " (" ++ status ++ codes ")") ∷ []) (sym (append_assoc (codes "<" ++ recipient) (codes ">") (codes ": ")))

pub told-expanded : (recipient origin action status : List ℕ)
    → (codes "<" ++ recipient ++ codes "> (expanded from <" ++ origin ++ codes ">): " ++ action ++ codes " (" ++ status ++ codes ")") ∷ []
    ≡ ((codes "<" ++ recipient ++ codes "> (expanded from <" ++ origin ++ codes ">)") ++ codes ": " ++ action ++ codes " (" ++ status ++ codes ")") ∷ []
told-expanded recipient origin action status =
    ap (λ front. (front ++ action ++ codes " (" ++ status ++ codes ")") ∷ [])
    (sym (append_assoc (codes "<" ++ recipient ++ codes "> (expanded from <" ++ origin) (codes ">)") (codes ": ")))

-- a boundary without its number is its front
pub boundary-front : (front number : List ℕ) → length number ≡ 4 → take (length (front ++ number) - 4) (front ++ number) ≡ front
boundary-front front number four =
    let len : length (front ++ number) - 4 ≡ length front = omega (arith, length-append front number) in
    rw len (take-append_seam front number)

-- the parts of a notice between its header and its last delimiter, with an empty line before each part
pub parts-after : (header first second third last : List (List ℕ))
    → header ++ (([] ∷ first) ++ (([] ∷ second) ++ (([] ∷ third) ++ last)))
    ≡ header ++ [] ∷ [] ++ (first ++ [] ∷ []) ++ (second ++ [] ∷ []) ++ third ++ last
parts-after header first second third last = simp append_assoc refl

-- a line of a name and a value in three pieces
pub line-of-three : (name a b c value : List ℕ) → a ++ b ++ c ≡ value → name ++ a ++ b ++ c ≡ name ++ value
line-of-three name a b c value is =
    ap (λ front. front ++ c) (append_assoc name a b) ∙ append_assoc name (a ++ b) c ∙ ap (λ text. name ++ text) is
