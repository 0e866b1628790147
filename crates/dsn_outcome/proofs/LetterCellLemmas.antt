-- Cells: the letters along their links, one step at a time.
use Rattle.std.proofs.Common.{◌≡◌, ℕ, suc, ◌==◌, Bool, true, false, not, ◌∷◌, length, refl, ap, sym, ◌∙◌, arith}
use Rattle.std.specs.Prelude.{Option, Some, None, Box, is_none, is_some, All}
use Rattle.std.specs.declared.alloc.Global.{Global}
use Rattle.std.proofs.lemmas.List.Elements.{All-tail}
use Rattle.dsn_outcome.specs.inner.LetterCell.{letter_in, letters_from, letters_along, letters_linked, IsUnlinked}
use Rattle.dsn_outcome.specs.Letter.{IsLetter}
use Rattle.dsn_outcome.specs.declared.letter_cell.LetterCell.{LetterCell, LetterCell', None', Some', out-LetterCell}
use Rattle.dsn_outcome.specs.declared.letter_cell.LetterCell.TheViews.{roll-LetterCell}

-- the letters from a cell on are its own and those along its link
pub letters_from-cell : (cell : LetterCell) → letters_from cell ≡ letter_in cell ∷ letters_linked (out-LetterCell cell).next
unfolding out-LetterCell denote.Hole.Carrier.out
letters_from-cell (LetterCell' terms sealed None') = refl
letters_from-cell (LetterCell' terms sealed (Some' place next)) = refl

-- the letters after the first cell are legal if all letters are
pub All-next : (first next : Option (Box LetterCell Global)) (cell : Box LetterCell Global) → Some cell ≡ first → next ≡ (out-LetterCell cell.value).next → All IsLetter (letters_linked first) → All IsLetter (letters_linked next)
All-next first next cell is link all =
    let linked : letters_linked first ≡ letter_in cell.value ∷ letters_linked (out-LetterCell cell.value).next = ap letters_linked (sym is) ∙ letters_from-cell cell.value in
    rw link (All-tail IsLetter (letter_in cell.value) (letters_linked (out-LetterCell cell.value).next) (rw linked at all))

-- the first cell's letter is legal if all letters are
pub All-first : (first : Option (Box LetterCell Global)) (cell : Box LetterCell Global) → Some cell ≡ first → All IsLetter (letters_linked first) → IsLetter (letter_in cell.value)
All-first first cell is all =
    let linked : letters_linked first ≡ letter_in cell.value ∷ letters_linked (out-LetterCell cell.value).next = ap letters_linked (sym is) ∙ letters_from-cell cell.value in
    (rw linked at all) 0 (letter_in cell.value) (omega arith)

-- another link doesn't change a cell's letter
pub letter_in-relinked : (cell same : LetterCell) (next : Option (Box LetterCell Global)) → cell ≡ same
    → letter_in same ≡ letter_in (roll-LetterCell (record { terms = (out-LetterCell cell).terms; sealed = (out-LetterCell cell).sealed; next = next }))
unfolding out-LetterCell roll-LetterCell denote.Hole.Carrier.out denote.Hole.Carrier.roll
letter_in-relinked (LetterCell' terms sealed link) same None is = ap letter_in (sym is)
letter_in-relinked (LetterCell' terms sealed link) same (Some next) is = ap letter_in (sym is)

-- a cell without a link has nothing linked after it
pub unlinked : (cell : LetterCell) (next : Option (Box LetterCell Global)) → next ≡ None
    → IsUnlinked (roll-LetterCell (record { terms = (out-LetterCell cell).terms; sealed = (out-LetterCell cell).sealed; next = next }))
unfolding out-LetterCell roll-LetterCell denote.Hole.Carrier.out denote.Hole.Carrier.roll
unlinked (LetterCell' terms sealed link) None none = refl
unlinked (LetterCell' terms sealed link) (Some next) none = cc

suc-not-zero : (n : ℕ) → false ≡ (suc n == 0)
suc-not-zero n = grind arith

length-linked : (cell : LetterCell) → false ≡ (length (letters_from cell) == 0)
length-linked (LetterCell' terms sealed next) = suc-not-zero (length (letters_along next))

-- there are no letters if and only if there is no link
pub is_none-letters_linked : (link : Option (Box LetterCell Global)) → is_none link ≡ (length (letters_linked link) == 0)
is_none-letters_linked None = refl
is_none-letters_linked (Some first) = length-linked first.value

-- the negation of `is_some` is `is_none`
pub is_none-answer : {A : Type 0} (option : Option A) (answer : Bool) → is_some option ≡ not answer → answer ≡ is_none option
is_none-answer None true e = refl
is_none-answer None false e = cc
is_none-answer (Some x) true e = cc
is_none-answer (Some x) false e = refl
