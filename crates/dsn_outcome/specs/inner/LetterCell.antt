-- Cells: the letters that the memory of drafts, letters and queued letters represents.
use Rattle.std.specs.Prelude.{◌≡◌, List, [], ◌∷◌, Option, Some, None, Box}
use Rattle.std.specs.declared.alloc.Global.{Global}
use Rattle.dsn_outcome.specs.Draft.{Draft}
use Rattle.dsn_outcome.specs.Letter.{Letter}
use Rattle.dsn_outcome.specs.declared.letter_cell.LetterCell.{LetterCell, LetterCell', Held-LetterCell-next, None', Some'}
use Rattle.dsn_outcome.specs.declared.letter_cell.Sealed.{Sealed}
use Rattle.dsn_text.specs.declared.service.Service.TheVariants.{Bounce}

-- the letter with these terms; without a sealed log it has no outcomes
abbrev pub letter_from : Draft → Option Sealed → Letter
letter_from terms
    None = record {
      key = record { service = Bounce; id = [] };
      draft = terms;
      outcomes = [];
      serial = 0;
    }
letter_from terms
    (Some sealed) = record {
      key = sealed.key;
      draft = terms;
      outcomes = sealed.outcomes;
      serial = sealed.serial;
    }

-- the letter in a cell
abbrev pub letter_in : LetterCell → Letter
letter_in (LetterCell' terms sealed next) = letter_from terms sealed

abbrev mutual
  -- the letters from a cell on, along the links
  pub letters_from : LetterCell → List Letter
  letters_from (LetterCell' terms sealed next) = letter_from terms sealed ∷ letters_along next

  -- the letters along a link
  pub letters_along : Held-LetterCell-next → List Letter
  letters_along None' = []
  letters_along (Some' place cell) = letters_from cell

-- the letters that are linked after a cell
abbrev pub letters_behind : LetterCell → List Letter
letters_behind (LetterCell' terms sealed next) = letters_along next

-- nothing is linked after a cell
abbrev pub IsUnlinked : LetterCell → Type 0
IsUnlinked cell = letters_behind cell ≡ []

-- the letters from a link on
abbrev pub letters_linked : Option (Box LetterCell Global) → List Letter
letters_linked None = []
letters_linked (Some first) = letters_from first.value
