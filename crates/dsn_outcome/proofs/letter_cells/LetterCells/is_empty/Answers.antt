use Rattle.std.proofs.Common.{◌∙◌, ap, ◌==◌, List, length}
use Rattle.dsn_outcome.specs.Letter.{Letter}
use Rattle.dsn_outcome.proofs.LetterCellLemmas.{is_none-letters_linked, is_none-answer}
use Rattle.dsn_outcome.proofs.letter_cells.LetterCells.is_empty.Goals as goal

pub returns : goal.returns
returns c =
    is_none-answer _ _ c.is_none.ensures ∙ is_none-letters_linked _ ∙ ap (λ (letters : List Letter). length letters == 0) c.self.view_is
