use Rattle.std.proofs.Common.{◌∙◌, ap, subst}
use Rattle.dsn_outcome.specs.declared.letter_cell.LetterCell.{out-LetterCell}
use Rattle.dsn_outcome.proofs.LetterCellLemmas.{All-first, All-next, letter_in-relinked, unlinked}
use Rattle.dsn_outcome.specs.Letter.{IsLetter}
use Rattle.dsn_outcome.proofs.letter_cells.LetterCells.pop_front.Goals as goal

pub invariant_of-self-2 : goal.invariant_of-self-2
invariant_of-self-2 c =
    All-next _ _ c.in_ok-cell.cell c.in_ok-cell.ensures.value
    (c.take-2.ensures.value ∙ ap (λ cell. (out-LetterCell cell).next) c.deref_mut.ensures.value) c.self.invariant

pub invariant_of-result : goal.invariant_of-result
invariant_of-result c = (
  subst IsLetter (letter_in-relinked c.deref_mut.result.now c.in_ok-cell.cell.value c.take-2.new.self c.deref_mut.ensures.value)
      (All-first _ c.in_ok-cell.cell c.in_ok-cell.ensures.value c.self.invariant),
  unlinked c.deref_mut.result.now c.take-2.new.self c.take-2.ensures.after,
)
