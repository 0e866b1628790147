-- The list of open logs, if a book could make it.
use Rattle.std.proofs.Common.{◌≡◌, List, refl, Result, Ok, Err}
use Rattle.std.specs.Prelude.{is_none, is_ok, not, IfOk, IsPermutation}
use Rattle.std.specs.List.Sorted.{IsSortedByKey}
use Rattle.std.specs.Option.{option_map}
use Rattle.std.specs.Result.{result_ok}
use Rattle.dsn_book.specs.OpenLine.{open_lines_after}
use Rattle.dsn_book.specs.declared.open_line.OpenLine.{OpenLine}
use Rattle.dsn_outcome.specs.History.{Exchange}
use Rattle.dsn_text.specs.Key.{key_cmp}
use Rattle.dsn_notes.specs.OpenLogs.{AreOpenLines}

-- the list is there exactly if the call succeeded
pub is_none-listed : {A B E : Type 0} (result : Result A E) (f : A → B) → is_none (option_map f (result_ok result)) ≡ not (is_ok result)
is_none-listed (Ok value) f = refl
is_none-listed (Err fault) f = refl

-- the open lines of a history, if their list was made
pub AreOpenLines-listed : {A E : Type 0} (history : List Exchange) (result : Result A E) (items : A → List OpenLine)
    → IfOk result (λ lines. IsPermutation (open_lines_after history) (items lines))
    → IfOk result (λ lines. IsSortedByKey (λ (line : OpenLine). line.key) key_cmp (items lines))
    → AreOpenLines history (option_map items (result_ok result))
AreOpenLines-listed history (Ok lines) items all order = (all, order)
AreOpenLines-listed history (Err fault) items all order = tt
