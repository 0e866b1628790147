-- Worked examples of where a list ends, and of bytes in which no list ends.
use Rattle.std.proofs.Common.{◌≡◌, ℕ, List, [], ◌∷◌, ◌++◌, refl}
use Rattle.std.specs.Prelude.{codes}
use Rattle.dsn_postfix.specs.ListBuffer.{HasNoList}
use Rattle.dsn_postfix.specs.inner.ListState.{step_over}
use Rattle.dsn_postfix.specs.declared.list_state.ListState.TheVariants.{Front, Name, Value}
use Rattle.dsn_postfix.specs.declared.list_state.ListStep.TheVariants.{Ended, Within}

-- the list that answers a request that was carried out: `status`, `0`
abbrev answer : List ℕ
answer = codes "status" ++ 0 ∷ codes "0" ++ 0 ∷ 0 ∷ []

whole : step_over Front answer ≡ Ended 10
whole = refl

-- an empty value doesn't end a list
empty_value : step_over Front (codes "sender" ++ 0 ∷ 0 ∷ 0 ∷ []) ≡ Ended 9
empty_value = refl

-- the list without attributes
nothing_said : step_over Front (0 ∷ []) ≡ Ended 1
nothing_said = refl

-- bytes behind the list, as another list
and_more : step_over Front (answer ++ answer) ≡ Ended 10
and_more = refl

-- a piece that goes on within a value, and one that ends the list
within_value : step_over Front (codes "status" ++ 0 ∷ codes "42") ≡ Within Value
within_value = refl

on_from_value : step_over Value (codes "94967295" ++ 0 ∷ 0 ∷ []) ≡ Ended 10
on_from_value = refl

-- cut short within a name, and before the last byte
within_name : step_over Front (codes "sta") ≡ Within Name
within_name = refl

one_byte_short : step_over Front (codes "status" ++ 0 ∷ codes "0" ++ 0 ∷ []) ≡ Within Front
one_byte_short = refl

no_end : HasNoList (codes "status" ++ 0 ∷ codes "0" ++ 0 ∷ [])
no_end = refl
