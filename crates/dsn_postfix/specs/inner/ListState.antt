-- The state of reading within a list of attributes, and the result of a piece.
use Rattle.std.specs.Prelude.{ℕ, List, take, Option, Some, None, ◌≤◌, length, ◌≡◌, ◌<◌, [], ◌+◌, drop, zero, suc, ◌∷◌}
use Rattle.std.specs.Io.KnownBytes.{Consumes}
use Rattle.dsn_postfix.specs.ListBuffer.{IsList, EndsInput}
use Rattle.dsn_postfix.specs.declared.list_fault.ListFault.TheVariants.{NoMemory, Nothing, CutShort, TooLong, Trailing, Read}
use Rattle.dsn_postfix.specs.declared.list_fault.ListFault.{ListFault}
use Rattle.dsn_postfix.specs.declared.list_state.ListState.TheVariants.{Front, Name, Value}
use Rattle.dsn_postfix.specs.declared.list_state.ListState.{ListState}
use Rattle.dsn_postfix.specs.declared.list_state.ListStep.TheVariants.{Ended, Within}
use Rattle.dsn_postfix.specs.declared.list_state.ListStep.{ListStep}

-- the list at the front of these bytes, if there is one of this size
abbrev pub list_at_front : List ℕ → Option ℕ → Option (List ℕ)
list_at_front bytes None = None
list_at_front bytes (Some size) = Some (take size bytes)

-- the front of these bytes of this size, if there is one, is a list
abbrev pub IsListAtFront : List ℕ → Option ℕ → Type 0
IsListAtFront bytes None = Unit {0}
IsListAtFront bytes (Some size) = (size ≤ length bytes) × IsList (take size bytes)

-- no piece could be read after `size` bytes
abbrev pub StopsAtPiece : ListFault → ℕ → ℕ → Type 0
StopsAtPiece NoMemory size room = size ≡ room
StopsAtPiece Nothing size room = size ≡ 0
StopsAtPiece CutShort size room = 0 < size
StopsAtPiece TooLong size room = ⊥
StopsAtPiece Trailing size room = ⊥
StopsAtPiece Read size room = Unit {0}

pub record ReadsNoPiece (old new : Option (List ℕ)) (size room : ℕ) (fault : ListFault) : Type 0 where
  pub consumed : Consumes old new []
  pub stops : StopsAtPiece fault size room
  pub ends : EndsInput fault new

-- a piece of `count` bytes was read, behind `size` bytes at the front of a buffer
pub record ReadsPiece (old new : Option (List ℕ)) (size : ℕ) (bytes : List ℕ) (count : ℕ) : Type 0 where
  pub some : 0 < count
  pub fits : size + count ≤ length bytes
  pub consumed : Consumes old new (take count (drop size bytes))

-- the state after a byte, or `None` if the byte ends the list: a zero at the place of a name
abbrev pub state_after : ListState → ℕ → Option ListState
state_after Front zero = None
state_after Front (suc byte) = Some Name
state_after Name zero = Some Value
state_after Name (suc byte) = Some Name
state_after Value zero = Some Front
state_after Value (suc byte) = Some Value

-- the result of bytes, counted with the `before` bytes in front of them
abbrev pub further : ℕ → ListStep → ListStep
further before (Ended size) = Ended (before + size)
further before (Within place) = Within place

-- the result of bytes from a place: they end the list, at this size, or leave reading at a place
abbrev pub step_over : ListState → List ℕ → ListStep
step_over place [] = Within place
step_over Front (zero ∷ rest) = Ended 1
step_over Front (suc byte ∷ rest) = further 1 (step_over Name rest)
step_over Name (zero ∷ rest) = further 1 (step_over Value rest)
step_over Name (suc byte ∷ rest) = further 1 (step_over Name rest)
step_over Value (zero ∷ rest) = further 1 (step_over Front rest)
step_over Value (suc byte ∷ rest) = further 1 (step_over Value rest)

-- a list that ends in some bytes ends within them
abbrev pub IsStepWithin : ListStep → List ℕ → Type 0
IsStepWithin (Ended size) bytes = size ≤ length bytes
IsStepWithin (Within place) bytes = Unit {0}
