-- Laws of all bodies: each is one request or is refused.
use Rattle.std.specs.Prelude.{◌≡◌, ℕ, ◌<◌, List, None, slice_index}
use Rattle.dsn_outcome.specs.Request.{Body}
use Rattle.dsn_frame.specs.bodies.Request.{Encodes, first_body_fault}

-- each number is a byte
abbrev pub IsBytes : List ℕ → Type 0
IsBytes bytes = (i : ℕ) → slice_index bytes i < 256

-- bytes that are not refused are a request
abbrev pub IsSomeRequest : List ℕ → Type 0
IsSomeRequest bytes =
    first_body_fault bytes ≡ None → (number : ℕ) × (body : Body) × Encodes bytes number body

-- bytes that are a request are not refused
abbrev pub IsNotRefused : List ℕ → Type 0
IsNotRefused bytes =
    (number : ℕ) (body : Body) → Encodes bytes number body → first_body_fault bytes ≡ None

-- bytes encode one request at most
abbrev pub IsOneRequest : List ℕ → Type 0
IsOneRequest bytes =
    (number other_number : ℕ) (body other_body : Body) → Encodes bytes number body
    → Encodes bytes other_number other_body
    → (number ≡ other_number) × (body ≡ other_body)
