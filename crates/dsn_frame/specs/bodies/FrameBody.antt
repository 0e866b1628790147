-- The bodies that frames carry, and the frame of each (this project's profile).
use Rattle.std.specs.Prelude.{ℕ, ◌≤◌, List, ◌++◌, length}
use Rattle.std.specs.Int.{w32, to_be_bytes}

-- the longest body of a frame, in bytes (this project's profile)
abbrev pub longest_body : ℕ
longest_body = 65536

-- the length of a frame's body, in bytes
abbrev pub IsFrameLength : ℕ → Type 0
IsFrameLength size = (1 ≤ size) × (size ≤ longest_body)

abbrev pub IsFrameBody : List ℕ → Type 0
IsFrameBody body = IsFrameLength (length body)

-- a frame: its body's length in four bytes, highest byte first, and then the body
abbrev pub frame : List ℕ → List ℕ
frame body = to_be_bytes w32 (length body) ++ body
