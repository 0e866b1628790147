-- How a notice's words are chosen.
use Rattle.std.specs.Prelude.{ℕ, ◌==◌, Option, Some, None, if◌then◌else◌}
use Rattle.dsn_outcome.specs.declared.wording.Wording.{Wording}
use Rattle.dsn_outcome.specs.declared.wording.Wording.TheVariants.{ByService, ByOutcome}

-- the byte that encodes it in a flush (this project's profile)
abbrev pub wording_byte : Wording → ℕ
wording_byte ByService = 0
wording_byte ByOutcome = 1

-- the meaning of a byte, if it has one
abbrev pub wording_of_byte : ℕ → Option Wording
wording_of_byte byte =
    if byte == 0 then Some ByService else (if byte == 1 then Some ByOutcome else None)
