-- What a flush's header field holds, which is what its notice returns (RFC 3461 section 4.3).
use Rattle.std.specs.Prelude.{ℕ, ◌==◌, Option, Some, None, if◌then◌else◌}
use Rattle.dsn_outcome.specs.declared.returned.Returned.{Returned}
use Rattle.dsn_outcome.specs.declared.returned.Returned.TheVariants.{Header, Message, EightBitMessage}

-- the byte that encodes it in a flush (this project's profile)
abbrev pub returned_byte : Returned → ℕ
returned_byte Header = 0
returned_byte Message = 1
returned_byte EightBitMessage = 2

-- the meaning of a byte, if it has one
abbrev pub returned_of_byte : ℕ → Option Returned
returned_of_byte byte =
    if byte == 0 then Some Header
    else (if byte == 1 then Some Message else (if byte == 2 then Some EightBitMessage else None))
