-- The kind of a message's bytes, and whether a server takes it (RFC 6152).
use Rattle.std.specs.Prelude.{ℕ, Bool, true, not, List, if◌then◌else◌}
use Rattle.std.specs.Char.{is_ascii}
use Rattle.std.specs.List.{list_all}
use Rattle.dsn_smtp.specs.declared.body.Body.{Body}
use Rattle.dsn_smtp.specs.declared.body.Body.TheVariants.{SevenBit, EightBit}
use Rattle.dsn_smtp.specs.declared.extensions.Extensions.{Extensions}

-- whether a message has a byte above 127
abbrev pub has_eight_bit : List ℕ → Bool
has_eight_bit message = not (list_all is_ascii message)

abbrev pub body_kind : List ℕ → Body
body_kind message = if has_eight_bit message then EightBit else SevenBit

-- whether a server that offers these extensions takes a message of this kind (RFC 6152 section 3 (8))
abbrev pub suffice_for : Extensions → Body → Bool
suffice_for extensions SevenBit = true
suffice_for extensions EightBit = extensions.eight_bit_mime
