-- The bytes so far are cleaned, and the rest are unchanged.
use Rattle.std.proofs.Common.{◌≡◌, ◌++◌, take, drop}
use Rattle.dsn_text.specs.Text.{clean_text}
use Rattle.dsn_text.proofs.clean.replace_unprintable.Given as goal

abbrev pub invariant-loop-byte : goal.invariant-loop-byte
invariant-loop-byte l = l.text ≡ clean_text (take l.byte-index l.fn.text) ++ drop l.byte-index l.fn.text
