-- The result so far is that for the bytes so far.
use Rattle.std.proofs.Common.{◌≡◌, take}
use Rattle.std.specs.List.{list_all}
use Rattle.dsn_text.specs.inner.Kept.{allows}
use Rattle.dsn_text.proofs.text.Alphabet.allows_all.Given as goal

abbrev pub invariant-loop-byte : goal.invariant-loop-byte
invariant-loop-byte l = l.all ≡ list_all (allows l.self) (take l.byte-index l.text)
