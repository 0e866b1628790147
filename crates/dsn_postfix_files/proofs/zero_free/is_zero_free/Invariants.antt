-- The result so far is that for the bytes so far.
use Rattle.std.proofs.Common.{◌≡◌, take}
use Rattle.dsn_postfix_files.specs.ZeroFree.{is_zero_free}
use Rattle.dsn_postfix_files.proofs.zero_free.is_zero_free.Given as goal

abbrev pub invariant-loop-byte : goal.invariant-loop-byte
invariant-loop-byte l = l.all ≡ is_zero_free (take l.byte-index l.bytes)
