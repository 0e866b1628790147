-- The bytes after `len` are no `@`.
use Rattle.std.proofs.Common.{◌≡◌, ◌+◌, ◌≤◌, length, take}
use Rattle.std.specs.List.{suffix_len}
use Rattle.dsn_postfix.specs.QuotedAddress.{is_no_at}
use Rattle.dsn_postfix.proofs.quoted_address.domain_place.Given as goal

abbrev pub invariant-loop-len : goal.invariant-loop-len
invariant-loop-len l = (l.len ≤ length l.address) × (l.len + suffix_len is_no_at l.address ≡ length l.address + suffix_len is_no_at (take l.len l.address))

abbrev pub decreases-loop-len : goal.decreases-loop-len
decreases-loop-len l = l.len
