-- The bytes after `len` are spaces.
use Rattle.std.proofs.Common.{◌≡◌, ◌+◌, ◌≤◌, length, take}
use Rattle.std.specs.List.{suffix_len}
use Rattle.dsn_postfix_files.specs.MessageHeader.{is_blank_byte}
use Rattle.dsn_postfix_files.proofs.message_header.without_trailing_blanks.Given as goal

abbrev pub invariant-loop-len : goal.invariant-loop-len
invariant-loop-len l = (l.len ≤ length l.text) × (l.len + suffix_len is_blank_byte l.text ≡ length l.text + suffix_len is_blank_byte (take l.len l.text))

abbrev pub decreases-loop-len : goal.decreases-loop-len
decreases-loop-len l = l.len
