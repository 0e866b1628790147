-- The lines so far belong to the header.
use Rattle.std.proofs.Common.{◌≡◌, ◌+◌, ◌≤◌, length}
use Rattle.dsn_postfix_files.specs.LogLine.{all_lines}
use Rattle.dsn_postfix_files.specs.MessageHeader.{header_size}
use Rattle.dsn_postfix_files.proofs.message_header.header_of_message.Given as goal

abbrev pub invariant-loop-line : goal.invariant-loop-line
invariant-loop-line l = record {
  size : length l.text + header_size (all_lines l.rest) ≡ header_size (all_lines l.text) + length l.rest;
  within : length l.rest ≤ length l.text;
}

abbrev pub decreases-loop-line : goal.decreases-loop-line
decreases-loop-line l = length l.rest
