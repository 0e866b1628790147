-- The places so far, and those of the entries that are left.
use Rattle.std.proofs.Common.{◌≡◌, ◌++◌, length}
use Rattle.std.specs.List.{flat_map}
use Rattle.dsn_postfix_files.specs.LogFile.{log_entries}
use Rattle.dsn_postfix_notices.specs.requests.RequestLetters.{place_of_entry}
use Rattle.dsn_postfix_notices.proofs.requests.places_done.places_of_entries.Given as goal

abbrev pub invariant-loop-entry : goal.invariant-loop-entry
invariant-loop-entry l = l.places.items ++ flat_map place_of_entry l.reader ≡ flat_map place_of_entry (log_entries l.fn.service l.log)

abbrev pub decreases-loop-entry : goal.decreases-loop-entry
decreases-loop-entry l = length l.reader
