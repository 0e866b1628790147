-- The text is the one so far with that of the later records, and the one so far is within the limit.
use Rattle.std.proofs.Common.{◌≤◌, length, List, ℕ, [], false}
use Rattle.dsn_postfix_files.specs.inner.QueueReading.{TextLeft}
use Rattle.dsn_postfix_files.specs.QueueListing.{QueueEnding}
use Rattle.dsn_postfix_files.specs.QueueWalk.{first_place, steps_left}
use Rattle.dsn_postfix_files.proofs.message_text.text_of_message.Given as goal

abbrev pub invariant-loop-found : goal.invariant-loop-found
invariant-loop-found l = record {
  within : length l.here ≤ length l.file;
  fits : length l.text.items ≤ l.limit;
  left : (text : List ℕ) (ending : QueueEnding) → TextLeft (record { file = l.file; place = first_place l.file }) [] false text ending → TextLeft (record { file = l.file; place = record { rest = l.here; jumps = l.left } }) l.text.items l.within text ending;
}

abbrev pub decreases-loop-found : goal.decreases-loop-found
decreases-loop-found l = steps_left (length l.file) (record { rest = l.here; jumps = l.left })
