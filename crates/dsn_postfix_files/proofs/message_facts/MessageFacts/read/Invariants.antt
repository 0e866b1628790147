-- The facts of the message are those so far with those of the later records.
use Rattle.std.proofs.Common.{◌≤◌, length, List, ℕ}
use Rattle.std.specs.Borrow.{Bor}
use Rattle.std.specs.Option.{option_map}
use Rattle.dsn_postfix_files.specs.inner.QueueReading.{MessageLeft, nothing_said}
use Rattle.dsn_postfix_files.specs.MessageFacts.{SaidOfMessage}
use Rattle.dsn_postfix_files.specs.QueueListing.{QueueEnding}
use Rattle.dsn_postfix_files.specs.QueueWalk.{first_place, steps_left}
use Rattle.dsn_postfix_files.proofs.message_facts.MessageFacts.read.Given as goal

abbrev pub invariant-loop-found : goal.invariant-loop-found
invariant-loop-found l = record {
  within : length l.here ≤ length l.file;
  left : (said : SaidOfMessage) (ending : QueueEnding) → MessageLeft (record { file = l.file; place = first_place l.file }) nothing_said said ending → MessageLeft (record { file = l.file; place = record { rest = l.here; jumps = l.left } }) (record { arrival = l.arrival; sender = option_map (λ (text : Bor (List ℕ)). text.now) l.sender; envelope_id = option_map (λ (text : Bor (List ℕ)). text.now) l.envelope_id; return_flags = l.return_flags; message_id = option_map (λ (text : Bor (List ℕ)). text.now) l.message_id }) said ending;
}

abbrev pub decreases-loop-found : goal.decreases-loop-found
decreases-loop-found l = steps_left (length l.file) (record { rest = l.here; jumps = l.left })
