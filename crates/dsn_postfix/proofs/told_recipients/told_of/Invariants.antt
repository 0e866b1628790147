-- The outcomes that are reported of the records so far, the last first, and all wanted outcomes of these records.
use Rattle.std.proofs.Common.{◌≡◌, ◌≤◌, drop, length, map, reverse}
use Rattle.dsn_postfix_files.specs.LogRecord.{logged_fields_in}
use Rattle.dsn_postfix.specs.NoticePlan.{last_of_each}
use Rattle.dsn_postfix_files.specs.QueueRecipients.{recipient_facts_in}
use Rattle.dsn_postfix.specs.inner.RecipientSet.{HasOutcomes}
use Rattle.dsn_postfix.proofs.ToldLemmas.{wanted_in}
use Rattle.dsn_postfix.proofs.told_recipients.told_of.Given as goal

abbrev pub invariant-loop-left : goal.invariant-loop-left
invariant-loop-left l = record {
  within : l.left ≤ length l.records;
  seen : HasOutcomes l.seen (wanted_in l.fn.service l.request (map recipient_facts_in l.queued) (drop l.left l.records));
  told : reverse (map logged_fields_in l.told.items) ≡ last_of_each (wanted_in l.fn.service l.request (map recipient_facts_in l.queued) (drop l.left l.records));
}

abbrev pub decreases-loop-left : goal.decreases-loop-left
decreases-loop-left l = l.left
