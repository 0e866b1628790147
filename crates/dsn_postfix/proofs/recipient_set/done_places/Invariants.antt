-- The places so far, and those of the recipients that are left.
use Rattle.std.proofs.Common.{◌≡◌, ℕ, length, map}
use Rattle.std.specs.Prelude.{◌||◌}
use Rattle.std.specs.BTreeSet as sorted
use Rattle.std.specs.Ordering.{nat_cmp}
use Rattle.dsn_postfix.specs.NoticePlan.{is_done_in}
use Rattle.dsn_postfix_files.specs.QueueRecipients.{recipient_facts_in}
use Rattle.dsn_postfix.proofs.recipient_set.done_places.Given as goal

abbrev pub invariant-loop-rest : goal.invariant-loop-rest
invariant-loop-rest l = (place : ℕ) → (sorted.contains nat_cmp l.done place || is_done_in (map recipient_facts_in l.rest) place) ≡ is_done_in (map recipient_facts_in l.queued) place

abbrev pub decreases-loop-rest : goal.decreases-loop-rest
decreases-loop-rest l = length l.rest
