-- The count is that of the outcomes so far, and the others are left.
use Rattle.std.proofs.Common.{◌≡◌, ◌+◌, ℕ, length}
use Rattle.dsn_outcome.specs.Outcomes.{outcomes_left}
use Rattle.dsn_listing.specs.ListingLines.{told}
use Rattle.dsn_listing.proofs.listing_texts.count_outcomes.Given as goal

abbrev pub invariant-loop : goal.invariant-loop
invariant-loop l = record {
  done : ℕ;
  split : done + length (outcomes_left l.iterator') ≡ length l.letter.outcomes;
  counted : l.count ≡ told done;
}
