use Rattle.std.proofs.Common.{take}
use Rattle.dsn_device.specs.UntilFailure.{WritesUntilFailure}
use Rattle.dsn_listing.specs.ListingLines.{unmarked_lines}
use Rattle.dsn_listing.proofs.listing_lines.write_unmarked_lines.Given as goal

abbrev pub invariant-loop-letter : goal.invariant-loop-letter
invariant-loop-letter g l =
    WritesUntilFailure g.N.Drain l.initial.writing.failed l.writing.failed l.initial.lines l.lines (unmarked_lines l.settled (take l.letter-index l.letters))
