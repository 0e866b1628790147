use Rattle.std.proofs.Common.{take}
use Rattle.dsn_device.specs.UntilFailure.{WritesUntilFailure}
use Rattle.dsn_listing.specs.ListingLines.{closed_lines}
use Rattle.dsn_listing.proofs.listing_lines.write_closed_lines.Given as goal

abbrev pub invariant-loop-key : goal.invariant-loop-key
invariant-loop-key g l =
    WritesUntilFailure g.N.Drain l.initial.writing.failed l.writing.failed l.initial.lines l.lines (closed_lines (take l.key-index l.keys))
