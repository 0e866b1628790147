use Rattle.std.proofs.Common.{sym}
use Rattle.dsn_device.proofs.UntilFailureLemmas.{writes-none, writes-then}
use Rattle.dsn_device.proofs.FlatMapLemmas.{flat_map-take-more}
use Rattle.dsn_listing.specs.ListingLines.{unmarked_line, unmarked_lines}
use Rattle.dsn_listing.proofs.listing_lines.write_unmarked_lines.Goals as goal

pub loop-letter-init : goal.loop-letter-init
unfolding unmarked_lines
loop-letter-init g c = writes-none _ _

pub loop-letter-preserved : goal.loop-letter-preserved
unfolding unmarked_lines
loop-letter-preserved g c =
    rw (sym (flat_map-take-more (unmarked_line c.args.settled.now) c.args.letters.now c.loop-letter.letter-index c.letter-item.result c.loop-letter-test.true), ← c.letter-item.is)
    (writes-then c.loop-letter.invariant c.write_unmarked_line.ensures)
