use Rattle.std.proofs.Common.{ap}
use Rattle.dsn_device.proofs.UntilFailureLemmas.{writes-as, writes-then, written-flushed}
use Rattle.dsn_listing.specs.ListingLines.{listing_lines, unmarked_lines}
use Rattle.dsn_listing.proofs.ListingLemmas.{lost-is, taken-is}
use Rattle.dsn_listing.proofs.listing_lines.write_listing.Goals as goal

pub returns-then-writing-clause-written : goal.returns-then-writing-clause-written
unfolding listing_lines
returns-then-writing-clause-written g c =
    lost-is g.N.Drain _ _ _ _ _ c.new-writing.ensures c.if-writing.true
    (written-flushed
    (writes-then c.write_open_lines.ensures (writes-then c.write_closed_lines.ensures (writes-then (writes-as (ap (unmarked_lines c.args.settled.now) c.as_slice.ensures.value) c.write_unmarked_lines.ensures) (rw c.mark.ensures.mark at c.write_counts.ensures))))
    c.flush.ensures)

pub returns-clause-written : goal.returns-clause-written
unfolding listing_lines
returns-clause-written g c =
    taken-is g.N.Drain _ _ _ _ _ c.new-writing.ensures c.if-writing.false
    (written-flushed
    (writes-then c.write_open_lines.ensures (writes-then c.write_closed_lines.ensures (writes-then (writes-as (ap (unmarked_lines c.args.settled.now) c.as_slice.ensures.value) c.write_unmarked_lines.ensures) (rw c.mark.ensures.mark at c.write_counts.ensures))))
    c.flush.ensures)
