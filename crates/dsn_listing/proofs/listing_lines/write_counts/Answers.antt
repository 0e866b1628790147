use Rattle.std.proofs.Common.{◌∙◌}
use Rattle.dsn_device.proofs.UntilFailureLemmas.{writes-as, writes-then}
use Rattle.dsn_listing.specs.ListingLines.{last_lines}
use Rattle.dsn_listing.proofs.listing_lines.write_counts.Goals as goal

pub returns : goal.returns
unfolding last_lines
returns g c =
    writes-then (writes-as (c.bytes.ensures.same ∙ c.marked_line.ensures) c.write.ensures)
    (writes-then (writes-as (c.bytes-2.ensures.same ∙ c.sealed_in.ensures) c.write-2.ensures) (writes-as (c.bytes-3.ensures.same ∙ c.bytes_in.ensures) c.write-3.ensures))
