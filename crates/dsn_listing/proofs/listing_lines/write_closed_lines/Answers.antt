use Rattle.std.proofs.Common.{sym, subst, rules}
use Rattle.dsn_device.proofs.UntilFailureLemmas.{writes-none, writes-then}
use Rattle.dsn_device.specs.UntilFailure.{WritesUntilFailure}
use Rattle.dsn_device.proofs.FlatMapLemmas.{flat_map-take-more}
use Rattle.dsn_listing.specs.ListingLines.{closed_line, closed_lines}
use Rattle.dsn_listing.proofs.listing_lines.write_closed_lines.Goals as goal

pub loop-key-init : goal.loop-key-init
unfolding closed_lines
loop-key-init g c = writes-none _ _

pub loop-key-preserved : goal.loop-key-preserved
unfolding closed_lines
loop-key-preserved g c =
    rw (sym (flat_map-take-more closed_line c.args.keys.now c.loop-key.key-index c.key-item.result c.loop-key-test.true), ← c.key-item.is)
    (writes-then c.loop-key.invariant (subst (WritesUntilFailure g.N.Drain _ _ _ _) (search rules) c.write.ensures))
