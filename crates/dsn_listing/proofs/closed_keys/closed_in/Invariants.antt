use Rattle.std.proofs.Common.{◌≡◌, take}
use Rattle.dsn_ledger.specs.Forgetting.{closed_among}
use Rattle.dsn_listing.proofs.closed_keys.closed_in.Given as goal

abbrev pub invariant-loop-entry : goal.invariant-loop-entry
invariant-loop-entry l = l.keys.items ≡ closed_among (take l.entry-index l.entries)
