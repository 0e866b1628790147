use Rattle.std.proofs.Common.{sym, subst, rules}
use Rattle.dsn_device.proofs.UntilFailureLemmas.{writes-none, writes-then}
use Rattle.dsn_device.specs.UntilFailure.{WritesUntilFailure}
use Rattle.dsn_device.proofs.FlatMapLemmas.{flat_map-take-more}
use Rattle.dsn_notes.specs.Notes.{open_line}
use Rattle.dsn_notes.proofs.last_lines.write_open_lines.Goals as goal

pub loop-line-init : goal.loop-line-init
loop-line-init g c = writes-none _ _

pub loop-line-preserved : goal.loop-line-preserved
loop-line-preserved g c =
    rw (sym (flat_map-take-more open_line c.args.lines.now c.loop-line.line-index c.line-item.result c.loop-line-test.true), ← c.line-item.is)
    (writes-then c.loop-line.invariant (subst (WritesUntilFailure g.N.Drain _ _ _ _) (search rules) c.write.ensures))
