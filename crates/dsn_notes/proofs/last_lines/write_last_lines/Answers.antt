use Rattle.dsn_device.proofs.UntilFailureLemmas.{writes-then}
use Rattle.dsn_notes.specs.Notes.{end_lines}
use Rattle.dsn_notes.proofs.last_lines.write_last_lines.Goals as goal

pub returns-clause-noted : goal.returns-clause-noted
unfolding end_lines
returns-clause-noted g c =
    writes-then c.write_fault.ensures (writes-then c.write_outbox_fault.ensures (writes-then c.write_unsent-unsent.ensures.noted c.write_open.ensures))
