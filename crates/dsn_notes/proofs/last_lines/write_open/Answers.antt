use Rattle.dsn_notes.specs.Notes.{open_lines}
use Rattle.dsn_notes.proofs.last_lines.write_open.Goals as goal

pub returns-in-Ok : goal.returns-in-Ok
unfolding open_lines
returns-in-Ok g c = rw (c.in-Ok.is, ← c.as_slice.ensures.value) c.write_open_lines.ensures

pub returns-in-Err : goal.returns-in-Err
unfolding open_lines
returns-in-Err g c =
    rw (c.in-Err.is, ← c.fault_line.ensures, ← c.bytes.ensures.same) c.write.ensures
