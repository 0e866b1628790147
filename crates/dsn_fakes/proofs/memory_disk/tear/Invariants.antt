-- Each byte is the old or the written one.
use Rattle.dsn_journal.specs.Disk.{Mixes}
use Rattle.dsn_fakes.proofs.memory_disk.tear.Given as goal

abbrev pub invariant-loop-i : goal.invariant-loop-i
invariant-loop-i l = Mixes l.initial.file l.written l.file
