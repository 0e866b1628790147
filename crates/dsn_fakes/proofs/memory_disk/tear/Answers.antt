use Rattle.std.proofs.Common.{◌<◌, List, ℕ, length, sym, subst, arith}
use Rattle.dsn_journal.specs.Disk.{Mixes}
use Rattle.dsn_journal.proofs.Mixing.{untouched}
use Rattle.dsn_fakes.proofs.MemoryCalls.{mixes_set}
use Rattle.dsn_fakes.proofs.memory_disk.tear.Goals as goal
use Rattle.dsn_fakes.proofs.memory_disk.tear.Goals.{then-lost-i-eq0, else-lost-i-eq0}

pub loop-i-init : goal.loop-i-init
loop-i-init c = untouched c.args.file.now c.args.written.now c.requires

pub loop-i-preserved : goal.loop-i-preserved
loop-i-preserved c =
    elim c.if-lost-i-eq0.branch [
      | then-lost-i-eq0 w ↦
          let below : c.loop-i.i < length c.loop-i.file = omega arith in
          subst (λ (f : List ℕ). Mixes c.args.file.now c.args.written.now f) (sym w.file-is) (mixes_set c.args.file.now c.args.written.now c.loop-i.file c.loop-i.i c.loop-i.invariant below)
      | else-lost-i-eq0 w ↦ subst (λ (f : List ℕ). Mixes c.args.file.now c.args.written.now f) (sym w.file-is) c.loop-i.invariant
    ]
