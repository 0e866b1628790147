use Rattle.std.proofs.Common.{arith, rules, ◌∙◌}
use Rattle.std.proofs.KnownBytes.{Keeps-trans}
use Rattle.dsn_device.proofs.TransferLemmas.{Consumes-more}
use Rattle.dsn_device.proofs.transfer.fill.Goals as goal

pub loop-filled-preserved : goal.loop-filled-preserved
loop-filled-preserved g c =
    let kept = c.loop-filled.invariant in
    let n = c.in_ok-count.count in
    let read = c.in_ok-count.ensures in
    record {
      long = search rules;
      in_range = search rules;
      consumed = Consumes-more _ _ _ c.loop-filled.filled n _ c.loop-filled.buffer c.read.new.buffer kept.in_range (omega arith) read.bound.0 (omega arith) kept.consumed read.bytes.0;
      held = Keeps-trans _ _ _ kept.held read.held;
      no_flush = read.no_flush ∙ kept.no_flush;
      unflushed = read.unflushed ∙ kept.unflushed;
      count = read.count ∙ kept.count;
      steady = λ h. (read.steady (kept.steady h)).0;
    }
