use Rattle.std.proofs.Common.{rules}
use Rattle.std.proofs.Math.Seq.{take-append_seam}
use Rattle.dsn_text.specs.Text.{longest_queue_id}
use Rattle.dsn_text.proofs.TextLemmas.{IsPadded-written}
use Rattle.dsn_text.proofs.queue_id.QueueId.new.Goals as goal

pub invariant_of-result : goal.invariant_of-result
invariant_of-result c = rw c.copy_from_slice.ensures.after
    (rw (take-append_seam c.args.text.now _) (search rules), IsPadded-written longest_queue_id c.args.text.now)
