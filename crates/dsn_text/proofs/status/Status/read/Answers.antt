use Rattle.std.proofs.Common.{rules}
use Rattle.std.proofs.Math.Seq.{take-append_seam}
use Rattle.dsn_text.specs.inner.Kept.{longest_status}
use Rattle.dsn_text.proofs.StatusLemmas.{is_status_code-passes}
use Rattle.dsn_text.proofs.TextLemmas.{IsPadded-written}
use Rattle.dsn_text.proofs.status.Status.read.Goals as goal

pub invariant_of-result : goal.invariant_of-result
invariant_of-result c = rw c.copy_from_slice.ensures.after
    (rw (take-append_seam c.args.text.now _) (is_status_code-passes c.args.text.now (search rules)), IsPadded-written longest_status c.args.text.now)
