use Rattle.std.proofs.Common.{take, arith, ◌++◌, ◌∙◌}
use Rattle.std.proofs.lemmas.Bool.Decides.{nat_tests}
use Rattle.std.proofs.KnownBytes.{Appends-trans, Keeps-trans}
use Rattle.dsn_device.proofs.ThroughoutLemmas.{stands_still_then}
use Rattle.dsn_device.proofs.TransferLemmas.{split-moved}
use Rattle.dsn_device.proofs.transfer.send.Goals as goal

pub loop-unsent-preserved : goal.loop-unsent-preserved
loop-unsent-preserved g c =
    let (done, split, appended) = c.loop-unsent.invariant.sent in
    let n = c.in_ok-taken.taken in
    let took = c.in_ok-taken.ensures in
    record {
      sent = (done ++ take n c.loop-unsent.unsent.now, split-moved _ done _ n split, Appends-trans _ _ _ _ _ appended took.bytes);
      unread = Keeps-trans _ _ _ c.loop-unsent.invariant.unread took.unread;
      marked = took.marked ∙ c.loop-unsent.invariant.marked;
      no_moment = stands_still_then c.loop-unsent.invariant.no_moment took.no_moment;
      no_flush = took.no_flush ∙ c.loop-unsent.invariant.no_flush;
      count = grind (arith, nat_tests, took.count);
      surely = λ h. took.surely (c.loop-unsent.invariant.surely h);
      steady = λ h. (took.steady (c.loop-unsent.invariant.steady h)).0;
    }
