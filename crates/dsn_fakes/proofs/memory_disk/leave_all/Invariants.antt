-- What a read returns after the calls so far, and what a crash leaves after them.
use Rattle.std.proofs.Common.{◌≡◌, take}
use Rattle.dsn_fakes.specs.MemoryDisk.{seen_after, LeftAfter}
use Rattle.dsn_fakes.proofs.memory_disk.leave_all.Given as goal

abbrev pub invariant-loop-call : goal.invariant-loop-call
invariant-loop-call l = record {
  seen : l.seen ≡ seen_after (take l.call-index l.calls) l.initial.seen;
  left : LeftAfter (take l.call-index l.calls) l.initial.seen (λ first. first ≡ l.initial.left) l.left;
}
