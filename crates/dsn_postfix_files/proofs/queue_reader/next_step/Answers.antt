use Rattle.std.proofs.Common.{sym, arith}
use Rattle.dsn_postfix_files.specs.QueueWalk.{QueuePlace}
use Rattle.dsn_postfix_files.proofs.QueueWalkLemmas.{next_is_last, pointer_less, pointer_more}
use Rattle.dsn_postfix_files.proofs.queue_reader.next_step.Goals as goal

pub loop-there-smaller : goal.loop-there-smaller
loop-there-smaller c =
    let here : QueuePlace = record { rest = c.loop-there.here.now; jumps = c.loop-there.left } in
    let next : QueuePlace = record { rest = c.in-Pointer.there.now; jumps = c.in-Pointer.fewer } in
    (pointer_less c.args.file.now here next (sym c.in-Pointer.ensures) c.loop-there.invariant.within).0

pub loop-there-preserved : goal.loop-there-preserved
loop-there-preserved c =
    let here : QueuePlace = record { rest = c.loop-there.here.now; jumps = c.loop-there.left } in
    let next : QueuePlace = record { rest = c.in-Pointer.there.now; jumps = c.in-Pointer.fewer } in
    let start : QueuePlace = record { rest = c.args.rest.now; jumps = c.args.jumps } in
    let less = pointer_less c.args.file.now here next (sym c.in-Pointer.ensures) c.loop-there.invariant.within in
    record {
      lead = pointer_more c.args.file.now start here next c.loop-there.invariant.lead (sym c.in-Pointer.ensures);
      within = less.1;
      before = omega (arith, less.0, c.loop-there.invariant.before);
    }

pub returns-in_default : goal.returns-in_default
returns-in_default c =
    let here : QueuePlace = record { rest = c.loop-there.here.now; jumps = c.loop-there.left } in
    let start : QueuePlace = record { rest = c.args.rest.now; jumps = c.args.jumps } in
    record {
      steps = record { here = here; pointers = c.loop-there.invariant.lead; is = sym c.step_at.ensures };
      next = next_is_last c.args.file.now start here c.step_at.result c.step_at.ensures c.loop-there.invariant.within c.loop-there.invariant.before c.in_default.not-Pointer;
    }
