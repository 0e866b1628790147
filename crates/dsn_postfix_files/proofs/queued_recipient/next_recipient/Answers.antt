use Rattle.std.proofs.Common.{◌≡◌, None, arith, subst, sym}
use Rattle.dsn_postfix_files.specs.QueueListing.{BrokenOff, WholeFile}
use Rattle.dsn_postfix_files.specs.QueueRecipients.{BeginsRecipients, RecipientFacts, RecipientsLeft, SaidBefore, state_of_kind}
use Rattle.dsn_postfix_files.specs.QueueRecord.{placed_bytes_in}
use Rattle.dsn_postfix_files.specs.QueueWalk.{QueuePlace}
use Rattle.dsn_postfix_files.proofs.QueueRecipientLemmas.{first_recipient, more_recipients, no_recipients}
use Rattle.dsn_postfix_files.proofs.queued_recipient.next_recipient.Goals as goal

pub returns-in-Some-clause-listed : goal.returns-in-Some-clause-listed
returns-in-Some-clause-listed c recipients ending left =
    let here : QueuePlace = record { rest = c.loop-found.here.now; jumps = c.loop-found.left } in
    let next : QueuePlace = record { rest = c.in-Record.after.now; jumps = c.in-Record.fewer } in
    let before : SaidBefore = record { original = c.loop-found.original.now; dsn_original = c.loop-found.dsn_original.now; notify_flags = c.loop-found.notify_flags } in
    subst (λ (facts : RecipientFacts). BeginsRecipients facts recipients ending (record { file = c.args.file.now; place = next })) (sym c.recipient.ensures)
    (first_recipient c.args.file.now here next before (placed_bytes_in c.in-Record.found) c.in-Some.state recipients ending c.in-Record.ensures.steps (sym c.in-Some.ensures) (c.loop-found.invariant.left recipients ending left))

pub loop-found-preserved : goal.loop-found-preserved
loop-found-preserved c =
    let here : QueuePlace = record { rest = c.loop-found.here.now; jumps = c.loop-found.left } in
    let next : QueuePlace = record { rest = c.in-Record.after.now; jumps = c.in-Record.fewer } in
    let before : SaidBefore = record { original = c.loop-found.original.now; dsn_original = c.loop-found.dsn_original.now; notify_flags = c.loop-found.notify_flags } in
    let none : state_of_kind c.in-Record.found.kind ≡ None = grind (arith, c.in_default.is, c.in_default.ensures, c.of_kind.ensures) in
    record {
      within = c.in-Record.ensures.next.1;
      fewer = omega (arith, c.in-Record.ensures.next.0, c.loop-found.invariant.fewer);
      left = λ recipients ending left.
          subst (λ (said : SaidBefore). RecipientsLeft (record { file = c.args.file.now; place = next }) said recipients ending) (sym c.after_record-later.ensures)
          (more_recipients c.args.file.now here next before (placed_bytes_in c.in-Record.found) recipients ending c.in-Record.ensures.steps none (c.loop-found.invariant.left recipients ending left));
    }

pub returns-in-End-clause-listed : goal.returns-in-End-clause-listed
returns-in-End-clause-listed c recipients ending left =
    let here : QueuePlace = record { rest = c.loop-found.here.now; jumps = c.loop-found.left } in
    let before : SaidBefore = record { original = c.loop-found.original.now; dsn_original = c.loop-found.dsn_original.now; notify_flags = c.loop-found.notify_flags } in
    no_recipients c.args.file.now here before WholeFile recipients ending c.in-End.ensures.steps (c.loop-found.invariant.left recipients ending left)

pub returns-in-Broken-clause-listed : goal.returns-in-Broken-clause-listed
returns-in-Broken-clause-listed c recipients ending left =
    let here : QueuePlace = record { rest = c.loop-found.here.now; jumps = c.loop-found.left } in
    let before : SaidBefore = record { original = c.loop-found.original.now; dsn_original = c.loop-found.dsn_original.now; notify_flags = c.loop-found.notify_flags } in
    no_recipients c.args.file.now here before BrokenOff recipients ending c.in-Broken.ensures.steps (c.loop-found.invariant.left recipients ending left)
