use Rattle.std.proofs.Common.{List, ℕ, refl, subst, sym}
use Rattle.std.specs.Borrow.{Bor}
use Rattle.std.specs.Option.{option_map}
use Rattle.dsn_postfix_files.specs.inner.QueueReading.{MessageLeft}
use Rattle.dsn_postfix_files.specs.MessageFacts.{SaidOfMessage, said_of_message}
use Rattle.dsn_postfix_files.specs.QueueListing.{BrokenOff, WholeFile}
use Rattle.dsn_postfix_files.specs.QueueRecord.{placed_bytes_in}
use Rattle.dsn_postfix_files.specs.QueueWalk.{QueuePlace}
use Rattle.dsn_postfix_files.proofs.MessageFactsLemmas.{more_said, no_more_said}
use Rattle.dsn_postfix_files.proofs.message_facts.MessageFacts.read.Goals as goal

pub loop-found-preserved : goal.loop-found-preserved
loop-found-preserved c =
    let text = λ (text : Bor (List ℕ)). text.now in
    let here : QueuePlace = record { rest = c.loop-found.here.now; jumps = c.loop-found.left } in
    let next : QueuePlace = record { rest = c.in-Record.after.now; jumps = c.in-Record.fewer } in
    let before : SaidOfMessage = record { arrival = c.loop-found.arrival; sender = option_map text c.loop-found.sender; envelope_id = option_map text c.loop-found.envelope_id; return_flags = c.loop-found.return_flags; message_id = option_map text c.loop-found.message_id } in
    record {
      within = c.in-Record.ensures.next.1;
      left = λ said ending from.
          subst (λ (so_far : SaidOfMessage). MessageLeft (record { file = c.args.file.now; place = next }) so_far said ending) (sym c.with_record-more.ensures)
          (more_said c.args.file.now here next before said (placed_bytes_in c.in-Record.found) ending c.in-Record.ensures.steps (c.loop-found.invariant.left said ending from));
    }

pub returns-in-End : goal.returns-in-End
returns-in-End c records ending come =
    let text = λ (text : Bor (List ℕ)). text.now in
    let here : QueuePlace = record { rest = c.loop-found.here.now; jumps = c.loop-found.left } in
    let before : SaidOfMessage = record { arrival = c.loop-found.arrival; sender = option_map text c.loop-found.sender; envelope_id = option_map text c.loop-found.envelope_id; return_flags = c.loop-found.return_flags; message_id = option_map text c.loop-found.message_id } in
    let ends = no_more_said c.args.file.now here WholeFile before (said_of_message records) ending c.in-End.ensures.steps (c.loop-found.invariant.left (said_of_message records) ending (record { records = records; come = come; are = refl })) in
    (ends.0, sym ends.1)

pub returns-in-Broken : goal.returns-in-Broken
returns-in-Broken c records ending come =
    let text = λ (text : Bor (List ℕ)). text.now in
    let here : QueuePlace = record { rest = c.loop-found.here.now; jumps = c.loop-found.left } in
    let before : SaidOfMessage = record { arrival = c.loop-found.arrival; sender = option_map text c.loop-found.sender; envelope_id = option_map text c.loop-found.envelope_id; return_flags = c.loop-found.return_flags; message_id = option_map text c.loop-found.message_id } in
    let ends = no_more_said c.args.file.now here BrokenOff before (said_of_message records) ending c.in-Broken.ensures.steps (c.loop-found.invariant.left (said_of_message records) ending (record { records = records; come = come; are = refl })) in
    (ends.0, sym ends.1)
