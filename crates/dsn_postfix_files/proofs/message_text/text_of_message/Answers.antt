use Rattle.std.proofs.Common.{◌≡◌, ◌++◌, ◌-◌, ◌<◌, ◌≤◌, Bool, true, false, List, ℕ, arith, length, refl, subst, sym, take}
use Rattle.dsn_postfix_files.specs.inner.QueueReading.{TextLeft}
use Rattle.dsn_postfix_files.specs.MessageText.{is_of_text, message_text, text_of_record}
use Rattle.dsn_postfix_files.specs.QueueListing.{BrokenOff, WholeFile}
use Rattle.dsn_postfix_files.specs.QueueRecord.{placed_bytes_in}
use Rattle.dsn_postfix_files.specs.QueueWalk.{QueuePlace}
use Rattle.dsn_postfix_files.proofs.MessageTextLemmas.{all_fits, had_room, more_text, no_more_text, no_room_left, no_text_yet, text_ends}
use Rattle.dsn_postfix_files.proofs.message_text.text_of_message.Goals as goal

pub returns-then-not-is_of_text : goal.returns-then-not-is_of_text
returns-then-not-is_of_text c records ending come =
    let here : QueuePlace = record { rest = c.loop-found.here.now; jumps = c.loop-found.left } in
    let next : QueuePlace = record { rest = c.in-Record.after.now; jumps = c.in-Record.fewer } in
    let within : c.loop-found.within ≡ true = grind (arith, c.if-within.true) in
    let other : is_of_text c.in-Record.found.kind ≡ false = grind (arith, c.is_of_text.ensures, c.if-not-is_of_text.ensures) in
    all_fits c.args.limit c.loop-found.text.items (message_text records) c.loop-found.invariant.fits
    (text_ends c.args.file.now here next c.loop-found.text.items (message_text records) (placed_bytes_in c.in-Record.found) ending c.in-Record.ensures.steps other
    (subst (λ (b : Bool). TextLeft (record { file = c.args.file.now; place = here }) c.loop-found.text.items b (message_text records) ending) within
    (c.loop-found.invariant.left (message_text records) ending (record { records = records; come = come; are = refl }))))

pub returns-then-len-limit : goal.returns-then-len-limit
returns-then-len-limit c records ending come =
    let here : QueuePlace = record { rest = c.loop-found.here.now; jumps = c.loop-found.left } in
    let next : QueuePlace = record { rest = c.in-Record.after.now; jumps = c.in-Record.fewer } in
    let within : c.loop-found.within ≡ true = grind (arith, c.if-within.true) in
    let of_text : is_of_text c.in-Record.found.kind ≡ true = grind (arith, c.is_of_text.ensures, c.if-not-is_of_text.ensures) in
    let full : c.args.limit ≤ length c.push_text.new.text.items = omega (arith, c.if-len-limit.true, c.len.ensures) in
    no_room_left c.args.file.now here next c.args.limit c.loop-found.text.items c.push_text.new.text.items (message_text records) (placed_bytes_in c.in-Record.found) ending c.in-Record.ensures.steps of_text c.loop-found.invariant.fits c.in_ok-push_text-in-Record.ensures full
    (subst (λ (b : Bool). TextLeft (record { file = c.args.file.now; place = here }) c.loop-found.text.items b (message_text records) ending) within
    (c.loop-found.invariant.left (message_text records) ending (record { records = records; come = come; are = refl })))

pub loop-found-preserved-else-len-limit : goal.loop-found-preserved-else-len-limit
loop-found-preserved-else-len-limit c =
    let here : QueuePlace = record { rest = c.loop-found.here.now; jumps = c.loop-found.left } in
    let next : QueuePlace = record { rest = c.in-Record.after.now; jumps = c.in-Record.fewer } in
    let within : c.loop-found.within ≡ true = grind (arith, c.if-within.true) in
    let of_text : is_of_text c.in-Record.found.kind ≡ true = grind (arith, c.is_of_text.ensures, c.if-not-is_of_text.ensures) in
    let below : length c.push_text.new.text.items < c.args.limit = omega (arith, c.if-len-limit.false, c.len.ensures) in
    let added : c.push_text.new.text.items ≡ c.loop-found.text.items ++ text_of_record (placed_bytes_in c.in-Record.found) =
    had_room c.args.limit c.loop-found.text.items (text_of_record (placed_bytes_in c.in-Record.found)) c.push_text.new.text.items c.in_ok-push_text-in-Record.ensures below in
    record {
      within = c.in-Record.ensures.next.1;
      fits = omega (arith, below);
      left = λ text ending from.
          subst (λ (b : Bool). TextLeft (record { file = c.args.file.now; place = next }) c.push_text.new.text.items b text ending) (sym within)
          (subst (λ (so_far : List ℕ). TextLeft (record { file = c.args.file.now; place = next }) so_far true text ending) (sym added)
          (more_text c.args.file.now here next c.loop-found.text.items text (placed_bytes_in c.in-Record.found) ending c.in-Record.ensures.steps of_text
          (subst (λ (b : Bool). TextLeft (record { file = c.args.file.now; place = here }) c.loop-found.text.items b text ending) within (c.loop-found.invariant.left text ending from))));
    }

pub loop-found-preserved : goal.loop-found-preserved
loop-found-preserved c =
    let here : QueuePlace = record { rest = c.loop-found.here.now; jumps = c.loop-found.left } in
    let next : QueuePlace = record { rest = c.in-Record.after.now; jumps = c.in-Record.fewer } in
    let before : c.loop-found.within ≡ false = grind (arith, c.if-within.false) in
    record {
      within = c.in-Record.ensures.next.1;
      fits = c.loop-found.invariant.fits;
      left = λ text ending from.
          no_text_yet c.args.file.now here next c.loop-found.text.items text (placed_bytes_in c.in-Record.found) ending c.in-Record.ensures.steps
          (subst (λ (b : Bool). TextLeft (record { file = c.args.file.now; place = here }) c.loop-found.text.items b text ending) before (c.loop-found.invariant.left text ending from));
    }

pub returns-in-End : goal.returns-in-End
returns-in-End c records ending come =
    let here : QueuePlace = record { rest = c.loop-found.here.now; jumps = c.loop-found.left } in
    all_fits c.args.limit c.loop-found.text.items (message_text records) c.loop-found.invariant.fits
    (no_more_text c.args.file.now here WholeFile c.loop-found.text.items (message_text records) c.loop-found.within ending c.in-End.ensures.steps
    (c.loop-found.invariant.left (message_text records) ending (record { records = records; come = come; are = refl })))

pub returns-in-Broken : goal.returns-in-Broken
returns-in-Broken c records ending come =
    let here : QueuePlace = record { rest = c.loop-found.here.now; jumps = c.loop-found.left } in
    all_fits c.args.limit c.loop-found.text.items (message_text records) c.loop-found.invariant.fits
    (no_more_text c.args.file.now here BrokenOff c.loop-found.text.items (message_text records) c.loop-found.within ending c.in-Broken.ensures.steps
    (c.loop-found.invariant.left (message_text records) ending (record { records = records; come = come; are = refl })))
