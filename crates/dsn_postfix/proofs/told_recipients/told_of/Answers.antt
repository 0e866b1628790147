use Rattle.std.proofs.Common.{◌≡◌, ◌∙◌, ◌<◌, ℕ, drop, map, reverse, sym, ap, arith}
use Rattle.dsn_postfix_files.specs.LogRecord.{logged_fields_in}
use Rattle.dsn_postfix.specs.NoticePlan.{last_of_each, told_of}
use Rattle.dsn_postfix_files.specs.QueueRecipients.{recipient_facts_in}
use Rattle.dsn_postfix.proofs.ToldLemmas.{passed_step, reversed_told, seen_step, told_step, wanted_in}
use Rattle.dsn_postfix.proofs.told_recipients.told_of.Goals as goal

pub loop-left-preserved-in-Continue-branch-3 : goal.loop-left-preserved-in-Continue-branch-3
loop-left-preserved-in-Continue-branch-3 c =
    let service = c.args.service in
    let request = c.args.request.now in
    let queued = map recipient_facts_in c.args.queued.now in
    let records = c.args.records.now in
    let left = c.loop-left.left in
    let later = wanted_in service request queued (drop left records) in
    let before = c.loop-left.invariant in
    let some : 0 < left = grind (arith, c.loop-left-test.true) in
    record {
      within = omega (arith, before.within);
      seen = seen_step _ service request queued records left c.told_as-found.result c.is_told.new.seen some before.within c.told_as-found.ensures
          (c.in_ok-tells.ensures.seen service queued later c.in_ok-past.ensures before.seen);
      told = ap (λ told. reverse (map logged_fields_in told)) c.in_ok-push.ensures.items
          ∙ told_step _ service request queued records c.loop-left.told.items left c.told_as-found.result some before.within c.told_as-found.ensures
          (sym c.if-tells.true ∙ c.in_ok-tells.ensures.told service queued later c.in_ok-past.ensures before.seen)
          before.told;
    }

pub loop-left-preserved : goal.loop-left-preserved
loop-left-preserved c =
    let service = c.args.service in
    let request = c.args.request.now in
    let queued = map recipient_facts_in c.args.queued.now in
    let records = c.args.records.now in
    let left = c.loop-left.left in
    let later = wanted_in service request queued (drop left records) in
    let before = c.loop-left.invariant in
    let some : 0 < left = grind (arith, c.loop-left-test.true) in
    record {
      within = omega (arith, before.within);
      seen = seen_step _ service request queued records left c.told_as-found.result c.is_told.new.seen some before.within c.told_as-found.ensures
          (c.in_ok-tells.ensures.seen service queued later c.in_ok-past.ensures before.seen);
      told = passed_step _ service request queued records c.loop-left.told.items left c.told_as-found.result some before.within c.told_as-found.ensures
          (sym c.if-tells.false ∙ c.in_ok-tells.ensures.told service queued later c.in_ok-past.ensures before.seen)
          before.told;
    }

pub returns : goal.returns
returns c =
    let service = c.args.service in
    let request = c.args.request.now in
    let queued = map recipient_facts_in c.args.queued.now in
    let records = c.args.records.now in
    let none : c.loop-left.left ≡ 0 = omega (arith, c.loop-left-test.false) in
    reversed_told c.loop-left.told.items c.reverse.new.self.items (told_of service request queued (map logged_fields_in records)) c.reverse.ensures.items
    (c.loop-left.invariant.told ∙ ap (λ (n : ℕ). last_of_each (wanted_in service request queued (drop n records))) none)
