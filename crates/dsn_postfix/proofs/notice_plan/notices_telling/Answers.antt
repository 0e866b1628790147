use Rattle.std.proofs.Common.{◌≡◌, ◌<◌, ◌∙◌, ◌++◌, ◌∷◌, [], List, ap, arith, drop, length, map, take}
use Rattle.dsn_postfix_files.specs.LogRecord.{logged_fields_in}
use Rattle.dsn_postfix.specs.NoticePlan.{most_told, notice_about, portions}
use Rattle.dsn_postfix_files.specs.declared.log_record.LogRecord.{LogRecord}
use Rattle.dsn_postfix.proofs.NoticePlanLemmas.{one_notice_more}
use Rattle.dsn_postfix.proofs.notice_plan.notices_telling.Goals as goal

pub loop-rest-preserved : goal.loop-rest-preserved
loop-rest-preserved c =
    let about = notice_about c.args.request.now c.args.notice.now in
    let most = most_told c.args.request.now in
    let rest = c.loop-rest.rest.now in
    let some : 0 < most = omega (arith, c.most_told-most.ensures.most, c.most_told-most.ensures.some) in
    let full : 0 < length rest = grind (arith, c.is_empty.ensures, c.loop-rest-test.ensures) in
    let outcomes : c.extend_from_slice.new.self.items ≡ take most rest = grind (arith, c.in_ok-extend_from_slice.ensures.items, c.new-outcomes.ensures.items, c.first_portion.ensures, c.most_told-most.ensures.most) in
    let after : c.other_portions-rest.result.now ≡ drop most rest = grind (arith, c.other_portions-rest.ensures, c.most_told-most.ensures.most) in
    let more : c.push.new.self.items ≡ c.loop-rest.notices.items ++ c.notice_about.result ∷ [] = c.in_ok-push.ensures.items in
    (λ i. more i ++ map about (portions most (map logged_fields_in (after i))))
    ∙ one_notice_more about most c.loop-rest.notices.items c.notice_about.result rest some full (c.notice_about.ensures ∙ ap (λ (xs : List LogRecord). about (map logged_fields_in xs)) outcomes)
    ∙ c.loop-rest.invariant
