-- One request more is taken while agents are left.
use Rattle.std.proofs.Common.{rules, ◌≡◌, ◌+◌, ◌<◌, ◌≤◌, List, [], ◌∷◌, ◌++◌, length, ap, sym, ◌∙◌, subst, append_assoc, length-append, arith}
use Rattle.std.specs.Option.{option_to_list}
use Rattle.std.specs.Prelude.{IfSome, Option}
use Rattle.dsn_outcome.specs.Request.{Request}
use Rattle.dsn_crew.proofs.desk.IntakeLemmas.{all_from, came_in_time, bit_small, goodbyes_few, goodbyes_then}
use Rattle.dsn_crew.proofs.desk.intake.take_together.Goals as goal

pub overflow_add-counted-in-loop : goal.overflow_add-counted-in-loop
overflow_add-counted-in-loop g c =
    let few = goodbyes_few c.loop.waiting.items in
    let counted = c.loop.invariant.counted in
    let some = c.loop.invariant.together in
    let one : c.from-counted.result ≤ 1 = bit_small c.from-counted.result c.is_bye-in-loop.result (search rules) in
    let bound : c.args.heard < 9223372036854775808 = c.requires.few in
    let low : c.loop.counted ≤ 9223372036854775900 = omega (arith, few, counted, some.0, some.1, bound) in record { fits = omega (arith, low, one) }

pub loop-preserved : goal.loop-preserved
loop-preserved g c =
    let some_more = c.in-Ok-Some.ensures in
    let item = some_more.taken ∙ ap (λ (it : Option Request). c.loop.lane.taken ++ option_to_list it) c.in-Ok-Some.field-0-is in
    let agent = subst (λ (it : Option Request). IfSome it (λ item. (c.loop.lane.first ≤ item.agent) × (item.agent < c.loop.lane.past))) c.in-Ok-Some.field-0-is some_more.agent in
    let more = c.push_back_reserved-in-loop.ensures.items in
    let long : length c.push_back_reserved-in-loop.new.self.items ≡ length c.loop.waiting.items + 1 = ap length more ∙ length-append c.loop.waiting.items (c.in-Ok-Some.request ∷ []) in
    let some = c.loop.invariant.together in
    let left = c.if-counted-agents.false in
    let before = c.loop.invariant.same in record {
      same = (some_more.same.0 ∙ before.0, some_more.same.1 ∙ before.1, some_more.same.2 ∙ before.2);
      taken =
          item
          ∙ (ap (λ (q : List Request). q ++ c.in-Ok-Some.request ∷ []) c.loop.invariant.taken
          ∙ (append_assoc c.args.lane.now.taken c.loop.waiting.items (c.in-Ok-Some.request ∷ []) ∙ ap (λ (q : List Request). c.args.lane.now.taken ++ q) (sym more)));
      some = omega arith;
      together = (omega arith, omega arith);
      room = (let was = c.loop.invariant.room in let same = c.push_back_reserved-in-loop.ensures.capacity in omega arith);
      agents = all_from c.args.lane.now.past _ _ c.in-Ok-Some.request more (let here = agent.1 in let past = before.2 in omega arith) c.loop.invariant.agents;
      numbered = some_more.numbered;
      in_time = came_in_time c.args.heard c.loop.counted c.args.agents _ _ c.in-Ok-Some.request c.loop.invariant.counted (search rules) more c.loop.invariant.in_time;
      counted = goodbyes_then c.args.heard c.loop.counted c.from-counted.result c.is_bye-in-loop.result _ _ c.in-Ok-Some.request c.loop.invariant.counted more (search rules) (search rules);
    }
