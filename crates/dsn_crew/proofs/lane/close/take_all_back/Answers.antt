-- Each half is taken back; with the last one the receiving half knows what all have sent.
use Rattle.std.proofs.Common.{rules, ◌≡◌, All, ap, ◌∙◌, subst}
use Rattle.std.proofs.lemmas.List.Elements.{All-tail}
use Rattle.crossbeam_channel.specs.Ends.{sends_on, ruled_capacity}
use Rattle.std.specs.Vec.Iter.{into_iter_items}
use Rattle.dsn_crew.proofs.lane.CloseLemmas.{all_joined, few_more, joined_more, joined_takes, total_more}
use Rattle.dsn_crew.proofs.lane.RuleLemmas.{joins, settles}
use Rattle.dsn_crew.specs.lane.Halves.{Half}
use Rattle.dsn_crew.specs.inner.Halves.{lane_at, sending_of}
use Rattle.dsn_crew.specs.inner.Step.{IsLaneSettled}
use Rattle.dsn_crew.specs.declared.lane.lane_knowledge.LaneKnowledge.{LaneKnowledge}
use Rattle.dsn_crew.specs.declared.lane.lane_knowledge.LaneKnowledge.TheVariants.{Sends}
use Rattle.dsn_crew.proofs.lane.close.take_all_back.Goals as goal

pub loop-half-preserved : goal.loop-half-preserved
loop-half-preserved g c = record {
  iterator = (tt, tt);
  seat = search rules;
  receiver = joined_takes _ _ _ _ _ c.loop-half.invariant.receiver c.take_back.ensures.receiver;
  joined = joined_more _ _ _ _ _ _ _ c.take_back.ensures.receiver c.in-Some-half.ensures.steps.0 c.loop-half.invariant.joined;
  lanes = All-tail (λ (half : Half g.row.T.Denot). half.lane ≡ lane_at (sends_on c.last.inside.sender)) c.in-Some-half.half (into_iter_items c.next.new.self)
      (subst (All (λ (half : Half g.row.T.Denot). half.lane ≡ lane_at (sends_on c.last.inside.sender))) c.in-Some-half.ensures.steps.0 c.loop-half.invariant.lanes);
  total = total_more _ _ _ _ _ _ c.in-Some-half.ensures.steps.0 (c.from-sent-in-loop-half.ensures ∙ c.take_back.ensures.count) c.loop-half.invariant.total;
  few = few_more _ _ _ _ _ _ c.in-Some-half.ensures.steps.1 c.from-sent-in-loop-half.ensures c.take_back.type_inv c.loop-half.invariant.few;
}

pub absorb-requires-clause-rule : goal.absorb-requires-clause-rule
absorb-requires-clause-rule g c = joins _ _ _ _ _ _ _ _ _ _ c.loop-half.invariant.receiver c.last.invariant.1

pub learn_as-requires-clause-rule : goal.learn_as-requires-clause-rule
learn_as-requires-clause-rule g c =
    settles _ _ _ _ _ _
    (all_joined _ _ _ _ _ _ _ (into_iter_items c.loop-half.half-iterator) c.in-Some.last c.args.halves.items c.requires.receiver c.loop-half.invariant.joined (search rules) (c.last.invariant.1 ∙ ap (λ (half : Half g.row.T.Denot). Sends (ruled_capacity (sends_on c.last.inside.sender)) (sending_of half)) c.last.view_is) c.absorb.ensures.rule (search rules))

pub returns-clause-settled : goal.returns-clause-settled
returns-clause-settled g c =
    let is = all_joined _ _ _ _ _ _ _ (into_iter_items c.loop-half.half-iterator) c.in-Some.last c.args.halves.items c.requires.receiver c.loop-half.invariant.joined (search rules) (c.last.invariant.1 ∙ ap (λ (half : Half g.row.T.Denot). Sends (ruled_capacity (sends_on c.last.inside.sender)) (sending_of half)) c.last.view_is) c.absorb.ensures.rule (search rules) in
    (c.learn_as.ensures.rule.0, subst (λ (it : LaneKnowledge g.row.T.Denot). IsLaneSettled g.T.Carried.agent g.T.Carried.number it c.learn_as.ensures.rule.0) is c.learn_as.ensures.rule.1)
