-- A send keeps the rule: its item is the next of the half's agent.
use Rattle.std.proofs.Common.{rules, ap, sym, ◌∙◌, length}
use Rattle.dsn_crew.proofs.LaneHalfLemmas.{keeps_sending}
use Rattle.dsn_crew.proofs.lane.RuleLemmas.{sends}
use Rattle.dsn_crew.specs.lane.Halves.{Half}
use Rattle.dsn_crew.proofs.lane.lane_in.LaneIn.send.Goals as goal

pub send_as-requires-clause-rule : goal.send_as-requires-clause-rule
send_as-requires-clause-rule g c =
    let is = sym c.self.view_is in (
      sends _ _ _ _ _ _ _ c.self.invariant.1 (c.requires.agent ∙ ap (λ (e : Half g.row.T.Denot). e.agent) is) (c.requires.number ∙ ap (λ (e : Half g.row.T.Denot). length e.sent) is),
      λ _ _ _ _. tt,
    )

pub invariant_of-self : goal.invariant_of-self
invariant_of-self g c =
    let is = sym c.self.view_is in
    let kept = keeps_sending g.T.Carried.agent g.T.Carried.number _ _ _ _ _ c.self.invariant.1 c.in-Ok.ensures.rule (c.requires.agent ∙ ap (λ (e : Half g.row.T.Denot). e.agent) is) (c.requires.number ∙ ap (λ (e : Half g.row.T.Denot). length e.sent) is) c.self.invariant.2 in
    (search rules, kept.0, kept.1)

pub returns-in-Ok-clause-numbered : goal.returns-in-Ok-clause-numbered
returns-in-Ok-clause-numbered g c =
    let is = sym c.self.view_is in
    let kept = keeps_sending g.T.Carried.agent g.T.Carried.number _ _ _ _ _ c.self.invariant.1 c.in-Ok.ensures.rule (c.requires.agent ∙ ap (λ (e : Half g.row.T.Denot). e.agent) is) (c.requires.number ∙ ap (λ (e : Half g.row.T.Denot). length e.sent) is) c.self.invariant.2 in
    (kept.1.mine, kept.1.numbered)
