-- A lane with nothing in it meets the rule, and each agent's half is split off in its turn.
use Rattle.std.proofs.Common.{rules, ◌≡◌, ◌+◌, ℕ, [], ap, subst, sym, ◌∙◌}
use Rattle.dsn_crew.proofs.LaneHalfLemmas.{new_out, new_receiving}
use Rattle.dsn_crew.specs.lane.Halves.{Out}
use Rattle.dsn_crew.specs.inner.Halves.{lane_of}
use Rattle.dsn_crew.proofs.lane.open.open_lane.Goals as goal

pub new-requires-clause-kept : goal.new-requires-clause-kept
new-requires-clause-kept g c = (new_receiving g.T.Carried.agent g.T.Carried.number _ _ _ _ (search rules) (search rules) c.loop.invariant.1).1

pub returns-clause-out : goal.returns-clause-out
returns-clause-out g c =
    let all : c.loop.counter ≡ c.args.agents = search rules in
    let made = new_out (lane_of c.loop.pass) _ _ _ _ c.loop.invariant.1 ∙ ap (λ (n : ℕ). record { lane = lane_of c.loop.pass; first = c.args.first; past = c.args.first + n; taken = [] }) all in
    subst (λ (o : Out g.row.T.Denot). o ≡ record { lane = o.lane; first = c.args.first; past = c.args.first + c.args.agents; taken = [] }) (sym c.new.ensures) made
