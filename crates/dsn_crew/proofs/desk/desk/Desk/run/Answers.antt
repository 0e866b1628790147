-- One request more is taken, after a run.
use Rattle.std.proofs.Common.{sym, subst, ◌∙◌}
use Rattle.dsn_crew.specs.KeeperHistory.{BeginsWith}
use Rattle.dsn_crew.proofs.desk.RunLemmas.{run_then}
use Rattle.dsn_crew.proofs.desk.desk.Desk.run.Goals as goal

pub loop-preserved : goal.loop-preserved
loop-preserved g c = record {
  run = λ before begins. run_then g.B.Keeper before g.K.Sink.takes _ _ _ _ _ _ _ (c.loop.invariant.run before begins) (c.in-Ok.ensures.run before (subst (λ start. BeginsWith g.B.Keeper start before) (sym c.loop.invariant.start) begins));
  start = c.in-Ok.ensures.start ∙ c.loop.invariant.start;
  places = c.in-Ok.ensures.places ∙ c.loop.invariant.places;
}
