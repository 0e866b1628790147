-- If there are too few ports or too many, nothing began.
use Rattle.dsn_crew.proofs.CrewLemmas.{never_counted, never_ran}
use Rattle.dsn_crew.specs.declared.crew_cause.CrewCause.TheVariants as causes
use Rattle.dsn_crew.proofs.crew_run.run_crew_over.Goals as goal

pub returns-then-agents-eq0-clause-run : goal.returns-then-agents-eq0-clause-run
returns-then-agents-eq0-clause-run g c =
    never_ran g.B.Keeper g.P.Port g.O.Outlet c.args.book c.args.ports.items c.args.outlet causes.PortCount _ _ g.met.B.Keeper.leaves_kept c.unbegun.ensures
    (λ start first by before with_it. never_counted g.B.Keeper g.O.Outlet start first c.args.outlet before _ c.args.book _ _ with_it.0 c.into_left.ensures c.unbegun.ensures)
