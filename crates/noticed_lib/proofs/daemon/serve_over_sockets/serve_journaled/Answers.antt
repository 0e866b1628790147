use Rattle.std.proofs.Common.{inl, refl}
use Rattle.noticed_lib.proofs.daemon.ServeLemmas.{no-ports-over, no_crew, over-uses, ports-fit}
use Rattle.noticed_lib.proofs.daemon.serve_over_sockets.serve_journaled.Goals as goal

pub returns-in-Ok : goal.returns-in-Ok
returns-in-Ok g c = record {
  crew = λ _.
      inl (rw (← c.in-Ok.ensures.count) (over-uses _ (λ one. refl) _ _ _ _ _ _ _ _ _ (ports-fit g.H.Watch.may_end (λ port. port.watch.now) (λ port. port.left) c.args.watch.now c.args.serving.max_use _ c.in-Ok.ensures.uses) _ _ _ _ _ _ _ _ c.serve_ports_over.ensures));
  none = λ few. absurd (no_crew c.args.serving.agents c.in-Ok.ensures.crew few);
}

pub returns-in-Err : goal.returns-in-Err
returns-in-Err g c = no-ports-over _ _ _ _ c.in-Err.cause c.in-Err.ensures.none (rw c.code.ensures at c.write_not_started.ensures.notes, c.write_not_started.ensures.journal, c.write_not_started.ensures.marks)
