use Rattle.std.proofs.Common.{inl, refl}
use Rattle.noticed_lib.proofs.daemon.ServeLemmas.{no_crew, ports-fit, server-uses}
use Rattle.noticed_lib.proofs.daemon.serve_over_sockets.serve_submitting.Goals as goal

pub returns-in-Ok : goal.returns-in-Ok
returns-in-Ok g c = record {
  crew = λ _.
      inl (rw (← c.in-Ok.ensures.count) (server-uses _ (λ one. refl) _ _ _ _ _ _ _ _ _ _ _ _ (ports-fit g.H.Watch.may_end (λ port. port.watch.now) (λ port. port.left) c.args.watch.now c.args.serving.now.max_use _ c.in-Ok.ensures.uses) _ _ _ _ _ _ c.serve_ports_to_server.ensures));
  none = λ few. absurd (no_crew c.args.serving.now.agents c.in-Ok.ensures.crew few);
}
